use Rattle.std.proofs.Common.{◌≡◌, Some, Option, arith, rules}
use Rattle.std.proofs.lemmas.Grind.{common_steps}
use Rattle.byte_search.specs.Search.{stands_at}
use Rattle.rules.specs.Tags.{operators, first_standing}
use Rattle.pieces.specs.declared.kind.Operator.{Operator}
use Rattle.pieces.specs.declared.kind.Operator.TheVariants.{Eq, Ne, Gte, Lte}
use Rattle.words.proofs.Operating.{first_operator}
use Rattle.words.proofs.operators.operator.Goals as goal

pub returns-in-61-clause-first : goal.returns-in-61-clause-first
unfolding first_standing stands_at
returns-in-61-clause-first c =
    let r : Option Operator = Some Eq in
    let e : r ≡ first_standing operators c.args.rest.now = search rules in
    first_operator c.args.rest.now r e

pub returns-in-33-clause-first : goal.returns-in-33-clause-first
unfolding first_standing stands_at
returns-in-33-clause-first c =
    let r : Option Operator = Some Ne in
    let e : r ≡ first_standing operators c.args.rest.now = search rules in
    first_operator c.args.rest.now r e

pub returns-in-62-clause-first : goal.returns-in-62-clause-first
unfolding first_standing stands_at
returns-in-62-clause-first c =
    let r : Option Operator = Some Gte in
    let e : r ≡ first_standing operators c.args.rest.now = search rules in
    first_operator c.args.rest.now r e

pub returns-in-60-clause-first : goal.returns-in-60-clause-first
unfolding first_standing stands_at
returns-in-60-clause-first c =
    let r : Option Operator = Some Lte in
    let e : r ≡ first_standing operators c.args.rest.now = search rules in
    first_operator c.args.rest.now r e

pub returns-in-len1-up-clause-first : goal.returns-in-len1-up-clause-first
unfolding first_standing stands_at
returns-in-len1-up-clause-first c =
    let e : c.single.result ≡ first_standing operators c.args.rest.now = grind (arith, common_steps) in
    first_operator c.args.rest.now c.single.result e
