use Rattle.std.proofs.Common.{◌<◌, length, ◌∙◌, arith, rules}
use Rattle.std.proofs.lemmas.Grind.{common_steps}
use Rattle.std.proofs.lemmas.Bool.Decides.{nat_tests}
use Rattle.rules.specs.Tags.{literal}
use Rattle.tags.proofs.Literals.{named_at}
use Rattle.tags.proofs.tag.Tag.literal.Goals as goal

pub returns-in_default : goal.returns-in_default
unfolding literal
returns-in_default c =
    let h : 0 < length c.ahead-rest.result.now = search rules in
    let e = c.eat_identifier.ensures ∙ named_at _ _ h in
    grind (arith, common_steps, nat_tests, e)
