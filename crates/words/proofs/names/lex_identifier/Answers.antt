use Rattle.std.proofs.Common.{◌≡◌, get_or, true, rules}
use Rattle.rules.specs.Bytes.{leads_name}
use Rattle.words.proofs.Runs.{name_longest}
use Rattle.words.proofs.names.lex_identifier.Goals as goal

pub returns-in-len1-up-clause-longest : goal.returns-in-len1-up-clause-longest
returns-in-len1-up-clause-longest c =
    let e : leads_name (get_or c.args.rest.now 0 0) ≡ true = search rules in
    name_longest c.args.rest.now c.part_run.result e c.part_run.ensures
