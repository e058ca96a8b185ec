use Rattle.std.proofs.Common.{rules}
use Rattle.escape.proofs.Steps.{byte_told}
use Rattle.escape.proofs.source.Source.byte_escape.Goals as goal

pub returns-clause-value : goal.returns-clause-value
returns-clause-value c = let h = c.in_ok-code.ensures.value in search (rules, byte_told)
