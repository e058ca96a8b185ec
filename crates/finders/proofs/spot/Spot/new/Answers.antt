use Rattle.std.proofs.Common.{sym}
use Rattle.finder.proofs.Lines.{blank_none}
use Rattle.finders.proofs.spot.Spot.new.Goals as goal

pub invariant_of-result-clause-known : goal.invariant_of-result-clause-known
invariant_of-result-clause-known c = sym blank_none
