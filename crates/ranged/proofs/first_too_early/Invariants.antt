use Rattle.ranged.proofs.Early.{Left}
use Rattle.ranged.proofs.first_too_early.Given as goal

abbrev pub invariant-loop-i : goal.invariant-loop-i
invariant-loop-i g l = Left g.R.Ranged.begins g.R.Ranged.ends l.records l.i l.last
