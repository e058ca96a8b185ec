use Rattle.std.proofs.Common.{◌-◌, length}
use Rattle.spaces.proofs.Runs.{Ran}
use Rattle.spaces.proofs.run_forward.Given as goal

abbrev pub invariant-loop-c : goal.invariant-loop-c
invariant-loop-c g l = Ran (g.C.CharSet.has l.set) l.s l.end

abbrev pub decreases-loop-c : goal.decreases-loop-c
decreases-loop-c g l = length l.s - l.end
