use Rattle.spaces.proofs.Tails.{Back}
use Rattle.spaces.proofs.run_backward.Given as goal

abbrev pub invariant-loop-c : goal.invariant-loop-c
invariant-loop-c g l = Back (g.C.CharSet.has l.set) l.front l.start

abbrev pub decreases-loop-c : goal.decreases-loop-c
decreases-loop-c g l = l.start
