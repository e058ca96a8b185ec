use Rattle.std.proofs.Common.{◌-◌, ◌≤◌, length}
use Rattle.openings.proofs.run.Given as goal

abbrev pub invariant-loop-distance : goal.invariant-loop-distance
invariant-loop-distance g l = l.offset ≤ length l.source

abbrev pub decreases-loop-distance : goal.decreases-loop-distance
decreases-loop-distance g l = length l.source - l.offset
