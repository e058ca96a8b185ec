use Rattle.std.proofs.Common.{◌-◌, ◌≤◌, length}
use Rattle.rules.specs.Config.{config_of}
use Rattle.raws.proofs.Found.{Clear}
use Rattle.raws.proofs.find_end_raw.Given as goal

abbrev pub invariant-loop-distance : goal.invariant-loop-distance
invariant-loop-distance l = (l.at ≤ length l.rest) × Clear (config_of l.settings) l.rest l.at

abbrev pub decreases-loop-distance : goal.decreases-loop-distance
decreases-loop-distance l = length l.rest - l.at
