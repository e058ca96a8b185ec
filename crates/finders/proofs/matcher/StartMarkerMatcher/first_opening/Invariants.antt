use Rattle.std.proofs.Common.{◌≡◌, ◌-◌, length}
use Rattle.finders.specs.Meant.{meant}
use Rattle.finders.proofs.Clear.{Clear}
use Rattle.finders.proofs.matcher.StartMarkerMatcher.first_opening.Given as goal

abbrev pub invariant-loop-d : goal.invariant-loop-d
invariant-loop-d l = record {
  same : l.spot.source.now ≡ l.source;
  clear : Clear (meant l.self) l.source l.offset l.spot.at;
}

abbrev pub decreases-loop-d : goal.decreases-loop-d
decreases-loop-d l = length l.source - l.spot.at
