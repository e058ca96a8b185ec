use Rattle.finders.specs.Defaults.{default_openings}
use Rattle.finders.proofs.Places.{Walked}
use Rattle.finders.proofs.defaults.find_start_marker_memchr.Given as goal

abbrev pub invariant-loop-distance : goal.invariant-loop-distance
invariant-loop-distance l = Walked 123 default_openings l.source l.rest l.offset l.distance-iterator
