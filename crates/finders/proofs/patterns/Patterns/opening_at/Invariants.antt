use Rattle.finders.specs.Meant.{openings_in}
use Rattle.finders.specs.Spots.{behind, ahead, Stays}
use Rattle.finders.proofs.Sorted.{From}
use Rattle.finders.proofs.patterns.Patterns.opening_at.Given as goal

abbrev pub invariant-loop-pattern : goal.invariant-loop-pattern
invariant-loop-pattern l = record {
  stays : Stays l.initial.spot l.spot;
  tried : From (behind l.initial.spot) (ahead l.initial.spot) (openings_in l.self) l.pattern-index;
}
