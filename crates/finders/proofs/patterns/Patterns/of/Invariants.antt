use Rattle.std.proofs.Common.{◌≤◌}
use Rattle.syntax.specs.Names.{markers}
use Rattle.syntax.specs.Openings.{setting_of}
use Rattle.finders.specs.Meant.{openings_in}
use Rattle.finders.proofs.Entries.{EntersFrom}
use Rattle.finders.proofs.patterns.Patterns.of.Given as goal

abbrev pub invariant-loop-marker : goal.invariant-loop-marker
invariant-loop-marker l = (l.patterns.count ≤ l.marker-index) × EntersFrom (setting_of l.settings) markers l.marker-index (openings_in l.patterns)
