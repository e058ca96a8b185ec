-- What a matcher means.
use Rattle.std.specs.Prelude.{List}
use Rattle.finder.specs.Finding.{Opening}
use Rattle.finders.specs.declared.patterns.Patterns.{Patterns}
use Rattle.finders.specs.declared.matcher.StartMarkerMatcher.{StartMarkerMatcher}
use Rattle.finders.specs.Patterns.{openings_of_first}

-- the openings of the patterns, in their order
abbrev pub openings_in : Patterns → List Opening
openings_in p = openings_of_first p.count p.list

-- the openings of a matcher
abbrev pub meant : StartMarkerMatcher → List Opening
meant m = openings_in m.patterns
