use Rattle.std.proofs.Common.{◌≡◌, ◌++◌, string_bytes}
use Rattle.finders.specs.Defaults.{default_openings}
use Rattle.listings.specs.Listing.{lines}
use Rattle.listings.proofs.add_lines.Given as goal

-- what is written, with the lines still to come, is the whole
abbrev pub invariant-loop-row : goal.invariant-loop-row
invariant-loop-row g l =
    g.S.Stream.serves l.initial.rows default_openings →
    (g.S.Stream.serves l.rows default_openings)
    × (string_bytes l.initial.out ++ lines l.initial.reached (g.S.Stream.items l.initial.rows) (g.S.Stream.ending l.initial.rows) ≡ string_bytes l.out ++ lines l.reached (g.S.Stream.items l.rows) (g.S.Stream.ending l.rows))

abbrev pub decreases-loop-row : goal.decreases-loop-row
decreases-loop-row g l = g.S.Stream.left l.rows
