use Rattle.std.proofs.Common.{◌≡◌, ◌+◌, ◌≤◌, true, List, ◌++◌, length}
use Rattle.std.specs.Option.{option_to_list}
use Rattle.finder.specs.Finding.{Opening}
use Rattle.listings.specs.Rows.{is_white, put, joined}
use Rattle.listings.proofs.rows.Rows.join_whites.Given as goal

-- the row so far, in front of what is still to come, is what the layer means
abbrev pub invariant-loop-white : goal.invariant-loop-white
invariant-loop-white g l =
    (g.S.Stream.serves l.initial.self.pieces.below (g.F.Finder.openings l.finder) →
    (put l.initial.row (joined (option_to_list l.initial.self.pieces.held ++ g.S.Stream.items l.initial.self.pieces.below)) ≡ put l.row (joined (option_to_list l.self.pieces.held ++ g.S.Stream.items l.self.pieces.below)))
    × (g.S.Stream.ending l.self.pieces.below ≡ g.S.Stream.ending l.initial.self.pieces.below))
    × (is_white l.row.kind ≡ true)
    × ((os : List Opening) → g.S.Stream.serves l.initial.self.pieces.below os → g.S.Stream.serves l.self.pieces.below os)
    × (length (option_to_list l.self.pieces.held) + g.S.Stream.left l.self.pieces.below ≤ length (option_to_list l.initial.self.pieces.held) + g.S.Stream.left l.initial.self.pieces.below)

abbrev pub decreases-loop-white : goal.decreases-loop-white
decreases-loop-white g l = length (option_to_list l.self.pieces.held) + g.S.Stream.left l.self.pieces.below
