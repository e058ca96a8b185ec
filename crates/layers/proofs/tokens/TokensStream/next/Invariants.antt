use Rattle.std.proofs.Common.{◌≡◌, ◌≤◌, List}
use Rattle.finder.specs.Finding.{Opening}
use Rattle.layers.specs.Layers.{drop_gaps}
use Rattle.layers.proofs.tokens.TokensStream.next.Given as goal

-- gaps taken off the stream below leave the meaning
abbrev pub invariant-loop-x : goal.invariant-loop-x
invariant-loop-x g l =
    (g.S.Stream.serves l.initial.self.below (g.F.Finder.openings l.finder) →
    (drop_gaps g.S.Item.Gap.gap (g.S.Stream.items l.initial.self.below) ≡ drop_gaps g.S.Item.Gap.gap (g.S.Stream.items l.self.below))
    × (g.S.Stream.ending l.self.below ≡ g.S.Stream.ending l.initial.self.below))
    × ((os : List Opening) → g.S.Stream.serves l.initial.self.below os → g.S.Stream.serves l.self.below os)
    × (g.S.Stream.left l.self.below ≤ g.S.Stream.left l.initial.self.below)

abbrev pub decreases-loop-x : goal.decreases-loop-x
decreases-loop-x g l = g.S.Stream.left l.self.below
