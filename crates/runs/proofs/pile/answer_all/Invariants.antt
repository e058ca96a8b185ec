use Rattle.std.proofs.Common.{List}
use Rattle.finder.specs.Finding.{Opening}
use Rattle.runs.specs.Piles.{meant, with_held, AllServe}
use Rattle.runs.proofs.Turns.{Answering}
use Rattle.runs.proofs.pile.answer_all.Given as goal

abbrev pub invariant-loop-turn : goal.invariant-loop-turn
invariant-loop-turn g l =
    ((os : List Opening) → g.S.Stream.serves l.fn.pile.below os → g.S.Stream.serves l.pile.below os)
    × Answering (AllServe (g.S.Stream.serves l.fn.pile.below) g.F.Finder.openings l.fn.turns)
    (with_held l.fn.pile.held (meant (g.S.Stream.items l.fn.pile.below) (g.S.Stream.ending l.fn.pile.below)))
    l.fn.turns
    (with_held l.pile.held (meant (g.S.Stream.items l.pile.below) (g.S.Stream.ending l.pile.below)))
    l.turns
    l.turn-index
