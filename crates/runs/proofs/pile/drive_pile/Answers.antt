use Rattle.std.proofs.Common.{ap, ◌∙◌, subst}
use Rattle.reader.specs.Views.{Lawful}
use Rattle.runs.specs.Piles.{meant, with_held, Answered}
use Rattle.runs.proofs.Turns.{all_serve}
use Rattle.runs.proofs.pile.drive_pile.Goals as goal

pub returns-clause-means : goal.returns-clause-means
returns-clause-means g c = λ k.
    let x = c.args.pile in
    let p = c.new-pile.result in
    let made = c.new-pile.ensures in
    let q = with_held p.held (meant (g.P.Stream.items p.below) (g.P.Stream.ending p.below)) in
    subst (λ n. Answered n c.args.turns.now c.answer_all.new.turns)
    (ap (λ is. meant is q.ending) made.items ∙ ap (meant (g.P.Stream.items x)) made.ending)
    (c.answer_all.ensures.answers (all_serve (g.P.Stream.serves x) (g.P.Stream.serves p.below) g.F.Finder.openings c.args.turns.now (λ os l. made.serves os l) k))

pub returns-clause-answers : goal.returns-clause-answers
returns-clause-answers g c = λ h k.
    let x = c.args.pile in
    let p = c.new-pile.result in
    let ts = c.args.turns.now in
    let us = c.answer_all.new.turns in
    let made = c.new-pile.ensures in
    let q = with_held p.held (meant (g.P.Stream.items p.below) (g.P.Stream.ending p.below)) in
    subst (λ n. Answered n ts us)
    (ap (λ is. meant is q.ending) made.items ∙ ap (meant (g.P.Stream.items x)) made.ending ∙ g.met.P.Pile.means x h)
    (c.answer_all.ensures.answers (all_serve (Lawful (g.P.Pile.lowest x)) (g.P.Stream.serves p.below) g.F.Finder.openings ts (λ os l. made.serves os (g.met.P.Pile.served x os l)) k))
