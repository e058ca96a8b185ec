use Rattle.std.proofs.Common.{get_or}
use Rattle.runs.specs.Piles.{meant, with_held, AllServe}
use Rattle.runs.proofs.Turns.{served_at, answering_more, answering_all}
use Rattle.runs.proofs.pile.answer_all.Goals as goal

pub loop-turn-preserved : goal.loop-turn-preserved
loop-turn-preserved g c =
    let serves = g.S.Stream.serves c.args.pile.now.below in
    let openings = g.F.Finder.openings in
    let cs = c.args.turns.now in
    let ds = c.loop-turn.turns in
    let i = c.loop-turn.turn-index in
    let d = c.turn-item.result in
    let h = c.loop-turn.invariant in
    let m = with_held c.args.pile.now.held (meant (g.S.Stream.items c.args.pile.now.below) (g.S.Stream.ending c.args.pile.now.below)) in
    let n = with_held c.loop-turn.pile.held (meant (g.S.Stream.items c.loop-turn.pile.below) (g.S.Stream.ending c.loop-turn.pile.below)) in
    let l = with_held c.answer.new.pile.held (meant (g.S.Stream.items c.answer.new.pile.below) (g.S.Stream.ending c.answer.new.pile.below)) in
    let k = c.loop-turn-test.true in (
      λ os q. c.answer.ensures.serves os (h.0 os q),
      answering_more (AllServe serves openings cs) m cs n l ds i d c.answer.result h.1 k
          (λ q. c.answer.ensures.tells (h.0 (openings (get_or ds i d).finder) (served_at serves openings m n cs ds i d q h.1 k))),
    )

pub returns-clause-answers : goal.returns-clause-answers
returns-clause-answers g c =
    answering_all (AllServe (g.S.Stream.serves c.args.pile.now.below) g.F.Finder.openings c.args.turns.now)
    (with_held c.args.pile.now.held (meant (g.S.Stream.items c.args.pile.now.below) (g.S.Stream.ending c.args.pile.now.below)))
    c.args.turns.now
    (with_held c.loop-turn.pile.held (meant (g.S.Stream.items c.loop-turn.pile.below) (g.S.Stream.ending c.loop-turn.pile.below)))
    c.loop-turn.turns
    c.loop-turn.turn-index
    c.loop-turn-test.false
    c.loop-turn.invariant.1
