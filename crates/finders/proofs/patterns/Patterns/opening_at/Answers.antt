use Rattle.std.proofs.Common.{length, Some, sym, ap, ◌∙◌, arith}
use Rattle.std.proofs.lemmas.List.{length-map}
use Rattle.finders.specs.Meant.{openings_in}
use Rattle.finders.specs.Patterns.{opening_of}
use Rattle.finders.specs.Spots.{behind, ahead}
use Rattle.finders.proofs.Held.{held_here, held_next}
use Rattle.finders.proofs.Sorted.{from_all}
use Rattle.finders.proofs.There.{qualifies_there}
use Rattle.finders.proofs.patterns.Patterns.opening_at.Goals as goal

pub returns-then-qualifies-clause-value : goal.returns-then-qualifies-clause-value
returns-then-qualifies-clause-value c =
    let s = c.args.spot.now in
    let p = c.pattern-item.result in
    let items = c.as_slice-pattern-items in
    held_here (behind s) (ahead s) items.result.now (openings_in c.args.self.now) items.ensures.value c.loop-pattern.pattern-index p c.pattern-item.is c.loop-pattern-test.true
    c.loop-pattern.invariant.tried c.args.self.now.falling c.qualifies.result
    (c.qualifies.ensures.value ∙ qualifies_there (opening_of p) s c.loop-pattern.spot c.loop-pattern.invariant.stays) c.if-qualifies.true
    ∙ ap (λ l. Some (p.marker, length l)) (sym c.bytes.ensures.value)

pub loop-pattern-preserved : goal.loop-pattern-preserved
loop-pattern-preserved c =
    let s = c.args.spot.now in
    let p = c.pattern-item.result in
    let items = c.as_slice-pattern-items in
    let stays = c.qualifies.ensures.stays in
    let was = c.loop-pattern.invariant in
    record {
      stays = (stays.0 ∙ was.stays.0, stays.1 ∙ was.stays.1);
      tried = held_next (behind s) (ahead s) items.result.now (openings_in c.args.self.now) items.ensures.value c.loop-pattern.pattern-index p c.pattern-item.is c.loop-pattern-test.true
          was.tried c.qualifies.result (c.qualifies.ensures.value ∙ qualifies_there (opening_of p) s c.loop-pattern.spot was.stays) c.if-qualifies.false;
    }

pub returns-clause-value : goal.returns-clause-value
returns-clause-value c =
    let s = c.args.spot.now in
    let items = c.as_slice-pattern-items in
    from_all (behind s) (ahead s) (openings_in c.args.self.now) c.loop-pattern.pattern-index
    (omega (arith, ap length items.ensures.value, length-map items.result.now opening_of, c.loop-pattern-test.false)) c.loop-pattern.invariant.tried
