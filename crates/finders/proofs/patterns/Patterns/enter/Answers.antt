use Rattle.std.proofs.Common.{length, ap, ◌∙◌, subst, arith}
use Rattle.std.proofs.lemmas.List.{length-set}
use Rattle.finders.specs.Meant.{openings_in}
use Rattle.finders.specs.Order.{Place}
use Rattle.finders.proofs.Shifts.{entered_openings, still_falling}
use Rattle.finders.proofs.patterns.Patterns.enter.Goals as goal

pub invariant_of-self : goal.invariant_of-self
invariant_of-self c =
    let s = c.args.self.now in
    let p = subst (λ n. Place (openings_in s) n c.place-place.result) (ap length c.bytes.ensures.value) c.place-place.ensures.place in
    record {
      whole = length-set c.copy_within.new.self c.place-place.result c.args.pattern ∙ c.copy_within.ensures.len ∙ s.whole;
      room = omega arith;
      falling = still_falling s.list c.copy_within.new.self s.count c.place-place.result c.args.pattern c.copy_within.ensures.after c.place-place.ensures.within (omega arith) p s.falling;
    }

pub returns-clause-value : goal.returns-clause-value
returns-clause-value c =
    let s = c.args.self.now in
    let p = subst (λ n. Place (openings_in s) n c.place-place.result) (ap length c.bytes.ensures.value) c.place-place.ensures.place in
    entered_openings s.list c.copy_within.new.self s.count c.place-place.result c.args.pattern c.copy_within.ensures.after c.place-place.ensures.within (omega arith) p
