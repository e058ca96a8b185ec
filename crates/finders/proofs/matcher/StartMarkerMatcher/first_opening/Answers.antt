use Rattle.std.proofs.Common.{◌≡◌, ◌+◌, ◌-◌, ◌<◌, length, drop, Some, sym, ap, ◌∙◌, subst, arith}
use Rattle.std.proofs.lemmas.List.{length-drop}
use Rattle.finders.specs.Meant.{meant}
use Rattle.finders.proofs.Clear.{Led, Clear, Told, turn_end, turn_here, turn_more}
use Rattle.finders.proofs.Held.{held_led}
use Rattle.finders.proofs.There.{opened_there}
use Rattle.finders.proofs.matcher.StartMarkerMatcher.first_opening.Goals as goal

pub returns-in-Some-opening_at : goal.returns-in-Some-opening_at
returns-in-Some-opening_at c =
    let m = c.args.self.now in
    let xs = c.args.source.now in
    let j = c.loop-d.spot.at in
    let d = c.in-Some.d in
    let y : c.ahead.result.now ≡ drop j xs = c.ahead.ensures.value ∙ ap (drop j) c.loop-d.invariant.same in
    let h : j + d < length xs = omega (arith, c.in-Some.ensures.within, ap length y, length-drop j xs) in
    let led = subst (λ l. Led l (meant m)) (sym c.leads-leads.ensures) (held_led m.patterns.count m.patterns.list (omega arith)) in
    let f = opened_there (meant m) c.advance.new.self xs (j + d) _ (c.advance.ensures.source ∙ c.loop-d.invariant.same) c.advance.ensures.at c.in-Some-opening_at.ensures.value in
    let t = subst (λ k. Told (meant m) xs c.args.offset (Some (k - c.args.offset, c.in-Some-opening_at.marker, c.in-Some-opening_at.len))) (sym (c.opening_at.ensures.stays.1 ∙ c.advance.ensures.at))
    (turn_here c.leads-leads.result (meant m) xs c.ahead.result.now c.args.offset j led y c.loop-d.invariant.clear d c.in-Some.ensures.value h c.in-Some-opening_at.marker c.in-Some-opening_at.len f) in
    record { value = t.value; finds = t.finds; inside = t.inside }

pub loop-d-preserved : goal.loop-d-preserved
loop-d-preserved c =
    let m = c.args.self.now in
    let xs = c.args.source.now in
    let j = c.loop-d.spot.at in
    let d = c.in-Some.d in
    let y : c.ahead.result.now ≡ drop j xs = c.ahead.ensures.value ∙ ap (drop j) c.loop-d.invariant.same in
    let h : j + d < length xs = omega (arith, c.in-Some.ensures.within, ap length y, length-drop j xs) in
    let led = subst (λ l. Led l (meant m)) (sym c.leads-leads.ensures) (held_led m.patterns.count m.patterns.list (omega arith)) in
    let f = opened_there (meant m) c.advance.new.self xs (j + d) _ (c.advance.ensures.source ∙ c.loop-d.invariant.same) c.advance.ensures.at c.in_default-opening_at.ensures.value in
    record {
      same = c.advance-in-Some.ensures.source ∙ c.opening_at.ensures.stays.0 ∙ c.advance.ensures.source ∙ c.loop-d.invariant.same;
      clear = subst (Clear (meant m) xs c.args.offset) (sym (c.advance-in-Some.ensures.at ∙ ap (λ k. k + 1) (c.opening_at.ensures.stays.1 ∙ c.advance.ensures.at)))
          (turn_more c.leads-leads.result (meant m) xs c.ahead.result.now c.args.offset j led y c.loop-d.invariant.clear d c.in-Some.ensures.value h f);
    }

pub returns : goal.returns
returns c =
    let m = c.args.self.now in
    let xs = c.args.source.now in
    let j = c.loop-d.spot.at in
    let led = subst (λ l. Led l (meant m)) (sym c.leads-leads.ensures) (held_led m.patterns.count m.patterns.list (omega arith)) in
    let t = turn_end c.leads-leads.result (meant m) xs c.ahead.result.now c.args.offset j led (c.ahead.ensures.value ∙ ap (drop j) c.loop-d.invariant.same) c.loop-d.invariant.clear c.in_default.ensures.value in
    record { value = t.value; finds = t.finds; inside = t.inside }
