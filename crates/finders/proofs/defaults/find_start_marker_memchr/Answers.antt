use Rattle.std.proofs.Common.{◌+◌, drop, sym, ap, ◌∙◌, subst}
use Rattle.std.proofs.lemmas.List.{drop-drop}
use Rattle.finder.specs.Finding.{longest}
use Rattle.finder.proofs.Found.{behind_at}
use Rattle.finders.specs.Defaults.{default_openings, opened}
use Rattle.finders.proofs.Braces.{default_led}
use Rattle.finders.proofs.Places.{Walked, walk_start, walk_here, walk_more, walk_end}
use Rattle.finders.proofs.defaults.find_start_marker_memchr.Goals as goal

pub loop-distance-init : goal.loop-distance-init
loop-distance-init c =
    subst (Walked 123 default_openings c.args.source.now c.after-rest.result.now c.args.offset)
    (sym (c.into_iter-distance-iterator.ensures.into_iter_gives ∙ c.memchr_iter-distance-items.ensures.value))
    (walk_start 123 default_openings c.args.source.now c.after-rest.result.now c.args.offset default_led c.after-rest.ensures.value)

pub returns-in-Some-opening_here : goal.returns-in-Some-opening_here
returns-in-Some-opening_here c =
    let xs = c.args.source.now in
    let i = c.args.offset in
    let d = c.in-Some.distance in
    let b = behind_at xs (i + d) in
    let t = walk_here 123 default_openings xs c.after-rest.result.now i default_led c.after-rest.ensures.value c.loop-distance.distance-iterator c.next.new.self d c.loop-distance.invariant c.in-Some.ensures.steps
    c.in-Some-opening_here.marker 2
    (ap (λ s. opened (longest default_openings b s)) (sym (c.after.ensures.value ∙ ap (drop d) c.after-rest.ensures.value ∙ drop-drop d i xs)) ∙ c.in-Some-opening_here.ensures b) in
    record { value = t.value; finds = t.finds; inside = t.inside }

pub loop-distance-preserved : goal.loop-distance-preserved
loop-distance-preserved c =
    let xs = c.args.source.now in
    let i = c.args.offset in
    let d = c.in-Some.distance in
    let b = behind_at xs (i + d) in
    walk_more 123 default_openings xs c.after-rest.result.now i default_led c.after-rest.ensures.value c.loop-distance.distance-iterator c.next.new.self d c.loop-distance.invariant c.in-Some.ensures.steps
    (ap (λ s. opened (longest default_openings b s)) (sym (c.after.ensures.value ∙ ap (drop d) c.after-rest.ensures.value ∙ drop-drop d i xs)) ∙ c.in_default.ensures b)

pub returns : goal.returns
returns c =
    let t = walk_end 123 default_openings c.args.source.now c.after-rest.result.now c.args.offset default_led c.after-rest.ensures.value c.loop-distance.distance-iterator c.loop-distance.invariant c.in-None.ensures.steps.0 in
    record { value = t.value; finds = t.finds; inside = t.inside }
