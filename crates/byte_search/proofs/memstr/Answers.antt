use Rattle.std.proofs.Common.{◌≡◌, ◌+◌, true, false, drop, Some, None, sym, subst, rules, arith, below_more}
use Rattle.std.proofs.lemmas.Bool.{both_ways}
use Rattle.byte_search.specs.Search.{stands_at, First, Stands}
use Rattle.byte_search.proofs.Firsts.{distance_by, stands_empty, stands_room, lead_skip, lead_none, needle_behind}
use Rattle.byte_search.proofs.Stands.{stands_told}
use Rattle.byte_search.proofs.memstr.Goals as goal

pub returns-in_default : goal.returns-in_default
returns-in_default c =
    let ds = c.args.needle.now in
    let xs = c.args.haystack.now in
    let f = stands_empty ds xs c.in_default.len_below in
    record { value = distance_by ds xs (Some 0) f; first = f; within = stands_room ds xs 0 f.0 }

pub returns-in_err-at : goal.returns-in_err-at
returns-in_err-at c =
    let ds = c.args.needle.now in
    let xs = c.args.haystack.now in
    let e : c.from_residual.result ≡ None = search rules in
    let n = lead_none ds xs c.after.result.now c.loop.at c.in-len1-up.len_at_least c.after.ensures.value c.loop.invariant.clear c.in_err-at.ensures.first in
    let f = subst (First (Stands ds xs)) (sym e) n in
    record { value = distance_by ds xs _ f; first = f; within = search rules }

pub returns-then-stands_here : goal.returns-then-stands_here
returns-then-stands_here c =
    let ds = c.args.needle.now in
    let xs = c.args.haystack.now in
    let i = c.loop.at in
    let d = c.in_ok-at.field-0 in
    let s : Stands ds xs (i + d) = (omega (arith, c.in_ok-at.ensures.within), stands_told ds c.after-in-loop.result.now (drop (i + d) xs) c.stands_here.result true c.after-in-loop.ensures.value c.stands_here.ensures c.if-stands_here.true) in
    let f : First (Stands ds xs) (Some (i + d)) = (s, lead_skip ds xs c.after.result.now i c.in-len1-up.len_at_least c.after.ensures.value c.loop.invariant.clear d c.in_ok-at.ensures.first) in
    record { value = distance_by ds xs (Some (i + d)) f; first = f; within = stands_room ds xs (i + d) s }

pub loop-preserved : goal.loop-preserved
loop-preserved c =
    let ds = c.args.needle.now in
    let xs = c.args.haystack.now in
    let i = c.loop.at in
    let d = c.in_ok-at.field-0 in
    record {
      inside = omega (arith, c.in_ok-at.ensures.within);
      clear = below_more _ _ (lead_skip ds xs c.after.result.now i c.in-len1-up.len_at_least c.after.ensures.value c.loop.invariant.clear d c.in_ok-at.ensures.first)
          (λ s. both_ways (stands_at ds (drop (i + d) xs)) (stands_told ds c.after-in-loop.result.now (drop (i + d) xs) c.stands_here.result false c.after-in-loop.ensures.value c.stands_here.ensures c.if-stands_here.false) s.1);
    }

pub returns-in_err-far : goal.returns-in_err-far
returns-in_err-far c =
    let ds = c.args.needle.now in
    let xs = c.args.haystack.now in
    let e : c.from_residual-in_err-far.result ≡ None = search rules in
    let n = needle_behind ds xs c.after-2.result.now c.loop.at None c.after-2.ensures.value c.loop.invariant.inside c.loop.invariant.clear c.in_err-far.ensures in
    let f = subst (First (Stands ds xs)) (sym e) n in
    record { value = distance_by ds xs _ f; first = f; within = search rules }

pub returns : goal.returns
returns c =
    let ds = c.args.needle.now in
    let xs = c.args.haystack.now in
    let i = c.loop.at in
    let d = c.in_ok-far.field-0 in
    let f : First (Stands ds xs) (Some (i + d)) = needle_behind ds xs c.after-2.result.now i (Some d) c.after-2.ensures.value c.loop.invariant.inside c.loop.invariant.clear c.in_ok-far.ensures in
    record { value = distance_by ds xs (Some (i + d)) f; first = f; within = stands_room ds xs (i + d) f.0 }

pub returns-then-haystack-needle : goal.returns-then-haystack-needle
returns-then-haystack-needle c =
    let ds = c.args.needle.now in
    let xs = c.args.haystack.now in
    let f : First (Stands ds xs) None = (λ k p. omega (arith, stands_room ds xs k p, c.if-haystack-needle.true)) in
    record { value = distance_by ds xs None f; first = f; within = search rules }
