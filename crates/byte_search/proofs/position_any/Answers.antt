use Rattle.std.proofs.Common.{◌≡◌, ◌+◌, drop, Some, None, sym, ◌∙◌, rules, tests}
use Rattle.std.proofs.lemmas.Iterator.{IsFirst-from_position, YieldsList-from_slice}
use Rattle.byte_search.specs.Search.{first_in, Among}
use Rattle.byte_search.proofs.Firsts.{first_from, found_behind, found_first}
use Rattle.byte_search.proofs.position_any.Goals as goal

pub returns-in_err-behind : goal.returns-in_err-behind
returns-in_err-behind c =
    let ns = c.args.needles.now in
    let xs = c.args.haystack.now in
    let i = c.clear_chunks-clear.result in
    let f = first_from ns (drop i xs) c.position.result (IsFirst-from_position _ _ _ (Among ns) (λ b. Among ns b → ⊥) c.position.ensures.ran (YieldsList-from_slice (drop i xs) (c.iter.ensures.rest ∙ c.after.ensures.value)) (λ x q k. search (rules, tests)) (λ x q k. search (rules, tests))) in
    let e : c.from_residual.result ≡ None = search rules in
    let v : c.from_residual.result ≡ first_in ns xs = e ∙ found_behind ns xs i None c.clear_chunks-clear.ensures.clear (sym c.in_err-behind.was ∙ f) in
    record { value = v; first = found_first ns xs _ v; within = search rules }

pub returns : goal.returns
returns c =
    let ns = c.args.needles.now in
    let xs = c.args.haystack.now in
    let i = c.clear_chunks-clear.result in
    let f = first_from ns (drop i xs) c.position.result (IsFirst-from_position _ _ _ (Among ns) (λ b. Among ns b → ⊥) c.position.ensures.ran (YieldsList-from_slice (drop i xs) (c.iter.ensures.rest ∙ c.after.ensures.value)) (λ x q k. search (rules, tests)) (λ x q k. search (rules, tests))) in
    let v : Some (i + c.in_ok-behind.behind) ≡ first_in ns xs = found_behind ns xs i (Some c.in_ok-behind.behind) c.clear_chunks-clear.ensures.clear (sym c.in_ok-behind.was ∙ f) in
    let d = found_first ns xs _ v in
    record { value = v; first = d; within = d.0.0 }
