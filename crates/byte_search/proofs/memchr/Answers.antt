use Rattle.std.proofs.Common.{◌≡◌, Some, subst, rules, tests}
use Rattle.std.proofs.lemmas.Iterator.{IsFirst-from_position, YieldsList-from_slice}
use Rattle.byte_search.specs.Search.{First, Holds}
use Rattle.byte_search.proofs.Firsts.{byte_from, first_near, first_of_places, byte_by, byte_inside}
use Rattle.byte_search.proofs.memchr.Goals as goal

pub returns-in-Some : goal.returns-in-Some
returns-in-Some c =
    let b = c.args.needle in
    let xs = c.args.haystack.now in
    let ys = c.until.result.now in
    let p = byte_from b ys c.position.result (IsFirst-from_position _ _ _ (λ x. x ≡ b) (λ x. x ≡ b → ⊥) c.position.ensures.ran (YieldsList-from_slice ys c.iter.ensures.rest) (λ x q k. search (rules, tests)) (λ x q k. search (rules, tests))) in
    let f = first_near b xs ys 4 c.in-Some.at c.until.ensures.value (subst (First (Holds b ys)) c.in-Some.is p) in
    record { value = byte_by b xs (Some c.in-Some.at) f; first = f; within = f.0.0 }

pub returns : goal.returns
returns c =
    let b = c.args.needle in
    let xs = c.args.haystack.now in
    let f = first_of_places b xs _ _ _ c.memchr_iter.ensures.value c.next.ensures.steps in
    record { value = byte_by b xs _ f; first = f; within = byte_inside b xs _ f }
