use Rattle.std.proofs.Common.{ℕ, List, rules, tests}
use Rattle.std.proofs.lemmas.Iterator.{IsFirst-from_position, YieldsList-from_slice}
use Rattle.byte_search.specs.Search.{HoldsAny}
use Rattle.byte_search.proofs.Chunks.{chunks_cleared}
use Rattle.byte_search.proofs.clear_chunks.Goals as goal

pub returns : goal.returns
returns c =
    let ns = c.args.needles.now in
    let cs = c.as_chunks.result.0.now in
    let has : List ℕ → Type 0 = λ ch. (k : ℕ) × HoldsAny ns ch k in
    let f = IsFirst-from_position _ _ _ has (λ ch. has ch → ⊥) c.position-clear.ensures.ran (YieldsList-from_slice cs cc) (λ x q k. search (rules, tests)) (λ x q k. search (rules, tests)) in
    let r = chunks_cleared c.args.haystack.now cs c.as_chunks.ensures.front c.as_chunks.ensures.front_len ns c.position-clear.result c.unwrap_or.result c.unwrap_or.ensures f in
    record { within = r.0; clear = r.1; most = r.2 }
