use Rattle.std.proofs.Common.{rules, tests}
use Rattle.std.proofs.lemmas.Iterator.{cases_from_any, YieldsList-from_slice}
use Rattle.byte_search.specs.Search.{Among}
use Rattle.byte_search.proofs.Chunks.{any_holds}
use Rattle.byte_search.proofs.chunk_has_any.Goals as goal

pub returns : goal.returns
returns c =
    let ch = c.args.chunk.now in
    any_holds c.args.needles.now ch _
    (cases_from_any _ _ _ (λ n. Among ch n) (λ n. Among ch n → ⊥) c.any.ensures.ran (YieldsList-from_slice c.args.needles.now cc) (λ x q k. search (rules, tests)) (λ x q k. search (rules, tests)))
