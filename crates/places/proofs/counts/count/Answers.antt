use Rattle.std.proofs.Common.{◌≡◌, ◌+◌, ◌*◌, ◌/◌, length, take, drop, count_by, cond, get_or, [], ap, ◌∙◌, arith}
use Rattle.std.proofs.lemmas.List.Sums.{sum_by-take-drop}
use Rattle.std.specs.Simd.{first_chunks}
use Rattle.places.proofs.Countings.{count_more}
use Rattle.places.proofs.counts.count.Goals as goal

-- one chunk more
pub loop-chunk-preserved : goal.loop-chunk-preserved
loop-chunk-preserved g c =
    let xs = c.args.bytes.now in
    let p = g.C.Counted.has in
    let i = c.loop-chunk.chunk-index in
    let more = count_more p (length xs / 32) i xs (omega arith) in
    let here : count_by p (get_or c.as_chunks.result.0.now i []) ≡ count_by p (get_or (first_chunks 32 (length xs / 32) xs) i []) = ap (λ cs. count_by p (get_or cs i [])) {y = first_chunks 32 (length xs / 32) xs} c.as_chunks.ensures.front in
    omega (arith, more, here, c.in_chunk.ensures, c.loop-chunk.invariant)

-- the chunks, and what stands behind them
pub returns : goal.returns
returns g c =
    let xs = c.args.bytes.now in
    let p = g.C.Counted.has in
    let n = length xs / 32 * 32 in
    let all : count_by p (take n xs) + count_by p (drop n xs) ≡ count_by p xs = sum_by-take-drop (λ y. cond (p y) 1 0) xs n in
    let rest : c.count_each.result ≡ count_by p (drop n xs) = c.count_each.ensures ∙ ap (count_by p) c.as_chunks.ensures.back in
    let k : c.loop-chunk.chunk-index ≡ length xs / 32 = omega arith in
    let chunks : c.loop-chunk.counted ≡ count_by p (take n xs) = c.loop-chunk.invariant ∙ ap (λ i. count_by p (take (i * 32) xs)) k in
    omega (arith, all, rest, chunks)
