use Rattle.std.proofs.Common.{◌+◌, ◌∙◌, nat_lt, nat_le, ap, w8, arith, count_ones}
use Rattle.std.proofs.lemmas.Simd.{bitmask_splat, ones-mask_l}
use Rattle.places.proofs.Countings.{bitmask_splat_left, leads_by_parts}
use Rattle.places.proofs.counts.LeadCounted.in_chunk.Goals as goal

pub returns : goal.returns
returns c =
    let xs = c.args.chunk.now in
    let low = ap count_ones (bitmask_splat w8 nat_lt xs 32 128 c.told-chunk (omega arith)) ∙ ones-mask_l (λ x. nat_lt x 128) xs in
    let high = ap count_ones (bitmask_splat_left nat_le xs 32 192 c.told-chunk (omega arith)) ∙ ones-mask_l (λ x. nat_le 192 x) xs in
    (λ i. low i + high i) ∙ leads_by_parts xs
