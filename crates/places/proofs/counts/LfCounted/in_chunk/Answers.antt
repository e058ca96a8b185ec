use Rattle.std.proofs.Common.{◌==◌, ◌∙◌, ap, w8, arith, count_ones}
use Rattle.std.proofs.lemmas.Simd.{bitmask_splat, ones-mask_l}
use Rattle.places.specs.Places.{is_lf}
use Rattle.places.proofs.counts.LfCounted.in_chunk.Goals as goal

pub returns : goal.returns
returns c =
    let xs = c.args.chunk.now in
    ap count_ones (bitmask_splat w8 (λ x y. x == y) xs 32 10 c.told-chunk (omega arith)) ∙ ones-mask_l is_lf xs
