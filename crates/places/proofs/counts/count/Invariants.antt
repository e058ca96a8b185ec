use Rattle.std.proofs.Common.{◌≡◌, ◌*◌, take, count_by}
use Rattle.places.proofs.counts.count.Given as goal

-- what the chunks so far have is counted
abbrev pub invariant-loop-chunk : goal.invariant-loop-chunk
invariant-loop-chunk g l = l.counted ≡ count_by g.C.Counted.has (take (l.chunk-index * 32) l.fn.bytes)
