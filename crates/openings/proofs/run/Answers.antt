use Rattle.std.proofs.Common.{arith}
use Rattle.openings.proofs.Twos.{two_bytes}
use Rattle.openings.proofs.run.Goals as goal

pub loop-distance-smaller : goal.loop-distance-smaller
loop-distance-smaller g c =
    let e = c.in-Some.ensures in
    let o = e.finds.0 in
    omega (arith, two_bytes o.0 o.1, o.4, e.inside.0)
