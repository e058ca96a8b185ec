use Rattle.std.proofs.Common.{sym, subst, arith}
use Rattle.spaces.proofs.Tails.{kept_passes, kept_least}
use Rattle.strips.proofs.Strips.{kept_tail}
use Rattle.strips.specs.Lines.{Trims}
use Rattle.strips.proofs.trim_end_matches.Goals as goal

pub returns : goal.returns
returns g c =
    let p = g.C.CharSet.has c.args.set.now in
    let xs = c.args.text.now in
    let v = kept_tail p xs c.run_backward.result c.run_backward.ensures.value in
    record { value = v; within = omega arith; least = subst (Trims p xs) (sym v) (kept_passes p xs, kept_least p xs) }
