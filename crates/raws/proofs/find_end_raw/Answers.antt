use Rattle.std.proofs.Common.{◌+◌, Some, None, refl, arith}
use Rattle.rules.specs.Config.{config_of}
use Rattle.raws.proofs.Found.{first_told, closes_at, start_skip, start_none, clear_more}
use Rattle.raws.proofs.find_end_raw.Goals as goal

pub returns-in-Some-end_raw_at : goal.returns-in-Some-end_raw_at
returns-in-Some-end_raw_at c =
    let s = config_of c.args.settings.now in
    let xs = c.args.rest.now in
    let i = c.loop-distance.at + c.in-Some.distance in
    let r = c.in-Some-end_raw_at.tag in
    let k = start_skip s xs _ _ c.loop-distance.at c.after.ensures.value c.delimiter-block_start.ensures.value c.loop-distance.invariant.1 c.in-Some.distance c.in-Some.ensures.first in
    let t = first_told s xs (Some (i, r)) (closes_at s xs _ i r c.after-in-Some.ensures.value c.in-Some-end_raw_at.ensures.value, k) in
    record { value = t.0; first = t.1; within = t.2 }

pub loop-distance-preserved : goal.loop-distance-preserved
loop-distance-preserved c =
    let s = config_of c.args.settings.now in
    let xs = c.args.rest.now in
    let k = start_skip s xs _ _ c.loop-distance.at c.after.ensures.value c.delimiter-block_start.ensures.value c.loop-distance.invariant.1 c.in-Some.distance c.in-Some.ensures.first in
    (omega (arith, c.in-Some.ensures.within, c.delimiter-block_start.ensures.filled refl), clear_more s xs _ _ k c.after-in-Some.ensures.value c.in_default-end_raw_at.ensures.value)

pub returns : goal.returns
returns c =
    let s = config_of c.args.settings.now in
    let xs = c.args.rest.now in
    let t = first_told s xs None (start_none s xs _ _ c.loop-distance.at c.after.ensures.value c.delimiter-block_start.ensures.value c.loop-distance.invariant.1 c.in_default.ensures.first) in
    record { value = t.0; first = t.1; within = t.2 }
