use Rattle.std.proofs.Common.{arith}
use Rattle.ranged.proofs.Early.{left_none, left_more, left_here, left_all, told_by}
use Rattle.ranged.proofs.first_too_early.Goals as goal

pub loop-i-init : goal.loop-i-init
loop-i-init g c = left_none g.R.Ranged.begins g.R.Ranged.ends c.args.records.now

pub returns-then-begin-last : goal.returns-then-begin-last
returns-then-begin-last g c =
    let e = left_here g.R.Ranged.begins g.R.Ranged.ends c.args.records.now c.loop-i.i c.index-records-i.result c.loop-i.last c.loop-i-test.true c.index-records-i.is (omega (arith, c.begin.ensures)) c.loop-i.invariant in
    record { value = e; told = told_by g.R.Ranged.begins g.R.Ranged.ends c.args.records.now _ e }

pub loop-i-preserved : goal.loop-i-preserved
loop-i-preserved g c =
    left_more g.R.Ranged.begins g.R.Ranged.ends c.args.records.now c.loop-i.i c.index-records-i.result c.loop-i.last c.end-last.result c.loop-i-test.true c.index-records-i.is (omega (arith, c.begin.ensures)) c.end-last.ensures c.loop-i.invariant

pub returns : goal.returns
returns g c =
    let e = left_all g.R.Ranged.begins g.R.Ranged.ends c.args.records.now c.loop-i.i c.loop-i.last c.loop-i-test.false c.loop-i.invariant in
    record { value = e; told = told_by g.R.Ranged.begins g.R.Ranged.ends c.args.records.now _ e }
