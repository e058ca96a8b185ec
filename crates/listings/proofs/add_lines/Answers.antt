use Rattle.std.proofs.Common.{rules, ◌++◌, string_bytes}
use Rattle.listings.specs.Listing.{lines}
use Rattle.listings.proofs.Lines.{line_more, line_last}
use Rattle.listings.proofs.add_lines.Goals as goal

pub loop-row-preserved : goal.loop-row-preserved
loop-row-preserved g c = λ s.
    let i = c.loop-row.invariant s in
    (search rules, line_more (string_bytes c.args.out.now ++ lines c.start-reached.result (g.S.Stream.items c.args.rows) (g.S.Stream.ending c.args.rows)) _ _ _ _ _ _ _ _ _ i.1 c.in-Ok-Some.field-0-is (c.in-Ok-Some.ensures.tells i.0) (search rules))

pub returns-in-Ok-None : goal.returns-in-Ok-None
returns-in-Ok-None g c = λ s.
    let i = c.loop-row.invariant s in
    let t = rw c.in-Ok-None.field-0-is at (c.in-Ok-None.ensures.tells i.0) in
    line_last _ _ _ _ _ _ _ _ _ _ _ t.0 t.1 i.1 c.start-reached.ensures.value c.add_end.ensures

pub returns-in-Err : goal.returns-in-Err
returns-in-Err g c = λ s.
    let i = c.loop-row.invariant s in
    let t = c.in-Err.ensures.tells i.0 in
    line_last _ _ _ _ _ _ _ _ _ _ _ t.0 t.1 i.1 c.start-reached.ensures.value c.add_fault.ensures
