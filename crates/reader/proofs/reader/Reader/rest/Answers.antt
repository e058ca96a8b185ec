use Rattle.std.proofs.Common.{arith}
use Rattle.reader.proofs.Fronts.{front_told}
use Rattle.reader.proofs.reader.Reader.rest.Goals as goal

pub returns-clause-value : goal.returns-clause-value
returns-clause-value c =
    let r = c.args.self.now.reading in
    let w = r.within in
    let i = r.inside in
    let e = front_told r.template.now r.offset c.is_line_start.result (omega arith) c.is_line_start.ensures in
    grind (arith, c.is_text.ensures, c.is_idle.ensures, c.has_failed.ensures, e)
