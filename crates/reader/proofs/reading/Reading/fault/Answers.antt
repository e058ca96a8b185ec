use Rattle.std.proofs.Common.{◌+◌, ap}
use Rattle.rules.specs.At.{place_at}
use Rattle.reader.proofs.Moves.{advanced}
use Rattle.reader.proofs.reading.Reading.fault.Goals as goal

pub returns : goal.returns
returns c =
    let r = c.args.self.now in
    ap (λ s. record { kind = c.args.fault.kind; span = s })
    (c.fault_span.ensures (place_at r.template.now r.offset) (place_at r.template.now (r.offset + c.args.fault.distance)) r.here
    (advanced r.template.now r.offset c.args.fault.distance c.after.result.now c.until.result.now r.place c.advance-end.result r.here c.after.ensures.value c.until.ensures.value c.advance-end.ensures.value))
