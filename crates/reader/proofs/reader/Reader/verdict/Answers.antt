use Rattle.std.proofs.Common.{IfErr, sym, subst, arith}
use Rattle.std.proofs.lemmas.List.{length-drop}
use Rattle.rules.specs.Shapes.{Numbered}
use Rattle.rules.proofs.Faults.{numbered_at}
use Rattle.reader.specs.Views.{config}
use Rattle.reader.proofs.Acts.{ruled_at, fits_at}
use Rattle.reader.proofs.Settings.{ended}
use Rattle.reader.proofs.reader.Reader.verdict.Goals as goal

pub verdict_at-requires : goal.verdict_at-requires
verdict_at-requires g c =
    let r = c.args.self.now in
    let l = c.until.ensures.len in
    let w = r.reading.within in
    let i = r.reading.inside in
    let s = r.reading.shallow in
    let m = r.reading.small in
    let d = length-drop r.reading.offset c.until.result.now in
    record { inside = omega arith; shallow = omega arith }

pub returns : goal.returns
returns g c =
    let r = c.args.self.now in
    let os = g.F.Finder.openings c.args.finder.now in
    let i = r.reading.inside in
    let v = ruled_at os (config r) r.reading.template.now c.until.result.now r.reading.left r.reading.offset r.reading.state r.reading.pending r.reading.cut_told c.verdict_at.result c.until.ensures.value (omega arith) c.verdict_at.ensures in
    record {
      value = v;
      fits = fits_at os (config r) (ended r.settings) r.reading.template.now r.reading.left r.reading.offset r.reading.state r.reading.pending r.reading.cut_told r.reading.within r.reading.inside r.reading.lively c.verdict_at.result v;
      numbered = subst (λ q. IfErr q (λ f. Numbered f.kind)) (sym v) (numbered_at os (config r) r.reading.template.now r.reading.left r.reading.offset r.reading.state r.reading.pending r.reading.cut_told r.reading.wellformed);
    }
