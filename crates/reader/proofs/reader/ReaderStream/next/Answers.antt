use Rattle.rules.proofs.Whole.{fine_at}
use Rattle.reader.specs.Views.{view_of}
use Rattle.reader.proofs.Streams.{stream_tells, stream_serves, stream_falls}
use Rattle.reader.proofs.reader.ReaderStream.next.Goals as goal

pub returns : goal.returns
returns g c =
    let r = c.args.self.now in
    let q = c.next_piece.new.self in
    let os = g.F.Finder.openings c.args.finder.now in
    let e = c.next_piece.ensures in
    let f = fine_at r.reading.template.now r.reading.left r.reading.offset r.reading.state r.reading.pending r.reading.cut_told r.reading.within r.reading.inside r.reading.lively in
    record {
      tells = λ h. stream_tells os r.settings q.settings (view_of r) (view_of q) c.next_piece.result f e.settings e.value e.view h;
      serves = λ qs h. stream_serves os r.settings q.settings (view_of r) (view_of q) c.next_piece.result f e.settings e.value e.view qs h;
      falls = stream_falls os r.settings q.settings (view_of r) (view_of q) c.next_piece.result f e.settings e.value e.view;
    }
