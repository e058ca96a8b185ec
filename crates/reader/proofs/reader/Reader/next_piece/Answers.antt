use Rattle.std.proofs.Common.{IfErr, sym, refl, ap, ◌∙◌, subst}
use Rattle.syntax.specs.Openings.{openings_of}
use Rattle.rules.specs.Reading.{act}
use Rattle.rules.specs.Shapes.{Numbered}
use Rattle.reader.specs.Views.{view_of, config, tell_by}
use Rattle.reader.proofs.Faults.{tells_numbered}
use Rattle.reader.proofs.Settings.{apart, none_passed}
use Rattle.reader.proofs.Streams.{reader_ends}
use Rattle.reader.proofs.Tells.{same_tell, told_now}
use Rattle.reader.proofs.reader.Reader.next_piece.Goals as goal

pub returns-in-Some-clause-ends : goal.returns-in-Some-clause-ends
returns-in-Some-clause-ends g c = reader_ends c.args.self.now

pub returns-in-Some-clause-real : goal.returns-in-Some-clause-real
returns-in-Some-clause-real g c = none_passed c.args.self.now.settings

pub returns-in-None : goal.returns-in-None
returns-in-None g c =
    let r = c.args.self.now in
    let os = g.F.Finder.openings c.args.finder.now in
    let e = told_now os (config r) (view_of r) c.in-None.is in
    let f = ap (λ v. tell_by (view_of r) (act (view_of r).core v)) c.verdict-verdict.ensures.value ∙ sym e in
    let a = c.answer.ensures.value ∙ ap (λ x. x.answer) f in
    let b = c.answer.ensures.view ∙ ap (λ x. x.after) f in
    record {
      value = a;
      view = b;
      settings = refl;
      ends = reader_ends r;
      real = none_passed r.settings;
      numbered = subst (λ x. IfErr x (λ f. Numbered f.kind)) (sym c.answer.ensures.value) (tells_numbered (view_of r) c.verdict-verdict.result c.verdict-verdict.ensures.numbered);
      lawful = λ h. a ∙ ap (λ x. x.answer) (same_tell os (openings_of r.settings) (apart r.settings) h (config r) (view_of r));
      lawful_view = λ h. b ∙ ap (λ x. x.after) (same_tell os (openings_of r.settings) (apart r.settings) h (config r) (view_of r));
    }
