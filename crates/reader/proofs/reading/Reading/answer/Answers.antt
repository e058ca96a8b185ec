use Rattle.std.proofs.Common.{◌≡◌, ◌+◌, ◌-◌, ◌≤◌, length, Some, None, Ok, IfErr, sym, ap, ◌∙◌, subst, arith, rules}
use Rattle.rules.specs.Reading.{act}
use Rattle.rules.specs.Shapes.{Forward, Fits, Numbered}
use Rattle.reader.specs.Views.{view, tell_by}
use Rattle.reader.proofs.Acts.{at_end, piece_answer, piece_after, cut_answer, cut_after, end_answer, end_after, fault_answer, fault_after}
use Rattle.reader.proofs.reading.Reading.answer.Goals as goal

pub returns-in-Ok-Some : goal.returns-in-Ok-Some
returns-in-Ok-Some c =
    let r = c.args.self.now in
    let s = c.in-Ok-Some.step in
    let e : c.args.verdict ≡ Ok (Some s) = search rules in
    let f : Forward (r.left - r.offset) r.state r.pending s = subst (λ v. Fits (r.left - r.offset) r.state r.pending v) e c.requires.fits in
    let i = r.inside in
    let h : r.offset + s.len ≤ r.left = omega (arith, f.ahead) in
    let g = sym (ap (λ v. tell_by (view r) (act (view r).core v)) e) in
    record {
      value = piece_answer r.template.now r.left r.offset r.state r.pending r.cut_told r.balance r.told s c.take_step.result h c.take_step.ensures.piece ∙ ap (λ x. x.answer) g;
      view = piece_after r.template.now r.left r.offset r.state r.pending r.cut_told r.balance r.told s (view c.take_step.new.self) h c.requires.untold c.take_step.ensures.view ∙ ap (λ x. x.after) g;
    }

pub take_cut-requires-clause-here : goal.take_cut-requires-clause-here
take_cut-requires-clause-here c =
    let r = c.args.self.now in
    let i = r.inside in
    at_end r.left r.offset r.state r.pending c.args.verdict (search rules) c.requires.fits (omega arith)

pub returns-then-self : goal.returns-then-self
returns-then-self c =
    let r = c.args.self.now in
    let e : c.args.verdict ≡ Ok None = search rules in
    let i = r.inside in
    let h = at_end r.left r.offset r.state r.pending c.args.verdict e c.requires.fits (omega arith) in
    let g = sym (ap (λ v. tell_by (view r) (act (view r).core v)) e) in
    record {
      value = cut_answer r.template.now r.left r.offset r.state r.pending r.cut_told r.balance r.told c.take_cut.result h (omega arith) c.take_cut.ensures.piece ∙ ap (λ x. x.answer) g;
      view = cut_after r.template.now r.left r.offset r.state r.pending r.cut_told r.balance r.told (view c.take_cut.new.self) h (omega arith) c.requires.untold r.agrees c.take_cut.ensures.view ∙ ap (λ x. x.after) g;
    }

pub returns-else-self : goal.returns-else-self
returns-else-self c =
    let r = c.args.self.now in
    let e : c.args.verdict ≡ Ok None = search rules in
    let w = r.within in
    let h : r.left ≡ length r.template.now = omega arith in
    let g = sym (ap (λ v. tell_by (view r) (act (view r).core v)) e) in
    record {
      value = c.end.ensures.value ∙ end_answer r.template.now r.left r.offset r.state r.pending r.cut_told r.balance r.told h ∙ ap (λ x. x.answer) g;
      view = end_after r.template.now r.left r.offset r.state r.pending r.cut_told r.balance r.told (view c.end.new.self) h c.end.ensures.view ∙ ap (λ x. x.after) g;
    }

pub fault-fault-requires : goal.fault-fault-requires
fault-fault-requires c = subst (λ v. Fits (c.args.self.now.left - c.args.self.now.offset) c.args.self.now.state c.args.self.now.pending v) c.in-Err.is c.requires.fits

pub end-requires-in-Err : goal.end-requires-in-Err
end-requires-in-Err c = subst Numbered (sym (ap (λ f. f.kind) c.fault-fault.ensures)) (subst (λ v. IfErr v (λ f. Numbered f.kind)) c.in-Err.is c.requires.numbered)

pub returns-in-Err : goal.returns-in-Err
returns-in-Err c =
    let r = c.args.self.now in
    let k = c.in-Err.fault.kind in
    let d = c.in-Err.fault.distance in
    let f : d ≤ r.left - r.offset = subst (λ v. Fits (r.left - r.offset) r.state r.pending v) c.in-Err.is c.requires.fits in
    let i = r.inside in
    let h : r.offset + d ≤ r.left = omega arith in
    let g = sym (ap (λ v. tell_by (view r) (act (view r).core v)) c.in-Err.is) in
    record {
      value = c.end-in-Err.ensures.value ∙ fault_answer r.template.now r.left r.offset r.state r.pending r.cut_told r.balance r.told k d c.fault-fault.result h c.fault-fault.ensures ∙ ap (λ x. x.answer) g;
      view = fault_after r.template.now r.left r.offset r.state r.pending r.cut_told r.balance r.told k d c.fault-fault.result (view c.end-in-Err.new.self) h c.fault-fault.ensures c.end-in-Err.ensures.view ∙ ap (λ x. x.after) g;
    }
