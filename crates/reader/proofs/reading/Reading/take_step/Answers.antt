use Rattle.std.proofs.Common.{◌≡◌, ◌+◌, ◌≤◌, sym, ap, ◌∙◌, subst, arith, w64, SFits, to_z, of_z, rules}
use Rattle.std.proofs.lemmas.Int.{to_z-of_z}
use Rattle.rules.specs.At.{core_at, place_at, part_at}
use Rattle.rules.specs.Reading.{balance_at}
use Rattle.rules.specs.Shapes.{magnitude}
use Rattle.rules.proofs.Whole.{place_on}
use Rattle.reader.proofs.Moves.{advanced, told_at, balance_level, balance_agrees}
use Rattle.reader.proofs.reading.Reading.take_step.Goals as goal

pub invariant_of-self : goal.invariant_of-self
invariant_of-self c =
    let r = c.args.self.now in
    let s = c.args.step in
    let fw = c.requires in
    let a = fw.ahead in
    let b = fw.level in
    let i = r.inside in
    let l = r.shallow in
    let e : c.balance_at-balance.result ≡ balance_at r.balance s.state = search rules in
    let f : SFits w64 c.balance_at-balance.result = search rules in
    let z : to_z w64 (of_z w64 c.balance_at-balance.result) ≡ c.balance_at-balance.result = search to_z-of_z in
    record {
      small = r.small;
      within = r.within;
      inside = omega arith;
      lively = fw.lively;
      shallow = omega arith;
      balanced = subst (λ z. magnitude z ≤ r.offset + s.len) (sym z) (balance_level r.balance c.balance_at-balance.result s.state r.offset s.len e r.balanced (omega arith));
      agrees = subst (λ x. balance_at x s.state ≡ x) (sym (z ∙ e)) (balance_agrees r.balance s.state);
      here = advanced r.template.now r.offset s.len c.after.result.now c.until.result.now r.place c.advance-end.result r.here c.after.ensures.value c.until.ensures.value c.advance-end.ensures.value;
      wellformed = r.wellformed;
      numbered = r.numbered;
    }

pub returns : goal.returns
returns c =
    let r = c.args.self.now in
    let s = c.args.step in
    let fw = c.requires in
    let a = fw.ahead in
    let b = fw.inside in
    let w = r.within in
    let i = r.inside in
    let m = r.small in
    let e : c.balance_at-balance.result ≡ balance_at r.balance s.state = search rules in
    let f : SFits w64 c.balance_at-balance.result = search rules in
    let z : to_z w64 (of_z w64 c.balance_at-balance.result) ≡ c.balance_at-balance.result = search to_z-of_z in
    record {
      piece =
          told_at r.template.now r.offset (r.offset + s.len) (part_at r.template.now r.offset s) r.place c.advance-end.result c.text_range-text.result
          (omega arith) fw.ordered (omega arith) (place_on r.template.now r.offset s.len) r.here
          (advanced r.template.now r.offset s.len c.after.result.now c.until.result.now r.place c.advance-end.result r.here c.after.ensures.value c.until.ensures.value c.advance-end.ensures.value)
          c.text_range-text.ensures;
      view =
          ap (λ b. record { core = core_at r.template.now r.left (r.offset + s.len) s.state s.pending r.cut_told; place = place_at r.template.now (r.offset + s.len); balance = b; told = r.told })
          (z ∙ e);
    }
