use Rattle.std.proofs.Common.{◌≡◌, ◌+◌, ◌∙◌, ap, sym, arith}
use Rattle.places.specs.Places.{beyond, capped, count_lf, count_chars, since_lf}
use Rattle.places.proofs.Advances.{place_same, beyond_line, beyond_offset}
use Rattle.places.proofs.Countings.{lf_count, lead_count, beyond_counted}
use Rattle.places.proofs.Place.leap.Goals.{then-lines-eq0, else-lines-eq0}
use Rattle.places.proofs.Place.leap.Goals as goal

pub returns : goal.returns
returns c =
    let xs = c.args.bytes.now in
    let p = c.args.self in
    let lines : c.count-lines.result ≡ count_lf xs = c.count-lines.ensures ∙ sym (lf_count xs) in
    let chars : c.count.result ≡ count_chars (since_lf xs) = c.count.ensures ∙ sym (lead_count c.since_lf.result.now) ∙ ap count_chars c.since_lf.ensures in
    let column : (beyond xs p).column ≡ c.if-lines-eq0.column + count_chars (since_lf xs) = elim c.if-lines-eq0.branch [
      | then-lines-eq0 w ↦ beyond_counted xs p c.if-lines-eq0.column (λ z. w.column-is) (λ h. absurd (omega (arith, lines, w.if-lines-eq0)))
      | else-lines-eq0 w ↦ beyond_counted xs p c.if-lines-eq0.column (λ z. absurd (omega (arith, lines, w.if-lines-eq0))) (λ h. w.column-is)
    ] in
    place_same _ (capped (beyond xs p))
    (omega (arith, lines, c.add_u16.ensures, beyond_line xs p))
    (omega (arith, chars, column, c.add_u16-2.ensures))
    (omega (arith, c.add_u32.ensures, beyond_offset xs p))
