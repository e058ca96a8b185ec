use Rattle.std.proofs.Common.{◌≡◌, None, ◌∙◌, ap, sym, vec_items, rules}
use Rattle.hex_fields.specs.Hex.{unhex}
use Rattle.hex_fields.proofs.Digits.{read_even, read_pairs, reading_bad, reading_all}
use Rattle.hex_fields.proofs.from_hex.Goals as goal

pub returns-in_err-ok_or : goal.returns-in_err-ok_or
returns-in_err-ok_or c =
    let n : unhex c.args.text.now ≡ None =
    read_even c.args.text.now (search rules) ∙ ap read_pairs (sym c.as_chunks.ensures.front) ∙ reading_bad c.as_chunks.result.0.now c.loop-high.high-index (vec_items c.loop-high.bytes) c.loop-high-test.true (search rules) c.loop-high.invariant in
    search (rules, n)

pub returns : goal.returns
returns c = read_even c.args.text.now (search rules) ∙ ap read_pairs (sym c.as_chunks.ensures.front) ∙ reading_all c.as_chunks.result.0.now c.loop-high.high-index (vec_items c.loop-high.bytes) c.loop-high-test.false c.loop-high.invariant
