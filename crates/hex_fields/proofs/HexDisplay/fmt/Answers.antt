use Rattle.std.proofs.Common.{◌<◌, ◌-◌, [], ◌∷◌, length, take, drop, get_or, rules}
use Rattle.std.proofs.Output.{has_written_append, has_written_of_eq}
use Rattle.std.specs.Fmt.{HasWritten}
use Rattle.hex_fields.specs.Hex.{byte_text}
use Rattle.hex_fields.proofs.Digits.{text_more}
use Rattle.hex_fields.proofs.HexDisplay.fmt.Goals as goal

pub loop-b-preserved : goal.loop-b-preserved
loop-b-preserved g c =
    λ plain.
    let xs = c.args.self.now.0.now in
    let rest = take (length xs - 1) (drop 1 xs) in
    let i = c.loop-b.b-index in
    let took = g.W.Write.write_str_gives in
    let now = c.loop-b.invariant plain in
    let below : i < length rest = search rules in
    let space : HasWritten took c.loop-b.f (32 ∷ []) c.write_str.new.self = search (rules, now) in
    let digits : HasWritten took c.write_str.new.self (byte_text (get_or rest i 0)) c.write_byte-in-loop-b.new.f = search (rules, space) in
    has_written_of_eq _ _ _ _ _ (text_more (get_or xs 0 0) rest i below) (has_written_append _ _ _ _ _ _ (has_written_append _ _ _ _ _ _ now space) digits)
