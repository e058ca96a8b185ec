use Rattle.std.proofs.Common.{vec_items}
use Rattle.hex_fields.proofs.Digits.{Reading}
use Rattle.hex_fields.proofs.from_hex.Given as goal

abbrev pub invariant-loop-high : goal.invariant-loop-high
invariant-loop-high l = Reading l.pairs l.high-index (vec_items l.bytes)
