use Rattle.std.proofs.Common.{◌^◌, ◌<◌, length}
use Rattle.numbers.proofs.Digits.{Walked}
use Rattle.numbers.proofs.values.from_str_radix.Given as goal

abbrev pub invariant-loop-c : goal.invariant-loop-c
invariant-loop-c l = (0 < length l.digits) × (l.value < 2 ^ 128) × Walked l.radix l.digits l.c-index l.value
