-- Balances of brackets that are small enough for an i64 to hold them with one bracket more or less.
use Rattle.std.specs.Prelude.{◌^◌, ℤ, pos, negsuc, ◌≤ℤ◌}

-- at least -2^62 - 1 and at most 2^62
abbrev pub Moderate : ℤ → Type 0
Moderate b = (negsuc (2 ^ 62) ≤ℤ b) × (b ≤ℤ pos (2 ^ 62))
