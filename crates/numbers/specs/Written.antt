-- The number that digits write in a base.
use Rattle.std.specs.Prelude.{◌≡◌, ℕ, ◌^◌, ◌<◌, ◌≤◌, true, false, not, ◌⊎◌, List, length, Some, None, filter, Option, ◌==◌, nat_lt, slice_index}
use Rattle.std.specs.Str.Parse.{digits_value}
use Rattle.std.specs.Char.{digit_value}

-- a number, where it is below 2^128
abbrev pub below128 : Option ℕ → Option ℕ
below128 None = None
below128 (Some v) = elim (nat_lt v (2 ^ 128)) [ true ↦ Some v | false ↦ None ]

-- the byte is `_` or a digit of the base
abbrev pub Readable : ℕ → ℕ → Type 0
Readable base x = (x ≡ 95) ⊎ (digit_value x < base)

-- the bytes but for `_`
abbrev pub bare : List ℕ → List ℕ
bare xs = filter (λ x. not (x == 95)) xs

-- the value is what the digits write, where there are bytes, each is `_` or a digit of the base, and the value is below 2^128; else there is none
abbrev pub Written : ℕ → List ℕ → Option ℕ → Type 0
Written base xs None = (length xs ≡ 0) ⊎ (((k : ℕ) × (k < length xs) × (Readable base (slice_index xs k) → ⊥)) ⊎ (2 ^ 128 ≤ digits_value base (bare xs)))
Written base xs (Some v) = (0 < length xs) × ((k : ℕ) → k < length xs → Readable base (slice_index xs k)) × (v ≡ digits_value base (bare xs)) × (v < 2 ^ 128)
