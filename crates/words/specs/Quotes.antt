-- Which quote closes a string.
use Rattle.std.specs.Prelude.{◌≡◌, ℕ, zero, suc, ◌%◌, true, false, List, ◌==◌, slice_index}
use Rattle.byte_search.specs.Search.{Holds}

-- how many backslashes stand directly before the place
unfoldable pub backslashes_before : List ℕ → ℕ → ℕ
backslashes_before xs zero = 0
backslashes_before xs (suc k) = elim (slice_index xs k == 92) [ true ↦ suc (backslashes_before xs k) | false ↦ 0 ]

-- an odd number of backslashes stands directly before the place
abbrev pub Escaped : List ℕ → ℕ → Type 0
Escaped xs k = backslashes_before xs k % 2 ≡ 1

-- a place that holds the quote and is not escaped
abbrev pub Closes : ℕ → List ℕ → ℕ → Type 0
Closes q xs k = Holds q xs k × (Escaped xs k → ⊥)
