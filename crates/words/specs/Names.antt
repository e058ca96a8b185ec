-- Identifiers.
use Rattle.std.specs.Prelude.{◌≡◌, ℕ, zero, suc, true, false, List, [], ◌∷◌, Some, None, Option, slice_index}
use Rattle.rules.specs.Bytes.{leads_name, is_name_part, run, LongestRun}

-- how many bytes the identifier at the front has, 0 where none begins there
abbrev pub ident_len : List ℕ → ℕ
ident_len [] = 0
ident_len (x ∷ xs) = elim (leads_name x) [ true ↦ run is_name_part (x ∷ xs) | false ↦ 0 ]

-- so many bytes, if there are any
abbrev pub some_len : ℕ → Option ℕ
some_len zero = None
some_len (suc n) = Some (suc n)

-- an identifier begins at the front, and the longest run of its bytes has so many; of None, that none begins there
abbrev pub FirstName : List ℕ → Option ℕ → Type 0
FirstName xs None = leads_name (slice_index xs 0) ≡ true → ⊥
FirstName xs (Some n) = (leads_name (slice_index xs 0) ≡ true) × LongestRun is_name_part xs n
