-- Lines of bytes.
use Rattle.std.specs.Prelude.{ℕ, ◌+◌, ◌-◌, true, false, List, [], ◌∷◌, length, take, drop, Some, None, ◌==◌, slice_index}
use Rattle.byte_search.specs.Search.{first_in}

-- a line without its last byte if that is CR
abbrev pub bare : List ℕ → List ℕ
bare xs = elim (slice_index xs (length xs - 1) == 13) [ true ↦ take (length xs - 1) xs | false ↦ xs ]

-- the bytes before the first LF, without a CR right before it; all of them where there is no LF
abbrev pub line_of : List ℕ → List ℕ
line_of xs = elim (first_in (10 ∷ []) xs) [ Some i ↦ bare (take i xs) | None ↦ xs ]

-- the bytes behind the first LF, or none
abbrev pub rest_of : List ℕ → List ℕ
rest_of xs = elim (first_in (10 ∷ []) xs) [ Some i ↦ drop (i + 1) xs | None ↦ [] ]
