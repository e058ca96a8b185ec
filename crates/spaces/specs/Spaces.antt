-- Ranges of code points, and the Unicode property White_Space.
use Rattle.std.specs.Prelude.{ℕ, ◌+◌, ◌<◌, ◌≤◌, Bool, true, false, ◌&&◌, ◌||◌, List, [], ◌∷◌, length, ◌==◌, nat_le, slice_index_or}
use Rattle.spaces.specs.declared.CodeRange.{CodeRange}

-- the code points from the first to the last
abbrev pub range : ℕ → ℕ → CodeRange
range a b = record { first = a; last = b }

-- the code points that have the property White_Space
abbrev pub white_space : List CodeRange
white_space =
    range 0x0009 0x000D ∷
    range 0x0020 0x0020 ∷
    range 0x0085 0x0085 ∷
    range 0x00A0 0x00A0 ∷
    range 0x1680 0x1680 ∷
    range 0x2000 0x200A ∷
    range 0x2028 0x2029 ∷
    range 0x202F 0x202F ∷
    range 0x205F 0x205F ∷
    range 0x3000 0x3000 ∷
    []

-- the range begins at its first code point, and ends behind its last
abbrev pub begins : CodeRange → ℕ
begins r = r.first

abbrev pub ends : CodeRange → ℕ
ends r = r.last + 1

-- the code point lies in the range
abbrev pub holds : CodeRange → ℕ → Bool
holds r c = nat_le r.first c && nat_le c r.last

-- the code point lies in one of the ranges
unfoldable pub in_ranges : List CodeRange → ℕ → Bool
in_ranges [] c = false
in_ranges (r ∷ rs) c = elim (holds r c) [ true ↦ true | false ↦ in_ranges rs c ]

-- a range at some place holds the code point
abbrev pub Held : List CodeRange → ℕ → Type 0
Held rs c = (k : ℕ) × (k < length rs) × ((d : CodeRange) → ((slice_index_or rs k d).first ≤ c) × (c ≤ (slice_index_or rs k d).last))

-- CR or LF
abbrev pub is_line_end : ℕ → Bool
is_line_end c = c == 13 || c == 10

-- the code point lies in one of the ranges, and is neither CR nor LF
abbrev pub in_line : List CodeRange → ℕ → Bool
in_line rs c = elim (is_line_end c) [ true ↦ false | false ↦ in_ranges rs c ]
