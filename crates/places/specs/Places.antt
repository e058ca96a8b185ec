-- Where in a template a place lies: its line, its column and its offset.
use Rattle.std.specs.Prelude.{◌≡◌, ℕ, suc, ◌+◌, min, Bool, true, false, not, ◌&&◌, List, [], ◌∷◌, ◌++◌, length, ◌==◌, nat_le, nat_lt}
use Rattle.std.specs.Fmt.{decimal}
use Rattle.places.specs.declared.Place.{Place}

-- the highest line that is told
abbrev pub line_cap : ℕ
line_cap = 65535

-- the highest column that is told
abbrev pub column_cap : ℕ
column_cap = 65535

-- the highest offset that is told
abbrev pub offset_cap : ℕ
offset_cap = 4294967295

-- the byte is LF
abbrev pub is_lf : ℕ → Bool
is_lf b = b == 10

-- the byte goes on with a character: 80 to BF hex
abbrev pub goes_on : ℕ → Bool
goes_on b = nat_le 128 b && nat_le b 191

-- the byte is the first of a character
abbrev pub is_lead : ℕ → Bool
is_lead b = not (goes_on b)

-- line 1, column 0, offset 0
abbrev pub first_place : Place
first_place = record { line = 1; column = 0; offset = 0 }

-- one byte further: an LF begins a line, and else a byte that does not go on with a character counts a column
abbrev pub past : ℕ → Place → Place
past b p = record {
  line = elim (is_lf b) [ true ↦ p.line + 1 | false ↦ p.line ];
  column = elim (is_lf b) [ true ↦ 0 | false ↦ elim (goes_on b) [ true ↦ p.column | false ↦ p.column + 1 ] ];
  offset = p.offset + 1;
}

-- some bytes further
unfoldable pub beyond : List ℕ → Place → Place
beyond [] p = p
beyond (x ∷ xs) p = beyond xs (past x p)

-- a place as it is told: each number at most its cap
abbrev pub capped : Place → Place
capped p = record { line = min p.line line_cap; column = min p.column column_cap; offset = min p.offset offset_cap }

-- how many of the bytes are LF
unfoldable pub count_lf : List ℕ → ℕ
count_lf [] = 0
count_lf (x ∷ xs) = elim (is_lf x) [ true ↦ suc (count_lf xs) | false ↦ count_lf xs ]

-- how many characters the bytes have: each is counted at its first byte
unfoldable pub count_chars : List ℕ → ℕ
count_chars [] = 0
count_chars (x ∷ xs) = elim (goes_on x) [ true ↦ count_chars xs | false ↦ suc (count_chars xs) ]

-- the byte is a character of its own, and not LF
abbrev pub is_single : ℕ → Bool
is_single b = nat_lt b 128 && not (is_lf b)

-- none of the bytes is LF, and each is a character
abbrev pub OneEach : List ℕ → Type 0
OneEach xs = (count_lf xs ≡ 0) × (count_chars xs ≡ length xs)

-- the bytes behind the last LF
unfoldable pub since_lf : List ℕ → List ℕ
since_lf [] = []
since_lf (x ∷ xs) = elim (nat_lt 0 (count_lf (x ∷ xs))) [ true ↦ since_lf xs | false ↦ x ∷ xs ]

-- the place behind the bytes: 1 and the LFs, the characters since the last LF, the bytes
abbrev pub place_behind : List ℕ → Place
place_behind xs = record { line = 1 + count_lf xs; column = count_chars (since_lf xs); offset = length xs }

-- a place in print: line, column and offset in decimal, with colons between
abbrev pub place_text : Place → List ℕ
place_text p = decimal p.line ++ (58 ∷ []) ++ decimal p.column ++ (58 ∷ []) ++ decimal p.offset
