-- UTF-8, as Table 3-7 of the Unicode Standard lists its well-formed byte sequences.
use Rattle.std.specs.Prelude.{◌≡◌, ℕ, zero, suc, ◌+◌, ◌-◌, ◌*◌, ◌<◌, ◌≤◌, Bool, true, false, ◌&&◌, List, [], ◌∷◌, ◌++◌, length, take, drop, Some, None, Ok, Err, IsUtf8, Option, Result, ◌==◌, ◌≢◌, nat_le, slice_index, codes}
use Rattle.std.proofs.Math.Utf8.{scalar, encode}
use Rattle.std.specs.Str.{IsValidUpTo}
use Rattle.std.specs.Fmt.{decimal}
use Rattle.utf8.specs.declared.Char.{Char}
use Rattle.utf8.specs.declared.NotUtf8.{NotUtf8}

-- the least and the greatest value of a byte
abbrev pub Range : Type 0
Range = ℕ × ℕ

-- the rows of the table: the range of each byte of a sequence
unfoldable pub table : List (List Range)
table =
    ((0x00, 0x7F) ∷ []) ∷
    ((0xC2, 0xDF) ∷ (0x80, 0xBF) ∷ []) ∷
    ((0xE0, 0xE0) ∷ (0xA0, 0xBF) ∷ (0x80, 0xBF) ∷ []) ∷
    ((0xE1, 0xEC) ∷ (0x80, 0xBF) ∷ (0x80, 0xBF) ∷ []) ∷
    ((0xED, 0xED) ∷ (0x80, 0x9F) ∷ (0x80, 0xBF) ∷ []) ∷
    ((0xEE, 0xEF) ∷ (0x80, 0xBF) ∷ (0x80, 0xBF) ∷ []) ∷
    ((0xF0, 0xF0) ∷ (0x90, 0xBF) ∷ (0x80, 0xBF) ∷ (0x80, 0xBF) ∷ []) ∷
    ((0xF1, 0xF3) ∷ (0x80, 0xBF) ∷ (0x80, 0xBF) ∷ (0x80, 0xBF) ∷ []) ∷
    ((0xF4, 0xF4) ∷ (0x80, 0x8F) ∷ (0x80, 0xBF) ∷ (0x80, 0xBF) ∷ []) ∷
    []

-- the byte lies in the range
abbrev pub within : Range → ℕ → Bool
within r x = nat_le r.0 x && nat_le x r.1

-- the bytes at the front lie in the ranges of the row
unfoldable pub fits : List Range → List ℕ → Bool
fits [] xs = true
fits (r ∷ rs) [] = false
fits (r ∷ rs) (x ∷ xs) = elim (within r x) [ true ↦ fits rs xs | false ↦ false ]

-- how many bytes the first row has that fits, 0 where none does
unfoldable pub width_by : List (List Range) → List ℕ → ℕ
width_by [] xs = 0
width_by (row ∷ rows) xs = elim (fits row xs) [ true ↦ length row | false ↦ width_by rows xs ]

-- how many bytes the well-formed sequence at the front has, 0 where there is none
abbrev pub width : List ℕ → ℕ
width xs = width_by table xs

-- the bits that a byte after the first carries
abbrev pub low : List ℕ → ℕ → ℕ
low xs i = slice_index xs i - 0x80

-- the code point whose bits the sequence of this many bytes at the front carries
abbrev pub code_of : ℕ → List ℕ → ℕ
code_of zero xs = 0
code_of (suc zero) xs = slice_index xs 0
code_of (suc (suc zero)) xs = (slice_index xs 0 - 0xC0) * 64 + low xs 1
code_of (suc (suc (suc zero))) xs = (slice_index xs 0 - 0xE0) * 4096 + low xs 1 * 64 + low xs 2
code_of (suc (suc (suc (suc n)))) xs = (slice_index xs 0 - 0xF0) * 262144 + low xs 1 * 4096 + low xs 2 * 64 + low xs 3

-- the character of a sequence of this many bytes at the front, none of 0 bytes
abbrev pub char_of : ℕ → List ℕ → Option Char
char_of zero xs = None
char_of (suc n) xs = Some (record { code = code_of (suc n) xs; width = suc n })

-- the character at the front, none where no well-formed sequence stands there
abbrev pub char_at : List ℕ → Option Char
char_at xs = char_of (width xs) xs

-- the length of the longest front that is a row of well-formed sequences; `k` bytes of a sequence are still to pass
unfoldable pub prefix_after : ℕ → List ℕ → ℕ
prefix_after k [] = 0
prefix_after (suc k) (x ∷ xs) = suc (prefix_after k xs)
prefix_after zero (x ∷ xs) = elim (width (x ∷ xs)) [ zero ↦ 0 | suc n ↦ suc (prefix_after n xs) ]

-- the length of the well-formed prefix
abbrev pub prefix : List ℕ → ℕ
prefix xs = prefix_after 0 xs

-- the characters of the well-formed prefix; `k` bytes of a sequence are still to pass
unfoldable pub characters_after : ℕ → ℕ → List ℕ → List (ℕ × ℕ)
characters_after k at [] = []
characters_after (suc k) at (x ∷ xs) = characters_after k (at + 1) xs
characters_after zero at (x ∷ xs) = elim (width (x ∷ xs)) [ zero ↦ [] | suc n ↦ (at, code_of (suc n) (x ∷ xs)) ∷ characters_after n (at + 1) xs ]

-- the characters of the well-formed prefix, each with its offset in bytes, which counts from `at`, and its code point
abbrev pub characters : ℕ → List ℕ → List (ℕ × ℕ)
characters at xs = characters_after 0 at xs

-- all of the bytes are well formed, or the first that are not begin at this byte
abbrev pub checked : List ℕ → Result Unit NotUtf8
checked xs = elim (prefix xs == length xs) [ true ↦ Ok tt | false ↦ Err (record { byte = prefix xs }) ]

-- the character at `at` is a scalar value that is encoded there; where there is none, none is
abbrev pub Encoded : List ℕ → ℕ → Option Char → Type 0
Encoded s at None = (c : ℕ) (rest : List ℕ) → scalar c ≡ true → drop at s ≢ encode c ++ rest
Encoded s at (Some c) = (scalar c.code ≡ true) × (take c.width (drop at s) ≡ encode c.code) × (0 < c.width) × (at + c.width ≤ length s)

-- what is checked is UTF-8 as the standard library has it, and what is refused is so up to the byte
abbrev pub Agrees : List ℕ → Result Unit NotUtf8 → Type 0
Agrees s (Ok u) = IsUtf8 s
Agrees s (Err e) = (IsUtf8 s → ⊥) × IsValidUpTo s e.byte

-- `b` lies in the range of the second byte in the row that `a` leads, where such a row has two bytes or more
abbrev pub Second : ℕ → ℕ → Type 0
Second a b = (0x80 ≤ b) × (b ≤ 0xBF) × (a ≡ 0xE0 → 0xA0 ≤ b) × (a ≡ 0xED → b ≤ 0x9F) × (a ≡ 0xF0 → 0x90 ≤ b) × (a ≡ 0xF4 → b ≤ 0x8F)

-- what a refusal is in print
abbrev pub not_utf8_text : NotUtf8 → List ℕ
not_utf8_text e = codes "not UTF-8 from byte " ++ decimal e.byte ++ codes " on"
