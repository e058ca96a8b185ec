-- Blank bytes and the ends of lines.
use Rattle.std.specs.Prelude.{◌≡◌, ℕ, suc, ◌<◌, ◌≤◌, Bool, true, false, ◌||◌, ◌⊎◌, List, [], ◌∷◌, length, ◌==◌, ◌≢◌, slice_index}

-- space, tab, LF, FF or CR
abbrev pub is_blank : ℕ → Bool
is_blank b = b == 32 || (b == 9 || (b == 10 || (b == 12 || b == 13)))

-- how many blanks stand at the front
unfoldable pub blank_run : List ℕ → ℕ
blank_run [] = 0
blank_run (x ∷ xs) = elim (is_blank x) [ true ↦ suc (blank_run xs) | false ↦ 0 ]

-- the first `n` bytes are blanks, and the byte behind them, if any, is not
abbrev pub LongestBlank : List ℕ → ℕ → Type 0
LongestBlank xs n = (n ≤ length xs) × ((k : ℕ) → k < n → is_blank (slice_index xs k) ≡ true) × (n < length xs → is_blank (slice_index xs n) ≡ false)

-- one if LF stands at the front
abbrev pub lf : List ℕ → ℕ
lf [] = 0
lf (x ∷ xs) = elim (x == 10) [ true ↦ 1 | false ↦ 0 ]

-- how many bytes the end of a line at the front has, which is CR LF, LF or CR, 0 where there is none
abbrev pub line_end : List ℕ → ℕ
line_end [] = 0
line_end (x ∷ xs) = elim (x == 13) [ true ↦ suc (lf xs) | false ↦ lf (x ∷ xs) ]

-- two bytes are CR LF, one is LF, or CR with no LF behind it, and of none the front is neither CR nor LF
abbrev pub LineEnd : List ℕ → ℕ → Type 0
LineEnd xs n =
    ((n ≡ 2) × (1 < length xs) × (slice_index xs 0 ≡ 13) × (slice_index xs 1 ≡ 10))
    ⊎ (((n ≡ 1) × (0 < length xs) × ((slice_index xs 0 ≡ 10) ⊎ ((slice_index xs 0 ≡ 13) × (slice_index xs 1 ≢ 10))))
    ⊎ ((n ≡ 0) × (slice_index xs 0 ≢ 13) × (slice_index xs 0 ≢ 10)))
