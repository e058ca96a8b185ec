-- Lines that hold white space only, and what a strip leaves.
use Rattle.std.specs.Prelude.{◌≡◌, ℕ, ◌-◌, ◌≤◌, Bool, true, ◌⊎◌, List, length, take, drop, slice_index}
use Rattle.finder.specs.Finding.{is_line_end}
use Rattle.finder.specs.declared.StartMarker.{StartMarker}
use Rattle.spaces.specs.Runs.{AllPass, kept}
use Rattle.spaces.specs.Spaces.{white_space, in_line}
use Rattle.rules.specs.declared.whitespace.Whitespace.{Whitespace}
use Rattle.rules.specs.declared.whitespace.Whitespace.TheVariants.{Default, Preserve, Remove}
use Rattle.rules.specs.Config.{Config, white}
use Rattle.rules.specs.Texts.{due, stripped}

-- a line begins at the place j of xs: it is the start, or CR or LF is right before it
abbrev pub LineBegins : List ℕ → ℕ → Type 0
LineBegins xs j = (j ≡ 0) ⊎ (is_line_end (slice_index xs (j - 1)) ≡ true)

-- a line begins at or before the place k of xs, from where on only White_Space other than CR and LF lies before k
abbrev pub WhiteLine : List ℕ → ℕ → Type 0
WhiteLine xs k = (j : ℕ) × (j ≤ k) × LineBegins xs j × AllPass (in_line white_space) (drop j (take k xs))

-- r bytes are left: those behind them are all characters that pass the test, and no fewer will do
abbrev pub Trims : (ℕ → Bool) → List ℕ → ℕ → Type 0
Trims p xs r = AllPass p (drop r xs) × ((m : ℕ) → AllPass p (drop m xs) → r ≤ m)

-- r bytes are nothing or end in LF, and behind them White_Space other than CR and LF is all that is left
abbrev pub Strips : List ℕ → ℕ → Type 0
Strips xs r = ((r ≡ 0) ⊎ (slice_index xs (r - 1) ≡ 10)) × AllPass (in_line white_space) (drop r xs)

-- what a strip leaves: the fewest bytes that all of such white space leaves, if it can; else all
abbrev pub Left : List ℕ → ℕ → Type 0
Left xs r =
    (Strips xs r × ((m : ℕ) → AllPass (in_line white_space) (drop m xs) → r ≤ m))
    ⊎ ((r ≡ length xs) × ((m : ℕ) → Strips xs m → ⊥))

-- how many bytes of the text xs are left before an opening with this sign, with these bytes read before the opening:
-- `-` takes trailing White_Space off, and with no sign a strip may be due
abbrev pub left_before : Config → StartMarker → Whitespace → List ℕ → List ℕ → ℕ
left_before s m Remove behind xs = kept (white s) xs
left_before s m Preserve behind xs = length xs
left_before s m Default behind xs = stripped (due s m behind) s xs
