-- Openings, and where they are found.
use Rattle.std.specs.Prelude.{◌≡◌, ℕ, suc, ◌+◌, ◌-◌, ◌<◌, ◌≤◌, Bool, true, false, ◌||◌, ◌⊎◌, List, [], ◌∷◌, reverse, length, take, drop, Some, None, Option, ◌==◌, nat_lt, slice_index}
use Rattle.std.specs.List.{ContainsAt as Has}
use Rattle.byte_search.specs.Search.{stands_at}
use Rattle.finder.specs.declared.StartMarker.{StartMarker}
use Rattle.finder.specs.declared.StartMarker.TheVariants.{Variable, Block, Comment, LineStatement, LineComment}

-- an opening: what it opens, and its bytes
pub record Opening : Type 0 where
  pub marker : StartMarker
  pub bytes : List ℕ

-- a find: how far the place is, what opens there, and how many bytes the opening has
abbrev pub Triple : Type 0
Triple = ℕ × StartMarker × ℕ

-- CR or LF
abbrev pub is_line_end : ℕ → Bool
is_line_end b = b == 13 || b == 10

-- a space or a tab
abbrev pub is_space_or_tab : ℕ → Bool
is_space_or_tab b = b == 32 || b == 9

-- of the bytes before a place, the newest first: only spaces and tabs lie back to CR, LF or the start
unfoldable pub blank_line : List ℕ → Bool
blank_line [] = true
blank_line (b ∷ bs) = elim (is_line_end b) [ true ↦ true | false ↦ elim (is_space_or_tab b) [ true ↦ blank_line bs | false ↦ false ] ]

-- what an opening asks of the bytes before it: a line statement stands at the front of its line
abbrev pub fitting : StartMarker → List ℕ → Bool
fitting Variable behind = true
fitting Block behind = true
fitting Comment behind = true
fitting LineStatement behind = blank_line behind
fitting LineComment behind = true

-- the opening qualifies between these bytes
abbrev pub qualifies : Opening → List ℕ → List ℕ → Bool
qualifies o behind ahead = elim (stands_at o.bytes ahead) [ true ↦ fitting o.marker behind | false ↦ false ]

-- the longer of two openings, of equals the first
abbrev pub longer : Opening → Option Opening → Option Opening
longer o None = Some o
longer o (Some p) = elim (nat_lt (length o.bytes) (length p.bytes)) [ true ↦ Some p | false ↦ Some o ]

-- the longest opening that qualifies between these bytes
unfoldable pub longest : List Opening → List ℕ → List ℕ → Option Opening
longest [] behind ahead = None
longest (o ∷ os) behind ahead = elim (qualifies o behind ahead) [ true ↦ longer o (longest os behind ahead) | false ↦ longest os behind ahead ]

-- one byte further
abbrev pub further : Option Triple → Option Triple
further None = None
further (Some t) = Some (suc t.0, t.1, t.2)

-- the first place ahead where an opening qualifies
unfoldable pub found : List Opening → List ℕ → List ℕ → Option Triple
found os behind [] = None
found os behind (x ∷ xs) = elim (longest os behind (x ∷ xs)) [ Some o ↦ Some (0, o.marker, length o.bytes) | None ↦ further (found os (x ∷ behind) xs) ]

-- the same from an offset of a source on; past the end there is none
abbrev pub found_from : List Opening → List ℕ → ℕ → Option Triple
found_from os xs i = found os (reverse (take i xs)) (drop i xs)

-- in words

-- only spaces and tabs lie between the place k of xs and a CR, an LF or the start before it
abbrev pub AtLineStart : List ℕ → ℕ → Type 0
AtLineStart xs k = (j : ℕ) × (j ≤ k) × ((j ≡ 0) ⊎ (is_line_end (slice_index xs (j - 1)) ≡ true)) × ((i : ℕ) → j ≤ i → i < k → is_space_or_tab (slice_index xs i) ≡ true)

-- the opening qualifies at the place k of xs: it stands there, and a line statement at the front of its line
abbrev pub QualifiesAt : Opening → List ℕ → ℕ → Type 0
QualifiesAt o xs k = (k < length xs) × (stands_at o.bytes (drop k xs) ≡ true) × (o.marker ≡ LineStatement → AtLineStart xs k)

-- what is told from an offset on: none exactly if no opening qualifies anywhere; else the first place where one does, and the longest there
abbrev pub Finds : List Opening → List ℕ → ℕ → Option Triple → Type 0
Finds os xs i None = (k : ℕ) (o : Opening) → i ≤ k → Has os o → QualifiesAt o xs k → ⊥
Finds os xs i (Some t) =
    ((o : Opening) × Has os o × QualifiesAt o xs (i + t.0) × (o.marker ≡ t.1) × (length o.bytes ≡ t.2))
    × ((k : ℕ) (o : Opening) → i ≤ k → k < i + t.0 → Has os o → QualifiesAt o xs k → ⊥)
    × ((o : Opening) → Has os o → QualifiesAt o xs (i + t.0) → length o.bytes ≤ t.2)

-- what is found lies in the source
abbrev pub Inside : List ℕ → ℕ → Option Triple → Type 0
Inside xs i None = Unit {0}
Inside xs i (Some t) = (i + t.0 < length xs) × (i + (t.0 + t.2) ≤ length xs)
