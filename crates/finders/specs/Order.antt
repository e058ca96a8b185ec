-- The order in which openings are tried.
use Rattle.std.specs.Prelude.{ℕ, ◌<◌, ◌≤◌, true, false, List, [], ◌∷◌, map, length, nat_lt, slice_index}
use Rattle.finder.specs.Finding.{Opening}

-- an opening put at its place, behind those that are as long or longer
unfoldable pub entered : Opening → List Opening → List Opening
entered o [] = o ∷ []
entered o (p ∷ ps) = elim (nat_lt (length p.bytes) (length o.bytes)) [ true ↦ o ∷ p ∷ ps | false ↦ p ∷ entered o ps ]

-- one after the other put among those that have a place
unfoldable pub entered_all : List Opening → List Opening → List Opening
entered_all [] placed = placed
entered_all (o ∷ os) placed = entered_all os (entered o placed)

-- the longest first, and those of one length in the order of entry
abbrev pub ordered : List Opening → List Opening
ordered os = entered_all os []

-- the lengths of openings
abbrev pub lengths : List Opening → List ℕ
lengths os = map (λ o. length o.bytes) os

-- lengths do not rise
abbrev pub Falling : List Opening → Type 0
Falling os = (j k : ℕ) → j < k → k < length os → slice_index (lengths os) k ≤ slice_index (lengths os) j

-- the place i lies behind the openings of at least n bytes
abbrev pub Place : List Opening → ℕ → ℕ → Type 0
Place os n i = ((k : ℕ) → k < i → n ≤ slice_index (lengths os) k) × (i < length os → slice_index (lengths os) i < n)
