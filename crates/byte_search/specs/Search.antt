-- What a search over bytes finds.
use Rattle.std.specs.Prelude.{◌≡◌, ℕ, suc, ◌<◌, ◌≤◌, Bool, true, false, List, [], ◌∷◌, length, drop, Some, None, Option, ◌==◌, slice_index}

-- the bytes begin with `ds`
unfoldable pub stands_at : List ℕ → List ℕ → Bool
stands_at [] xs = true
stands_at (d ∷ ds) [] = false
stands_at (d ∷ ds) (x ∷ xs) = elim (d == x) [ true ↦ stands_at ds xs | false ↦ false ]

-- the byte is one of the list
unfoldable pub is_in : List ℕ → ℕ → Bool
is_in [] b = false
is_in (n ∷ ns) b = elim (n == b) [ true ↦ true | false ↦ is_in ns b ]

-- one place further
abbrev pub further : Option ℕ → Option ℕ
further None = None
further (Some n) = Some (suc n)

-- the first place whose byte is one of `ns`
unfoldable pub first_in : List ℕ → List ℕ → Option ℕ
first_in ns [] = None
first_in ns (x ∷ xs) = elim (is_in ns x) [ true ↦ Some 0 | false ↦ further (first_in ns xs) ]

-- the first place at which `ds` stands, the end included
unfoldable pub distance_to : List ℕ → List ℕ → Option ℕ
distance_to ds [] = elim (stands_at ds []) [ true ↦ Some 0 | false ↦ None ]
distance_to ds (x ∷ xs) = elim (stands_at ds (x ∷ xs)) [ true ↦ Some 0 | false ↦ further (distance_to ds xs) ]

-- the first place that has the property; of None, that no place has it
abbrev pub First : (ℕ → Type 0) → Option ℕ → Type 0
First P None = (k : ℕ) → P k → ⊥
First P (Some i) = P i × ((k : ℕ) → k < i → P k → ⊥)

-- the byte stands somewhere in the list
abbrev pub Among : List ℕ → ℕ → Type 0
Among ns b = (j : ℕ) × (j < length ns) × (slice_index ns j ≡ b)

-- a place of `xs` that holds the byte `b`
abbrev pub Holds : ℕ → List ℕ → ℕ → Type 0
Holds b xs k = (k < length xs) × (slice_index xs k ≡ b)

-- a place of `xs` that holds one of `ns`
abbrev pub HoldsAny : List ℕ → List ℕ → ℕ → Type 0
HoldsAny ns xs k = (k < length xs) × Among ns (slice_index xs k)

-- a place of `xs`, the end included, at which `ds` stands
abbrev pub Stands : List ℕ → List ℕ → ℕ → Type 0
Stands ds xs k = (k ≤ length xs) × (stands_at ds (drop k xs) ≡ true)
