-- Records that each cover a range of numbers: from where it begins up to, and without, where it ends.
use Rattle.std.specs.Prelude.{ℕ, suc, ◌+◌, ◌-◌, ◌<◌, ◌≤◌, true, false, List, [], ◌∷◌, length, Some, None, Option, nat_lt, slice_index_or}

-- one place further
abbrev pub further : Option ℕ → Option ℕ
further None = None
further (Some n) = Some (suc n)

-- the first place whose record begins before the one right before it ended, where one that ended at `e` is before all
unfoldable pub too_early_from : {X : Type 0} → (X → ℕ) → (X → ℕ) → ℕ → List X → Option ℕ
too_early_from begins ends e [] = None
too_early_from begins ends e (x ∷ xs) = elim (nat_lt (begins x) e) [ true ↦ Some 0 | false ↦ further (too_early_from begins ends (ends x) xs) ]

-- the first place whose record begins before the one right before it ended
unfoldable pub first_too_early : {X : Type 0} → (X → ℕ) → (X → ℕ) → List X → Option ℕ
first_too_early begins ends [] = None
first_too_early begins ends (x ∷ xs) = further (too_early_from begins ends (ends x) xs)

-- of the first `n` records each begins no earlier than the one before it ended
abbrev pub RisingTo : {X : Type 0} → (X → ℕ) → (X → ℕ) → ℕ → List X → Type 0
RisingTo {X} begins ends n xs = (k : ℕ) → k + 1 < n → (d : X) → ends (slice_index_or xs k d) ≤ begins (slice_index_or xs (k + 1) d)

-- each record begins no earlier than the one before it ended
abbrev pub Rising : {X : Type 0} → (X → ℕ) → (X → ℕ) → List X → Type 0
Rising begins ends xs = RisingTo begins ends (length xs) xs

-- there is a record before the one at `i`, which begins before that ended
abbrev pub TooEarly : {X : Type 0} → (X → ℕ) → (X → ℕ) → ℕ → List X → Type 0
TooEarly {X} begins ends i xs = (0 < i) × (i < length xs) × ((d : X) → begins (slice_index_or xs i d) < ends (slice_index_or xs (i - 1) d))

-- of None, that the records are rising; of a place, that its record is too early and those before it are rising
abbrev pub Told : {X : Type 0} → (X → ℕ) → (X → ℕ) → List X → Option ℕ → Type 0
Told begins ends xs None = Rising begins ends xs
Told begins ends xs (Some i) = TooEarly begins ends i xs × RisingTo begins ends i xs
