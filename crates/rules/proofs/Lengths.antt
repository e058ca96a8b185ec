-- How many bytes the walks of the rules take at most.
use Rattle.std.proofs.Common.{◌≡◌, ℕ, zero, suc, ◌+◌, ◌<◌, ◌≤◌, Bool, true, false, eqb, List, [], ◌∷◌, length, Some, None, Option, refl, ap, ⊎_elim, arith}
use Rattle.std.proofs.lemmas.Bool.{cases_Bool, both_ways}
use Rattle.std.specs.List.{ContainsAt as Has}
use Rattle.byte_search.specs.Search.{stands_at, distance_to, further, First, Stands}
use Rattle.byte_search.proofs.Stands.{stands_fits}
use Rattle.byte_search.proofs.Firsts.{distance_first, stands_room}
use Rattle.finder.specs.Finding.{Opening, Triple, found, longest, qualifies, fitting}
use Rattle.finder.specs.Finding.{further as onward}
use Rattle.finder.proofs.Longest.{Best, longest_best}
use Rattle.spaces.specs.Lines.{blank_run, line_end, lf}
use Rattle.spaces.proofs.Lines.{blank_longest}
use Rattle.spaces.specs.Runs.{white_run, kept}
use Rattle.spaces.proofs.Runs.{run_longest}
use Rattle.spaces.proofs.Tails.{kept_le}
use Rattle.rules.specs.declared.NumberState.{NumberState}
use Rattle.rules.specs.Bytes.{run}
use Rattle.rules.specs.Numbers.{turn, scan, Scanned, longer}
use Rattle.rules.specs.Strings.{quote_end}
use Rattle.rules.specs.Texts.{real_by, real, AllReal}

pub run_le : (p : ℕ → Bool) (xs : List ℕ) → run p xs ≤ length xs
unfolding run
run_le p [] = omega arith
run_le p (x ∷ xs) = elim (p x) as (λ t. elim t [ true ↦ suc (run p xs) | false ↦ 0 ] ≤ length (x ∷ xs)) [ true ↦ omega (arith, run_le p xs) | false ↦ omega arith ]

pub blank_le : (xs : List ℕ) → blank_run xs ≤ length xs
blank_le xs = (blank_longest xs).0

pub white_le : (p : ℕ → Bool) (xs : List ℕ) → white_run p xs ≤ length xs
white_le p xs = (run_longest p xs).0

pub kept_within : (p : ℕ → Bool) (xs : List ℕ) → kept p xs ≤ length xs
kept_within p xs = kept_le p xs

lf_le : (xs : List ℕ) → lf xs ≤ length xs
lf_le [] = omega arith
lf_le (x ∷ xs) = elim (eqb x 10) as (λ t. elim t [ true ↦ 1 | false ↦ 0 ] ≤ length (x ∷ xs)) [ true ↦ omega arith | false ↦ omega arith ]

pub line_end_le : (xs : List ℕ) → line_end xs ≤ length xs
line_end_le [] = omega arith
line_end_le (x ∷ xs) = elim (eqb x 13) as (λ t. elim t [ true ↦ suc (lf xs) | false ↦ lf (x ∷ xs) ] ≤ length (x ∷ xs)) [ true ↦ omega (arith, lf_le xs) | false ↦ lf_le (x ∷ xs) ]

-- a distance lies inside, with the bytes that stand there
abbrev pub Reached : List ℕ → List ℕ → Option ℕ → Type 0
Reached ds xs None = Unit {0}
Reached ds xs (Some d) = d + length ds ≤ length xs

by_first : (ds xs : List ℕ) (r : Option ℕ) → First (Stands ds xs) r → Reached ds xs r
by_first ds xs None f = tt
by_first ds xs (Some d) f = stands_room ds xs d f.0

pub distance_le : (ds xs : List ℕ) → Reached ds xs (distance_to ds xs)
distance_le ds xs = by_first ds xs (distance_to ds xs) (distance_first ds xs)

-- a place among the bytes
abbrev pub Below : List ℕ → Option ℕ → Type 0
Below xs None = Unit {0}
Below xs (Some d) = d < length xs

further_below : (x : ℕ) (xs : List ℕ) (r : Option ℕ) → Below xs r → Below (x ∷ xs) (further r)
further_below x xs None h = tt
further_below x xs (Some d) h = omega arith

pub quote_le : (q : ℕ) (e : Bool) (xs : List ℕ) → Below xs (quote_end q e xs)
unfolding quote_end
quote_le q e [] = tt
quote_le q true (x ∷ xs) = further_below x xs (quote_end q false xs) (quote_le q false xs)
quote_le q false (x ∷ xs) = elim (eqb x q) as (λ t. Below (x ∷ xs) (elim t [ true ↦ Some 0 | false ↦ further (quote_end q (eqb x 92) xs) ])) [
  | true ↦ omega arith
  | false ↦ further_below x xs (quote_end q (eqb x 92) xs) (quote_le q (eqb x 92) xs)
]

pub scan_le : (base : ℕ) (dotted : Bool) (p : NumberState) (xs : List ℕ) → (scan base dotted p xs).0 ≤ length xs
unfolding scan
scan_le base dotted p [] = omega arith
scan_le base dotted p (x ∷ xs) =
    elim (turn base dotted p x xs) as (λ r. (elim r as (λ _. Scanned) [ None ↦ (0, p) | Some q ↦ longer (scan base dotted q xs) ]).0 ≤ length (x ∷ xs)) [
      | None ↦ omega arith
      | Some q ↦ omega (arith, scan_le base dotted q xs)
    ]

-- every opening has a byte
abbrev pub Filled : List Opening → Type 0
Filled os = (o : Opening) → Has os o → 0 < length o.bytes

-- what is found of openings lies ahead, and has a byte where they do
abbrev Ahead : List Opening → List ℕ → Option Triple → Type 0
Ahead os xs None = Unit {0}
Ahead os xs (Some t) = (t.0 + t.2 ≤ length xs) × (t.0 < length xs) × (Filled os → 0 < t.2)

-- what is found has a byte and lies ahead
abbrev pub Within : List ℕ → Option Triple → Type 0
Within xs None = Unit {0}
Within xs (Some t) = (0 < t.2) × (t.0 + t.2 ≤ length xs) × (t.0 < length xs)

onward_ahead : (os : List Opening) (x : ℕ) (xs : List ℕ) (r : Option Triple) → Ahead os xs r → Ahead os (x ∷ xs) (onward r)
onward_ahead os x xs None h = tt
onward_ahead os x xs (Some t) h = (omega (arith, h.0), omega (arith, h.1), h.2)

pub stands_of : (o : Opening) (behind xs : List ℕ) → qualifies o behind xs ≡ true → stands_at o.bytes xs ≡ true
stands_of o behind xs e = ⊎_elim (λ h. h) (λ h. absurd (both_ways (qualifies o behind xs) (ap (λ t. elim t [ true ↦ fitting o.marker behind | false ↦ false ]) h) e)) (cases_Bool (stands_at o.bytes xs))

found_ahead_by : (os : List Opening) (behind : List ℕ) (x : ℕ) (xs : List ℕ) (r : Option Opening) → Best os behind (x ∷ xs) r → Ahead os xs (found os (x ∷ behind) xs)
    → Ahead os (x ∷ xs) (elim r [ Some o ↦ Some (0, o.marker, length o.bytes) | None ↦ onward (found os (x ∷ behind) xs) ])
found_ahead_by os behind x xs None b h = onward_ahead os x xs (found os (x ∷ behind) xs) h
found_ahead_by os behind x xs (Some o) b h =
    let l : length o.bytes ≤ length (x ∷ xs) = stands_fits o.bytes (x ∷ xs) (stands_of o behind (x ∷ xs) b.1) in
    (omega arith, omega arith, λ f. f o b.0)

found_ahead : (os : List Opening) (behind xs : List ℕ) → Ahead os xs (found os behind xs)
unfolding found
found_ahead os behind [] = tt
found_ahead os behind (x ∷ xs) = found_ahead_by os behind x xs (longest os behind (x ∷ xs)) (longest_best behind (x ∷ xs) os) (found_ahead os (x ∷ behind) xs)

real_within_by : (xs : List ℕ) (n : ℕ) (t : Triple) → t.2 ≡ n → t.0 + t.2 ≤ length xs → t.0 < length xs → Within xs (real_by n t)
real_within_by xs zero t e h l = tt
real_within_by xs (suc n) t e h l = (omega arith, h, l)

real_within : (os : List Opening) (xs : List ℕ) (r : Option Triple) → Ahead os xs r → Within xs (real r)
real_within os xs None h = tt
real_within os xs (Some t) h = real_within_by xs t.2 t refl h.0 h.1

-- what is taken for a find has a byte and lies ahead
pub found_within : (os : List Opening) (behind xs : List ℕ) → Within xs (real (found os behind xs))
found_within os behind xs = real_within os xs (found os behind xs) (found_ahead os behind xs)

real_same_by : (n : ℕ) (t : Triple) → t.2 ≡ n → 0 < t.2 → real_by n t ≡ Some t
real_same_by zero t e h = absurd (omega arith)
real_same_by (suc n) t e h = refl

real_same : (os : List Opening) → Filled os → (xs : List ℕ) (r : Option Triple) → Ahead os xs r → real r ≡ r
real_same os f xs None h = refl
real_same os f xs (Some t) h = real_same_by t.2 t refl (h.2 f)

-- where every opening has a byte no find is passed over
pub all_real : (os : List Opening) → Filled os → AllReal os
all_real os f behind ahead = real_same os f ahead (found os behind ahead) (found_ahead os behind ahead)
