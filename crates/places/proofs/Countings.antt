-- Counting bytes in chunks is counting them all, and what is counted is what a place tells.
use Rattle.std.proofs.Common.{◌≡◌, MatchBool, min, ◌<◌, slice_index, ⊎_elim, ℕ, ◌%◌, ◌^◌, map, replicate, zero, suc, ◌+◌, ◌*◌, ◌<◌, ◌≤◌, Bool, true, false, not, cond, List, [], ◌∷◌, length, take, drop, get_or, count_by, nat_le, nat_lt, refl, sym, ap, ◌∙◌, w8, arith}
use Rattle.std.specs.Simd.{first_chunks}
use lib.Seq.{take-add, drop-drop}
use lib.Lanes.{top}
use Rattle.std.specs.Simd.Lanes.{mask_l, zip2}
use Rattle.std.proofs.lemmas.List.{length-map}
use Rattle.std.proofs.lemmas.Simd.{tops_compared, zip2_splat_left, mask_l-mod}
use Rattle.std.proofs.lemmas.List.Sums.{sum_by-append, sum_by-cons}
use Rattle.std.proofs.lemmas.List.Recursion.{is_count_by}
use Rattle.std.proofs.lemmas.Bool.Decides.{nat_tests}
use Rattle.std.specs.List.{AllWithin, HoldsAt}
use Rattle.std.proofs.lemmas.Bool.{cases_Bool, cases_lt, false≢true}
use Rattle.places.proofs.Characters.{count_lead}
use Rattle.places.specs.declared.Place.{Place}
use Rattle.places.specs.Places.{is_lf, is_lead, goes_on, count_lf, count_chars, since_lf, beyond, capped, line_cap, column_cap, offset_cap, is_single, OneEach}
use Rattle.places.proofs.Advances.{place_same, beyond_line, beyond_offset, lf_yes, lf_no, since_some, since_none, beyond_column_some, beyond_column_none}

-- one more, if the byte is counted
counted : (b : Bool) (n : ℕ) → elim b [ true ↦ suc n | false ↦ n ] ≡ cond b (1 + n) n
counted true n = omega arith
counted false n = refl

-- one more, if it is not passed over
kept : (b : Bool) (n : ℕ) → elim b [ true ↦ n | false ↦ suc n ] ≡ cond (not b) (1 + n) n
kept true n = refl
kept false n = omega arith

-- the LFs
pub lf_count : (xs : List ℕ) → count_lf xs ≡ count_by is_lf xs
unfolding count_lf
lf_count = is_count_by count_lf is_lf refl (λ x xs. counted (is_lf x) (count_lf xs))

-- the characters
pub lead_count : (xs : List ℕ) → count_chars xs ≡ count_by is_lead xs
unfolding count_chars
lead_count = is_count_by count_chars is_lead refl (λ x xs. kept (goes_on x) (count_chars xs))

-- the mask of a comparison of bytes in which the splat stands first
pub bitmask_splat_left : (t : ℕ → ℕ → Bool) (xs : List ℕ) (n y : ℕ) → length xs ≡ n → n ≤ 64
    → mask_l (map (top 7) (zip2 (λ a b. cond (t a b) 255 0) (replicate n y) xs)) % 2 ^ 64 ≡ mask_l (map (λ x. t y x) xs)
bitmask_splat_left t xs n y e le =
    ap (λ ms. mask_l ms % 2 ^ 64) (tops_compared w8 t (replicate n y) xs ∙ zip2_splat_left t y n xs e) ∙ mask_l-mod (map (λ x. t y x) xs) 64 (omega (arith, length-map xs (λ x. t y x)))

-- a byte begins a character that is below 80 hex, or not below C0
lead_parts : (x : ℕ) → cond (is_lead x) 1 0 ≡ cond (nat_lt x 128) 1 0 + cond (nat_le 192 x) 1 0
lead_parts x = grind (arith, nat_tests)

pub leads_by_parts : (xs : List ℕ) → count_by (λ x. nat_lt x 128) xs + count_by (λ x. nat_le 192 x) xs ≡ count_by is_lead xs
leads_by_parts [] = refl
leads_by_parts (x ∷ xs) = omega (
  arith,
  sum_by-cons (λ y. cond (nat_lt y 128) 1 0) x xs,
  sum_by-cons (λ y. cond (nat_le 192 y) 1 0) x xs,
  sum_by-cons (λ y. cond (is_lead y) 1 0) x xs,
  lead_parts x,
  leads_by_parts xs,
)

-- the chunk at i
pub chunk_is : (k i : ℕ) (xs : List ℕ) → i < k → get_or (first_chunks 32 k xs) i [] ≡ take 32 (drop (i * 32) xs)
chunk_is zero i xs h = absurd (omega arith)
chunk_is (suc k) zero xs h = refl
chunk_is (suc k) (suc i) xs h =
    let z : 32 + i * 32 ≡ suc i * 32 = omega arith in
    chunk_is k i (drop 32 xs) (omega arith) ∙ ap (take 32) (drop-drop (i * 32) 32 xs) ∙ ap (λ n. take 32 (drop n xs)) z

-- one chunk more
pub count_more : (p : ℕ → Bool) (k i : ℕ) (xs : List ℕ) → i < k
    → count_by p (take ((i + 1) * 32) xs) ≡ count_by p (take (i * 32) xs) + count_by p (get_or (first_chunks 32 k xs) i [])
count_more p k i xs h =
    let z : (i + 1) * 32 ≡ i * 32 + 32 = omega arith in
    ap (λ n. count_by p (take n xs)) z
    ∙ ap (count_by p) (take-add (i * 32) 32 xs)
    ∙ sum_by-append (λ y. cond (p y) 1 0) (take (i * 32) xs) (take 32 (drop (i * 32) xs))
    ∙ ap (λ c. count_by p (take (i * 32) xs) + count_by p c) (sym (chunk_is k i xs h))

-- bytes of which none is LF
pub none_count : (xs : List ℕ) → ((k : ℕ) → k < length xs → is_lf (slice_index xs k) ≡ true → ⊥) → count_lf xs ≡ 0
none_count [] h = lf_count []
none_count (x ∷ xs) h = ⊎_elim
    (λ e. absurd (h 0 (omega arith) e))
    (λ e. lf_no x xs e ∙ none_count xs (λ k l. h (suc k) (omega arith)))
    (cases_Bool (is_lf x))

-- a byte that is LF is counted
some_count : (xs : List ℕ) (i : ℕ) → i < length xs → is_lf (slice_index xs i) ≡ true → 0 < count_lf xs
some_count [] i l e = absurd (omega arith)
some_count (x ∷ xs) zero l e = omega (arith, lf_yes x xs e)
some_count (x ∷ xs) (suc i) l e = ⊎_elim
    (λ f. omega (arith, lf_yes x xs f))
    (λ f. omega (arith, lf_no x xs f, some_count xs i (omega arith) e))
    (cases_Bool (is_lf x))

-- behind the last LF
pub since_last : (xs : List ℕ) (i : ℕ) → i < length xs → is_lf (slice_index xs i) ≡ true → ((k : ℕ) → i < k → k < length xs → is_lf (slice_index xs k) ≡ true → ⊥) → since_lf xs ≡ drop (i + 1) xs
since_last [] i l e h = absurd (omega arith)
since_last (x ∷ xs) zero l e h =
    since_some x xs (some_count (x ∷ xs) 0 l e) ∙ since_none xs (none_count xs (λ k m. h (suc k) (omega arith) (omega arith)))
since_last (x ∷ xs) (suc i) l e h =
    let z : suc (i + 1) ≡ suc i + 1 = omega arith in
    since_some x xs (some_count (x ∷ xs) (suc i) l e) ∙ since_last xs i (omega arith) e (λ k m n. h (suc k) (omega arith) (omega arith)) ∙ ap (λ n. drop n (x ∷ xs)) z

-- the place behind bytes, by what is counted of them
pub beyond_counted : (xs : List ℕ) (p : Place) (c : ℕ) → (count_lf xs ≡ 0 → c ≡ p.column) → (0 < count_lf xs → c ≡ 0)
    → (beyond xs p).column ≡ c + count_chars (since_lf xs)
beyond_counted xs p c a b = ⊎_elim
    (λ h. beyond_column_some xs p h ∙ omega (arith, b h))
    (λ h. let z : count_lf xs ≡ 0 = omega arith in beyond_column_none xs p z ∙ omega (arith, a z, ap count_chars (since_none xs z)))
    (cases_lt 0 (count_lf xs))

-- the byte is one
abbrev pub Single : ℕ → Type 0
Single x = is_single x ≡ true

no_lf_of : (x : ℕ) → Single x → is_lf x ≡ false
no_lf_of x e = grind (arith, nat_tests)

lead_of : (x : ℕ) → Single x → goes_on x ≡ false
lead_of x e = grind (arith, nat_tests)

single_each : (xs : List ℕ) → ((k : ℕ) → k < length xs → Single (slice_index xs k)) → OneEach xs
unfolding count_lf count_chars
single_each [] h = (refl, refl)
single_each (x ∷ xs) h =
    let s = h 0 (omega arith) in
    let r = single_each xs (λ k l. h (suc k) (omega arith)) in
    (lf_no x xs (no_lf_of x s) ∙ r.0, count_lead x xs (lead_of x s) ∙ ap suc r.1)

-- bytes that are all such
pub ones_each : (xs : List ℕ) (r : Bool) → MatchBool r (AllWithin Single xs 0 (length xs)) ((k : ℕ) × (k < length xs) × HoldsAt (λ x. Single x → ⊥) xs k) → r ≡ true → OneEach xs
ones_each xs true a e = single_each xs (λ k l. a k 0 (omega arith) l)
ones_each xs false a e = absurd (false≢true e)

-- the place behind them
pub along_is : (xs : List ℕ) (p q : Place) → OneEach xs → q.line ≡ min p.line line_cap → q.column ≡ min (p.column + length xs) column_cap
    → q.offset ≡ min (p.offset + length xs) offset_cap → q ≡ capped (beyond xs p)
along_is xs p q o a b c = place_same q (capped (beyond xs p))
    (omega (arith, a, beyond_line xs p, o.0))
    (omega (arith, b, beyond_column_none xs p o.0, o.1))
    (omega (arith, c, beyond_offset xs p))
