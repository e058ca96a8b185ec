-- The laws of is_in, first_in and distance_to: each finds the first place.
use Rattle.std.proofs.Common.{◌≡◌, ℕ, zero, suc, ◌+◌, ◌-◌, ◌<◌, ◌≤◌, true, false, eqb, List, [], ◌∷◌, length, get_or, take, drop, Some, None, MatchOption, IfSome, Option, sym, refl, ap, ◌∙◌, subst, ⊎_elim, arith}
use Rattle.std.specs.List.{AllWithin, HoldsAt}
use Rattle.std.proofs.lemmas.List.{drop-drop, get_or-drop, get_or-take, length-drop, length-take}
use Rattle.std.proofs.lemmas.Bool.{eq-eqb, eqb-true, cases_Bool, cases_lt, cases_order, both_ways, false≢true}
use Rattle.std.proofs.lemmas.List.Prefix.{front_reads, at_reads, at_from_reads}
use Rattle.memchr.specs.Find.{IsFirstByte, is_byte, places, first_of, OccursAt, FindsNeedle, TakesFirst}
use Rattle.memchr.proofs.lemmas.ValueLemmas.{IsFirstByte-value}
use Rattle.byte_search.specs.Search.{stands_at, is_in, further, first_in, distance_to, First, Among, Holds, HoldsAny, Stands}
use Rattle.byte_search.proofs.Stands.{stands_append, stands_split, stands_fits}

-- two first places of one property are one
pub first_unique : (P : ℕ → Type 0) (a b : Option ℕ) → First P a → First P b → a ≡ b
first_unique P None None f g = refl
first_unique P None (Some j) f g = absurd (f j g.0)
first_unique P (Some i) None f g = absurd (g i f.0)
first_unique P (Some i) (Some j) f g = ⊎_elim
    (λ e. ap Some e)
    (⊎_elim (λ h. absurd (g.1 i h f.0)) (λ h. absurd (f.1 j h g.0)))
    (cases_order i j)

-- a first place stays one under an equal property
pub first_like : (P Q : ℕ → Type 0) (o : Option ℕ) → ((k : ℕ) → P k → Q k) → ((k : ℕ) → Q k → P k) → First P o → First Q o
first_like P Q None f g p = λ k q. p k (g k q)
first_like P Q (Some i) f g p = (f i p.0, λ k h q. p.1 k h (g k q))

-- one place further, where place 0 has it not
first_further : (P Q : ℕ → Type 0) (o : Option ℕ) → (P 0 → ⊥) → ((k : ℕ) → Q k → P (suc k)) → ((k : ℕ) → P (suc k) → Q k) → First Q o → First P (further o)
first_further P Q None n f g q = λ k. elim k as (λ k. P k → ⊥) [ zero ↦ n | suc k ↦ λ p. q k (g k p) ]
first_further P Q (Some i) n f g q =
    (f i q.0, λ k. elim k as (λ k. k < suc i → P k → ⊥) [ zero ↦ λ h. n | suc k ↦ λ h p. q.1 k (omega arith) (g k p) ])

-- `is_in` in words
pub is_in_among : (ns : List ℕ) (b : ℕ) → is_in ns b ≡ true → Among ns b
unfolding is_in
is_in_among [] b e = absurd (false≢true e)
is_in_among (n ∷ ns) b e = ⊎_elim
    (λ f. (0, omega arith, eqb-true n b f))
    (λ f. let p = is_in_among ns b (sym (ap (λ t. elim t [ true ↦ true | false ↦ is_in ns b ]) f) ∙ e) in (suc p.0, omega (arith, p.1), p.2))
    (cases_Bool (eqb n b))

pub among_is_in : (ns : List ℕ) (b : ℕ) → Among ns b → is_in ns b ≡ true
unfolding is_in
among_is_in [] b (j, h, e) = absurd (omega arith)
among_is_in (n ∷ ns) b (zero, h, e) = rw (eq-eqb n b e, is_in) refl
among_is_in (n ∷ ns) b (suc j, h, e) =
    elim (eqb n b) as (λ t. elim t [ true ↦ true | false ↦ is_in ns b ] ≡ true) [ true ↦ refl | false ↦ among_is_in ns b (j, omega arith, e) ]

pub first_in_here : (ns : List ℕ) (x : ℕ) (xs : List ℕ) → is_in ns x ≡ true → first_in ns (x ∷ xs) ≡ Some 0
unfolding first_in
first_in_here ns x xs e = rw (e, first_in) refl

pub first_in_on : (ns : List ℕ) (x : ℕ) (xs : List ℕ) → is_in ns x ≡ false → first_in ns (x ∷ xs) ≡ further (first_in ns xs)
unfolding first_in
first_in_on ns x xs e = rw (e, first_in) refl

-- `first_in` in words
pub first_in_first : (ns xs : List ℕ) → First (HoldsAny ns xs) (first_in ns xs)
unfolding first_in
first_in_first ns [] = λ k p. omega (arith, p.0)
first_in_first ns (x ∷ xs) = ⊎_elim
    (λ e. subst (λ o. First (HoldsAny ns (x ∷ xs)) o) (sym (first_in_here ns x xs e)) ((omega arith, is_in_among ns x e), λ k h. absurd (omega arith)))
    (λ e. subst (λ o. First (HoldsAny ns (x ∷ xs)) o) (sym (first_in_on ns x xs e))
    (first_further (HoldsAny ns (x ∷ xs)) (HoldsAny ns xs) (first_in ns xs)
    (λ p. both_ways (is_in ns x) e (among_is_in ns x p.1))
    (λ k p. (omega (arith, p.0), p.1)) (λ k p. (omega (arith, p.0), p.1)) (first_in_first ns xs)))
    (cases_Bool (is_in ns x))

-- an answer that is the first place is first_in
pub first_in_by : (ns xs : List ℕ) (r : Option ℕ) → First (HoldsAny ns xs) r → r ≡ first_in ns xs
first_in_by ns xs r f = first_unique (HoldsAny ns xs) r (first_in ns xs) f (first_in_first ns xs)

-- what `position` finds among `ys`
pub first_from : (ns ys : List ℕ) (r : Option ℕ) → MatchOption r (AllWithin (λ b. Among ns b → ⊥) ys 0 (length ys)) (λ i. (i < length ys) × HoldsAt (Among ns) ys i × AllWithin (λ b. Among ns b → ⊥) ys 0 i) → r ≡ first_in ns ys
first_from ns ys None a = first_in_by ns ys None (λ k p. a k 0 (omega arith) p.0 p.1)
first_from ns ys (Some i) f = first_in_by ns ys (Some i) ((f.0, f.1 0), (λ k h p. f.2 k 0 (omega arith) h p.1))

-- the first place of a byte, in the library's words
byte_of_first : (b : ℕ) (xs : List ℕ) (r : Option ℕ) → First (Holds b xs) r → IsFirstByte (is_byte b) xs r
byte_of_first b xs None f = λ k l h p. f k (h, eqb-true _ b p)
byte_of_first b xs (Some i) f =
    (record { low = omega arith; high = f.0.0; before = λ k l h p. f.1 k h (omega (arith, f.0.0), eqb-true _ b p) }, eq-eqb _ b f.0.1)

-- what `next` gives is the first of what was left
taken_first : (s t : List ℕ) (r : Option ℕ) → TakesFirst s r t → r ≡ first_of s
unfolding first_of
taken_first s t None h = ap first_of (sym h.0)
taken_first s t (Some i) h = ap first_of (sym h)

-- one of one byte is that byte
among_one : (b x : ℕ) → Among (b ∷ []) x → x ≡ b
among_one b x (zero, h, e) = sym e
among_one b x (suc j, h, e) = absurd (omega arith)

pub first_of_one : (b : ℕ) (xs : List ℕ) (r : Option ℕ) → First (HoldsAny (b ∷ []) xs) r → First (Holds b xs) r
first_of_one b xs r = first_like (HoldsAny (b ∷ []) xs) (Holds b xs) r
    (λ k p. (p.0, among_one b (get_or xs k 0) p.1))
    (λ k p. (p.0, (0, omega arith, sym p.1)))

-- what the library's `memchr_iter` gives first
pub first_of_places : (b : ℕ) (xs s t : List ℕ) (r : Option ℕ) → s ≡ places (is_byte b) xs → TakesFirst s r t → First (Holds b xs) r
first_of_places b xs s t r e h =
    let o = first_in (b ∷ []) xs in
    let f = first_of_one b xs o (first_in_first (b ∷ []) xs) in
    subst (First (Holds b xs)) (IsFirstByte-value (is_byte b) xs o (byte_of_first b xs o f) ∙ ap first_of (sym e) ∙ sym (taken_first s t r h)) f

-- a place that is found lies in the bytes
pub byte_inside : (b : ℕ) (xs : List ℕ) (r : Option ℕ) → First (Holds b xs) r → IfSome r (λ d. d < length xs)
byte_inside b xs None f = tt
byte_inside b xs (Some i) f = f.0.0

pub byte_by : (b : ℕ) (xs : List ℕ) (r : Option ℕ) → First (Holds b xs) r → r ≡ first_in (b ∷ []) xs
byte_by b xs r f = first_in_by (b ∷ []) xs r
    (first_like (Holds b xs) (HoldsAny (b ∷ []) xs) r (λ k p. (p.0, (0, omega arith, sym p.1))) (λ k p. (p.0, among_one b (get_or xs k 0) p.1)) f)

pub distance_here : (ds xs : List ℕ) → stands_at ds xs ≡ true → distance_to ds xs ≡ Some 0
unfolding distance_to
distance_here ds [] e = rw (e, distance_to) refl
distance_here ds (x ∷ xs) e = rw (e, distance_to) refl

pub distance_on : (ds : List ℕ) (x : ℕ) (xs : List ℕ) → stands_at ds (x ∷ xs) ≡ false → distance_to ds (x ∷ xs) ≡ further (distance_to ds xs)
unfolding distance_to
distance_on ds x xs e = rw (e, distance_to) refl

pub distance_none : (ds : List ℕ) → stands_at ds [] ≡ false → distance_to ds [] ≡ None
unfolding distance_to
distance_none ds e = rw (e, distance_to) refl

first_here : (ds xs : List ℕ) → stands_at ds xs ≡ true → First (Stands ds xs) (distance_to ds xs)
first_here ds xs e = subst (λ o. First (Stands ds xs) o) (sym (distance_here ds xs e)) ((omega arith, e), λ k h. absurd (omega arith))

-- only place 0 is a place of no bytes
stands_nil : (ds : List ℕ) (k : ℕ) → stands_at ds [] ≡ false → Stands ds [] k → ⊥
stands_nil ds zero e p = both_ways (stands_at ds []) e p.1
stands_nil ds (suc k) e p = omega (arith, p.0)

-- `distance_to` in words
pub distance_first : (ds xs : List ℕ) → First (Stands ds xs) (distance_to ds xs)
distance_first ds [] = ⊎_elim
    (first_here ds [])
    (λ e. subst (λ o. First (Stands ds []) o) (sym (distance_none ds e)) (λ k p. stands_nil ds k e p))
    (cases_Bool (stands_at ds []))
distance_first ds (x ∷ xs) = ⊎_elim
    (first_here ds (x ∷ xs))
    (λ e. subst (λ o. First (Stands ds (x ∷ xs)) o) (sym (distance_on ds x xs e))
    (first_further (Stands ds (x ∷ xs)) (Stands ds xs) (distance_to ds xs)
    (λ p. both_ways (stands_at ds (x ∷ xs)) e p.1)
    (λ k p. (omega (arith, p.0), p.1)) (λ k p. (omega (arith, p.0), p.1)) (distance_first ds xs)))
    (cases_Bool (stands_at ds (x ∷ xs)))

-- an answer that is the first place is distance_to
pub distance_by : (ds xs : List ℕ) (r : Option ℕ) → First (Stands ds xs) r → r ≡ distance_to ds xs
distance_by ds xs r f = first_unique (Stands ds xs) r (distance_to ds xs) f (distance_first ds xs)

-- what stands at a place fits there
pub stands_room : (ds xs : List ℕ) (k : ℕ) → Stands ds xs k → k + length ds ≤ length xs
stands_room ds xs k (h, e) = omega (arith, stands_fits ds (drop k xs) e, length-drop k xs)

-- where a needle stands, its first byte is
pub stands_lead : (ds xs : List ℕ) (k : ℕ) → 0 < length ds → Stands ds xs k → Holds (get_or ds 0 0) xs k
stands_lead ds xs k h (p, e) =
    let r = stands_room ds xs k (p, e) in
    let z : k + 0 ≡ k = omega arith in
    (omega arith, ap (λ j. get_or xs j 0) (sym z) ∙ sym (get_or-drop k xs 0 0) ∙ front_reads 0 (drop k xs) ds (drop (length ds) (drop k xs)) (stands_split ds (drop k xs) e) 0 h)

-- no bytes stand at once
pub stands_empty : (ds xs : List ℕ) → length ds < 1 → First (Stands ds xs) (Some 0)
unfolding stands_at
stands_empty [] xs h = ((omega arith, refl), λ k l. absurd (omega arith))
stands_empty (d ∷ ds) xs h = absurd (omega arith)

-- one step of a search for `ds` by its first byte: nothing stands before `i`, and `ys` are the bytes from `i` on
module _ (ds xs ys : List ℕ) (i : ℕ) (h : 0 < length ds) (e : ys ≡ drop i xs) (clear : (k : ℕ) → k < i → Stands ds xs k → ⊥) where
  lead_behind : (k : ℕ) → i ≤ k → Stands ds xs k → Holds (get_or ds 0 0) ys (k - i)
  lead_behind k l p =
      let q = stands_lead ds xs k h p in
      let z : i + (k - i) ≡ k = omega arith in
      (omega (arith, q.0, length-drop i xs, ap length e), ap (λ t. get_or t (k - i) 0) e ∙ get_or-drop i xs (k - i) 0 ∙ ap (λ j. get_or xs j 0) z ∙ q.1)

  -- a needle does not stand before its first byte does
  pub lead_skip : (d : ℕ) → First (Holds (get_or ds 0 0) ys) (Some d) → (k : ℕ) → k < i + d → Stands ds xs k → ⊥
  lead_skip d f k l p = ⊎_elim (λ b. clear k b p) (λ b. f.1 (k - i) (omega arith) (lead_behind k b p)) (cases_lt k i)

  pub lead_none : First (Holds (get_or ds 0 0) ys) None → (k : ℕ) → Stands ds xs k → ⊥
  lead_none f k p = ⊎_elim (λ b. clear k b p) (λ b. f (k - i) (lead_behind k b p)) (cases_lt k i)

-- the needle occurs, as the library says it, where it stands
stands_occurs : (ds xs : List ℕ) (k : ℕ) → Stands ds xs k → OccursAt xs ds k
stands_occurs ds xs k p = record { fits = stands_room ds xs k p; reads = at_reads 0 xs ds k _ (stands_split ds (drop k xs) p.1) }

occurs_stands : (ds xs : List ℕ) (k : ℕ) → OccursAt xs ds k → Stands ds xs k
occurs_stands ds xs k o = (omega (arith, o.fits), ap (stands_at ds) (at_from_reads 0 xs ds k o.fits o.reads) ∙ stands_append ds (drop (k + length ds) xs))

-- what `memmem::find` of the library finds
pub first_of_needle : (ds xs : List ℕ) (r : Option ℕ) → FindsNeedle xs ds 0 r → First (Stands ds xs) r
first_of_needle ds xs None f = λ k p. f k (omega arith) (omega (arith, p.0)) (stands_occurs ds xs k p)
first_of_needle ds xs (Some i) f = (occurs_stands ds xs i f.1, λ k h p. f.0.before k (omega arith) h (stands_occurs ds xs k p))

-- `n` places further
abbrev pub shift : ℕ → Option ℕ → Option ℕ
shift n None = None
shift n (Some k) = Some (n + k)

-- a first place behind `i`, where no place before `i` has it
pub first_shift : (P Q : ℕ → Type 0) (i : ℕ) (o : Option ℕ) → ((k : ℕ) → k < i → P k → ⊥) → ((k : ℕ) → Q k → P (i + k)) → ((k : ℕ) → i ≤ k → P k → Q (k - i)) → First Q o → First P (shift i o)
first_shift P Q i None n f g q = λ k p. ⊎_elim (λ h. n k h p) (λ h. q (k - i) (g k h p)) (cases_lt k i)
first_shift P Q i (Some j) n f g q = (f j q.0, λ k l p. ⊎_elim (λ h. n k h p) (λ h. q.1 (k - i) (omega arith) (g k h p)) (cases_lt k i))

-- a search goes on behind what it has passed
pub first_in_shift : (ns xs : List ℕ) (i : ℕ) → ((k : ℕ) → k < i → HoldsAny ns xs k → ⊥) → first_in ns xs ≡ shift i (first_in ns (drop i xs))
first_in_shift ns xs i n = sym (first_in_by ns xs (shift i (first_in ns (drop i xs)))
    (first_shift (HoldsAny ns xs) (HoldsAny ns (drop i xs)) i (first_in ns (drop i xs)) n
    (λ k p. (omega (arith, p.0, length-drop i xs), subst (λ b. Among ns b) (get_or-drop i xs k 0) p.1))
    (λ k h p. let z : i + (k - i) ≡ k = omega arith in
    (omega (arith, p.0, length-drop i xs), subst (λ b. Among ns b) (sym (get_or-drop i xs (k - i) 0 ∙ ap (λ j. get_or xs j 0) z)) p.1))
    (first_in_first ns (drop i xs))))

-- what `position` finds among `ys`, asked for one byte
pub byte_from : (b : ℕ) (ys : List ℕ) (r : Option ℕ) → MatchOption r (AllWithin (λ x. x ≡ b → ⊥) ys 0 (length ys)) (λ i. (i < length ys) × HoldsAt (λ x. x ≡ b) ys i × AllWithin (λ x. x ≡ b → ⊥) ys 0 i) → First (Holds b ys) r
byte_from b ys None a = λ k p. a k 0 (omega arith) p.0 p.1
byte_from b ys (Some i) f = ((f.0, f.1 0), λ k h p. f.2 k 0 (omega arith) h p.1)

-- the first place of a byte among the next `n` is the first of all
pub first_near : (b : ℕ) (xs ys : List ℕ) (n i : ℕ) → ys ≡ take n xs → First (Holds b ys) (Some i) → First (Holds b xs) (Some i)
first_near b xs ys n i e g =
    let f = subst (λ t. First (Holds b t) (Some i)) e g in
    let l : i < n = omega (arith, f.0.0, length-take n xs) in (
      (omega (arith, f.0.0, length-take n xs), sym (get_or-take n xs i 0 l) ∙ f.0.1),
      λ k h p. f.1 k h (omega (arith, p.0, length-take n xs), get_or-take n xs k 0 (omega arith) ∙ p.1),
    )

pub stands_shift : (ds xs : List ℕ) (i : ℕ) (r : Option ℕ) → i ≤ length xs → ((k : ℕ) → k < i → Stands ds xs k → ⊥) → First (Stands ds (drop i xs)) r → First (Stands ds xs) (shift i r)
stands_shift ds xs i r l n =
    first_shift (Stands ds xs) (Stands ds (drop i xs)) i r n
    (λ k p. (omega (arith, p.0, length-drop i xs), ap (stands_at ds) (sym (drop-drop k i xs)) ∙ p.1))
    (λ k h p. let z : i + (k - i) ≡ k = omega arith in
    (omega (arith, p.0, length-drop i xs), ap (stands_at ds) (drop-drop (k - i) i xs ∙ ap (λ j. drop j xs) z) ∙ p.1))

pub distance_shift : (ds xs : List ℕ) (i : ℕ) → i ≤ length xs → ((k : ℕ) → k < i → Stands ds xs k → ⊥) → distance_to ds xs ≡ shift i (distance_to ds (drop i xs))
distance_shift ds xs i l n = sym (distance_by ds xs (shift i (distance_to ds (drop i xs))) (stands_shift ds xs i (distance_to ds (drop i xs)) l n (distance_first ds (drop i xs))))

-- what the library finds in `ys`, the bytes from `i` on, where nothing stands before `i`
pub needle_behind : (ds xs ys : List ℕ) (i : ℕ) (r : Option ℕ) → ys ≡ drop i xs → i ≤ length xs → ((k : ℕ) → k < i → Stands ds xs k → ⊥) → FindsNeedle ys ds 0 r → First (Stands ds xs) (shift i r)
needle_behind ds xs ys i r e l n f = stands_shift ds xs i r l n (subst (λ t. First (Stands ds t) r) e (first_of_needle ds ys r f))

-- what is found behind `i`, which the search has passed
pub found_behind : (ns xs : List ℕ) (i : ℕ) (r : Option ℕ) → ((k : ℕ) → k < i → HoldsAny ns xs k → ⊥) → r ≡ first_in ns (drop i xs) → shift i r ≡ first_in ns xs
found_behind ns xs i r n e = ap (shift i) e ∙ sym (first_in_shift ns xs i n)

pub found_first : (ns xs : List ℕ) (r : Option ℕ) → r ≡ first_in ns xs → First (HoldsAny ns xs) r
found_first ns xs r e = subst (First (HoldsAny ns xs)) (sym e) (first_in_first ns xs)
