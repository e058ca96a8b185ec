-- The walk to the quote that closes a string.
use Rattle.std.proofs.Common.{◌≡◌, ℕ, suc, ◌+◌, ◌%◌, ◌<◌, ◌≤◌, Bool, true, false, not, eqb, List, length, get_or, drop, Some, None, Option, sym, refl, ap, ◌∙◌, subst, ⊎_elim, add-one, arith, below_more}
use Rattle.std.proofs.lemmas.List.{drop_more, drop_all}
use Rattle.std.proofs.lemmas.Bool.{cases_eq, eq-eqb, ne_eqb, eqb-true, eqb-false, true≢false}
use Rattle.byte_search.specs.Search.{further, First}
use Rattle.rules.specs.Strings.{quote_end}
use Rattle.words.specs.Quotes.{backslashes_before, Closes}

-- so many places further
abbrev pub beyond : ℕ → Option ℕ → Option ℕ
beyond i None = None
beyond i (Some n) = Some (i + n)

beyond_further : (i : ℕ) (o : Option ℕ) → beyond i (further o) ≡ beyond (i + 1) o
beyond_further i None = refl
beyond_further i (Some n) = let e : i + suc n ≡ i + 1 + n = omega arith in ap Some e

beyond_zero : (o : Option ℕ) → o ≡ beyond 0 o
beyond_zero None = refl
beyond_zero (Some n) = let e : n ≡ 0 + n = omega arith in ap Some e

-- whether an odd number of backslashes is so far, as a flag
abbrev pub Parity : Bool → ℕ → Type 0
Parity true n = n % 2 ≡ 1
Parity false n = n % 2 ≡ 0

module _ (q : ℕ) (xs : List ℕ) where
  -- the walk has come to `i` and nothing closes the string before it; `t`: the byte at `i` is escaped
  abbrev pub Open : Bool → ℕ → Type 0
  Open t i = (quote_end q false xs ≡ beyond i (quote_end q t (drop i xs))) × Parity t (backslashes_before xs i) × ((k : ℕ) → k < i → Closes q xs k → ⊥)

  pub open_none : Open false 0
  unfolding backslashes_before
  open_none = (beyond_zero (quote_end q false xs), refl, λ k h c. omega arith)

  before_yes : (i : ℕ) → get_or xs i 0 ≡ 92 → backslashes_before xs (i + 1) ≡ suc (backslashes_before xs i)
  unfolding backslashes_before
  before_yes i e = rw add-one (ap (λ t. elim t [ true ↦ suc (backslashes_before xs i) | false ↦ 0 ]) (eq-eqb (get_or xs i 0) 92 e))

  before_no : (i : ℕ) → (get_or xs i 0 ≡ 92 → ⊥) → backslashes_before xs (i + 1) ≡ 0
  unfolding backslashes_before
  before_no i e = rw add-one (ap (λ t. elim t [ true ↦ suc (backslashes_before xs i) | false ↦ 0 ]) (ne_eqb (get_or xs i 0) 92 e))

  module _ (i : ℕ) (h : i < length xs) where
    -- the byte is escaped: it is passed over
    open_escaped : Open true i → Open false (i + 1)
    unfolding quote_end
    open_escaped (o, p, n) = (
      o ∙ ap (λ l. beyond i (quote_end q true l)) (drop_more xs i 0 h) ∙ beyond_further i (quote_end q false (drop (i + 1) xs)),
      ⊎_elim (λ e. omega (arith, before_yes i e)) (λ e. omega (arith, before_no i e)) (cases_eq (get_or xs i 0) 92),
      below_more (λ k. Closes q xs k → ⊥) i n (λ c. c.1 p),
    )

    parity_by : (t : Bool) → t ≡ eqb (get_or xs i 0) 92 → Parity false (backslashes_before xs i) → Parity t (backslashes_before xs (i + 1))
    parity_by true e p = omega (arith, before_yes i (eqb-true (get_or xs i 0) 92 (sym e)))
    parity_by false e p = omega (arith, before_no i (eqb-false (get_or xs i 0) 92 (sym e)))

    -- the byte is not the quote, and may be a backslash
    open_more : (get_or xs i 0 ≡ q → ⊥) → Open false i → Open (eqb (get_or xs i 0) 92) (i + 1)
    unfolding quote_end
    open_more d (o, p, n) =
        let x : ℕ = get_or xs i 0 in
        let ys : List ℕ = drop (i + 1) xs in (
          o ∙ ap (λ l. beyond i (quote_end q false l)) (drop_more xs i 0 h)
              ∙ ap (λ t. beyond i (elim t [ true ↦ Some 0 | false ↦ further (quote_end q (eqb x 92) ys) ])) (ne_eqb x q d)
              ∙ beyond_further i (quote_end q (eqb x 92) ys),
          parity_by (eqb x 92) refl p,
          below_more (λ k. Closes q xs k → ⊥) i n (λ c. d c.0.1),
        )

    -- the byte is the quote, and no backslash escapes it
    pub open_here : get_or xs i 0 ≡ q → Open false i → Some i ≡ quote_end q false xs
    unfolding quote_end
    open_here e (o, p, n) =
        let x : ℕ = get_or xs i 0 in
        let ys : List ℕ = drop (i + 1) xs in
        let z : i + 0 ≡ i = omega arith in
        sym (o ∙ ap (λ l. beyond i (quote_end q false l)) (drop_more xs i 0 h)
        ∙ ap (λ t. beyond i (elim t [ true ↦ Some 0 | false ↦ further (quote_end q (eqb x 92) ys) ])) (eq-eqb x q e)
        ∙ ap Some z)

    pub first_here : get_or xs i 0 ≡ q → Open false i → First (Closes q xs) (Some i)
    first_here e (o, p, n) = (((h, e), λ f. omega arith), n)

    -- the byte closes nothing, and the next is escaped where it is a backslash that is not
    pub open_by : (t u : Bool) → (get_or xs i 0 ≡ q → t ≡ true) → (t ≡ false → u ≡ eqb (get_or xs i 0) 92) → (t ≡ true → u ≡ not t) → Open t i → Open u (i + 1)
    open_by true u d a b o = subst (λ v. Open v (i + 1)) (sym (b refl)) (open_escaped o)
    open_by false u d a b o = subst (λ v. Open v (i + 1)) (sym (a refl)) (open_more (λ h. true≢false (sym (d h))) o)

  -- every byte was passed
  pub open_all : (t : Bool) (i : ℕ) → length xs ≤ i → Open t i → None ≡ quote_end q false xs
  unfolding quote_end
  open_all true i h o = sym (o.0 ∙ ap (λ l. beyond i (quote_end q true l)) (drop_all i xs h))
  open_all false i h o = sym (o.0 ∙ ap (λ l. beyond i (quote_end q false l)) (drop_all i xs h))

  pub first_none : (t : Bool) (i : ℕ) → length xs ≤ i → Open t i → First (Closes q xs) None
  first_none t i h o = λ k c. o.2 k (omega (arith, c.0.0)) c
