-- A place at the front of its line.
use Rattle.std.proofs.Common.{◌≡◌, ℕ, zero, suc, ◌-◌, ◌<◌, ◌≤◌, true, false, List, [], ◌∷◌, reverse, length, get_or, take, sym, refl, ap, ◌∙◌, subst, inl, inr, ⊎_elim, add-one, arith}
use Rattle.std.proofs.lemmas.List.{take_more, reverse-append}
use Rattle.std.proofs.lemmas.Bool.{cases_Bool, cases_lt, both_ways}
use Rattle.finder.specs.Finding.{is_line_end, is_space_or_tab, blank_line, AtLineStart}

-- the bytes before a place, the newest first, and one more
pub before_more : (xs : List ℕ) (k : ℕ) → k < length xs → reverse (take (suc k) xs) ≡ get_or xs k 0 ∷ reverse (take k xs)
before_more xs k h = ap (λ n. reverse (take n xs)) (sym (add-one k)) ∙ ap reverse (take_more xs k 0 h) ∙ reverse-append (take k xs) (get_or xs k 0 ∷ [])

-- the newest byte decides
pub blank_end : (b : ℕ) (bs : List ℕ) → is_line_end b ≡ true → blank_line (b ∷ bs) ≡ true
unfolding blank_line
blank_end b bs e = ap (λ t. elim t [ true ↦ true | false ↦ elim (is_space_or_tab b) [ true ↦ blank_line bs | false ↦ false ] ]) e

pub blank_on : (b : ℕ) (bs : List ℕ) → is_line_end b ≡ false → is_space_or_tab b ≡ true → blank_line (b ∷ bs) ≡ blank_line bs
unfolding blank_line
blank_on b bs e s =
    ap (λ t. elim t [ true ↦ true | false ↦ elim (is_space_or_tab b) [ true ↦ blank_line bs | false ↦ false ] ]) e
    ∙ ap (λ t. elim t [ true ↦ blank_line bs | false ↦ false ]) s

pub blank_not : (b : ℕ) (bs : List ℕ) → is_line_end b ≡ false → is_space_or_tab b ≡ false → blank_line (b ∷ bs) ≡ false
unfolding blank_line
blank_not b bs e s =
    ap (λ t. elim t [ true ↦ true | false ↦ elim (is_space_or_tab b) [ true ↦ blank_line bs | false ↦ false ] ]) e
    ∙ ap (λ t. elim t [ true ↦ blank_line bs | false ↦ false ]) s

pub blank_none : blank_line [] ≡ true
unfolding blank_line
blank_none = refl

module _ (xs : List ℕ) where
  abbrev pub Blank : ℕ → Type 0
  Blank k = blank_line (reverse (take k xs)) ≡ true

  -- one byte more of the line
  onward : (k : ℕ) → is_space_or_tab (get_or xs k 0) ≡ true → AtLineStart xs k → AtLineStart xs (suc k)
  onward k s a = (a.0, omega (arith, a.1), a.2, λ i l h. ⊎_elim (λ q. a.3 i l q) (λ q. let z : k ≡ i = omega arith in subst (λ n. is_space_or_tab (get_or xs n 0) ≡ true) z s) (cases_lt i k))

  pub blank_words : (k : ℕ) → k ≤ length xs → Blank k → AtLineStart xs k
  blank_words zero h b = (0, omega arith, inl refl, λ i l q. absurd (omega arith))
  blank_words (suc k) h b =
      let m = before_more xs k h in
      ⊎_elim
      (λ e. let z : k ≡ suc k - 1 = omega arith in (suc k, omega arith, inr (subst (λ n. is_line_end (get_or xs n 0) ≡ true) z e), λ i l q. absurd (omega arith)))
      (λ e. ⊎_elim
      (λ s. onward k s (blank_words k (omega arith) (sym (blank_on (get_or xs k 0) (reverse (take k xs)) e s) ∙ ap blank_line (sym m) ∙ b)))
      (λ s. absurd (both_ways (blank_line (reverse (take (suc k) xs))) (ap blank_line m ∙ blank_not (get_or xs k 0) (reverse (take k xs)) e s) b))
      (cases_Bool (is_space_or_tab (get_or xs k 0))))
      (cases_Bool (is_line_end (get_or xs k 0)))

  pub words_blank : (k : ℕ) → k ≤ length xs → AtLineStart xs k → Blank k
  unfolding blank_line
  words_blank zero h a = refl
  words_blank (suc k) h a =
      let m = before_more xs k h in
      ⊎_elim
      (λ e. ap blank_line m ∙ blank_end (get_or xs k 0) (reverse (take k xs)) e)
      (λ e. ⊎_elim
      (λ l.
      let s = a.3 k (omega arith) (omega arith) in
      ap blank_line m ∙ blank_on (get_or xs k 0) (reverse (take k xs)) e s ∙ words_blank k (omega arith) (a.0, omega arith, a.2, λ i p q. a.3 i p (omega arith)))
      (λ l.
      let z : k ≡ a.0 - 1 = omega (arith, a.1) in
      absurd (⊎_elim (λ n. omega (arith, n)) (λ t. both_ways (is_line_end (get_or xs k 0)) e (ap (λ n. is_line_end (get_or xs n 0)) z ∙ t)) a.2))
      (cases_lt a.0 (suc k)))
      (cases_Bool (is_line_end (get_or xs k 0)))
