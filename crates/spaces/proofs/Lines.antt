-- The laws of blanks and of the ends of lines.
use Rattle.std.proofs.Common.{◌≡◌, ℕ, zero, suc, ◌<◌, true, false, ◌⊎◌, List, [], ◌∷◌, length, get_or, Option, MatchOption, unwrap_or, sym, refl, ap, ◌∙◌, subst, inl, inr, ⊎_elim, arith}
use Rattle.std.specs.List.{AllWithin, HoldsAt}
use Rattle.std.proofs.lemmas.Iterator.{index_from_first}
use Rattle.std.proofs.lemmas.Bool.{cases_Bool, cases_eq, eq-eqb, ne_eqb}
use Rattle.spaces.specs.Lines.{is_blank, blank_run, LongestBlank, lf, line_end, LineEnd}

run_yes : (x : ℕ) (xs : List ℕ) → is_blank x ≡ true → blank_run (x ∷ xs) ≡ suc (blank_run xs)
unfolding blank_run
run_yes x xs e = ap (λ b. elim b [ true ↦ suc (blank_run xs) | false ↦ 0 ]) e

run_no : (x : ℕ) (xs : List ℕ) → is_blank x ≡ false → blank_run (x ∷ xs) ≡ 0
unfolding blank_run
run_no x xs e = ap (λ b. elim b [ true ↦ suc (blank_run xs) | false ↦ 0 ]) e

blank_one : (x : ℕ) (xs : List ℕ) (n : ℕ) → is_blank x ≡ true → LongestBlank xs n → LongestBlank (x ∷ xs) (suc n)
blank_one x xs n e l = (omega (arith, l.0), each, (λ h. l.2 (omega arith)))
  where
    each : (k : ℕ) → k < suc n → is_blank (get_or (x ∷ xs) k 0) ≡ true
    each zero h = e
    each (suc k) h = l.1 k (omega arith)

pub blank_longest : (xs : List ℕ) → LongestBlank xs (blank_run xs)
unfolding blank_run
blank_longest [] = (omega arith, (λ k h. absurd (omega arith)), (λ h. absurd (omega arith)))
blank_longest (x ∷ xs) =
    ⊎_elim (λ e. subst (LongestBlank (x ∷ xs)) (sym (run_yes x xs e)) (blank_one x xs (blank_run xs) e (blank_longest xs)))
    (λ e. subst (LongestBlank (x ∷ xs)) (sym (run_no x xs e)) (omega arith, (λ k h. absurd (omega arith)), (λ h. e)))
    (cases_Bool (is_blank x))

-- what `position` finds is the end of the blanks
pub blank_end : (s : List ℕ) (r : Option ℕ) → MatchOption r (AllWithin (λ b. is_blank b ≡ true) s 0 (length s)) (λ i. (i < length s) × HoldsAt (λ b. is_blank b ≡ false) s i × AllWithin (λ b. is_blank b ≡ true) s 0 i) → blank_run s ≡ unwrap_or r (length s)
unfolding blank_run
blank_end s r = index_from_first blank_run (λ b. is_blank b ≡ false) (λ b. is_blank b ≡ true) refl run_no (λ x xs e. let t = run_yes x xs e in omega arith) s r

-- the end of a line, from the first bytes

lf_yes : (x : ℕ) (xs : List ℕ) → x ≡ 10 → lf (x ∷ xs) ≡ 1
lf_yes x xs e = ap (λ b. elim b [ true ↦ 1 | false ↦ 0 ]) (eq-eqb x 10 e)

lf_no : (xs : List ℕ) → (get_or xs 0 0 ≡ 10 → ⊥) → lf xs ≡ 0
lf_no [] h = refl
lf_no (x ∷ xs) h = ap (λ b. elim b [ true ↦ 1 | false ↦ 0 ]) (ne_eqb x 10 h)

cr_yes : (x : ℕ) (xs : List ℕ) → x ≡ 13 → line_end (x ∷ xs) ≡ suc (lf xs)
cr_yes x xs e = ap (λ b. elim b [ true ↦ suc (lf xs) | false ↦ lf (x ∷ xs) ]) (eq-eqb x 13 e)

cr_no : (x : ℕ) (xs : List ℕ) → (x ≡ 13 → ⊥) → line_end (x ∷ xs) ≡ lf (x ∷ xs)
cr_no x xs h = ap (λ b. elim b [ true ↦ suc (lf xs) | false ↦ lf (x ∷ xs) ]) (ne_eqb x 13 h)

lf_told : (xs : List ℕ) → ((lf xs ≡ 1) × (0 < length xs) × (get_or xs 0 0 ≡ 10)) ⊎ ((lf xs ≡ 0) × (get_or xs 0 0 ≡ 10 → ⊥))
lf_told [] = inr (refl, λ t. omega arith)
lf_told (x ∷ xs) = ⊎_elim (λ e. inl (lf_yes x xs e, omega arith, e)) (λ h. inr (lf_no (x ∷ xs) h, h)) (cases_eq x 10)

line_is : (xs : List ℕ) → LineEnd xs (line_end xs)
line_is [] = inr (inr (refl, (λ t. omega arith), (λ t. omega arith)))
line_is (x ∷ xs) =
    ⊎_elim
    (λ e. ⊎_elim (λ f. inl (cr_yes x xs e ∙ ap suc f.0, omega arith, e, f.2)) (λ f. inr (inl (cr_yes x xs e ∙ ap suc f.0, omega arith, inr (e, f.1)))) (lf_told xs))
    (λ h. ⊎_elim (λ f. inr (inl (cr_no x xs h ∙ f.0, omega arith, inl f.2))) (λ f. inr (inr (cr_no x xs h ∙ f.0, h, f.1))) (lf_told (x ∷ xs)))
    (cases_eq x 13)

pub line_told : (xs : List ℕ) (n : ℕ) → n ≡ line_end xs → LineEnd xs n
line_told xs n e = subst (LineEnd xs) (sym e) (line_is xs)
