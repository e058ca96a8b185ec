-- What is left without a final byte.
use Rattle.std.proofs.Common.{◌≡◌, ℕ, suc, ◌+◌, ◌-◌, ◌<◌, ◌≤◌, Bool, true, false, eqb, List, [], ◌∷◌, ◌++◌, length, get_or, take, sym, refl, ap, ◌∙◌, subst, inl, inr, ⊎_elim, arith, eq-eqb, ne_eqb, eqb-true}
use borrow.Author.Tests.{eqb-false}
use Rattle.std.proofs.lemmas.List.{take_all, take_more, length-take, take-take}
use Rattle.std.proofs.lemmas.Bool.{cases_Bool}
use Rattle.rules.specs.Config.{Config}
use Rattle.rules.specs.Reading.{chop, left_len}
use Rattle.reader.specs.Opens.{Without, Leaves}

pub chop_last : (b : ℕ) (xs : List ℕ) → 0 < length xs → get_or xs (length xs - 1) 0 ≡ b → take (length xs - 1) xs ≡ chop b xs
unfolding chop
chop_last b [] h e = absurd (omega arith)
chop_last b (x ∷ []) h e = sym (ap (λ t. elim t as (λ _. List ℕ) [ true ↦ [] | false ↦ x ∷ [] ]) (eq-eqb x b e))
chop_last b (x ∷ (y ∷ ys)) h e =
    let n : length (x ∷ (y ∷ ys)) - 1 ≡ suc (length (y ∷ ys) - 1) = omega arith in
    ap (λ k. take k (x ∷ (y ∷ ys))) n ∙ ap (λ l. x ∷ l) (chop_last b (y ∷ ys) (omega arith) (sym (ap (λ k. get_or (x ∷ (y ∷ ys)) k 0) n) ∙ e))

pub chop_not : (b : ℕ) (xs : List ℕ) → (0 < length xs → get_or xs (length xs - 1) 0 ≡ b → ⊥) → chop b xs ≡ xs
unfolding chop
chop_not b [] h = refl
chop_not b (x ∷ []) h = ap (λ t. elim t as (λ _. List ℕ) [ true ↦ [] | false ↦ x ∷ [] ]) (ne_eqb x b (h (omega arith)))
chop_not b (x ∷ (y ∷ ys)) h =
    let n : length (x ∷ (y ∷ ys)) - 1 ≡ suc (length (y ∷ ys) - 1) = omega arith in
    ap (λ l. x ∷ l) (chop_not b (y ∷ ys) (λ p e. h (omega arith) (ap (λ k. get_or (x ∷ (y ∷ ys)) k 0) n ∙ e)))

pub took_length : (xs ys : List ℕ) (r : ℕ) → r ≤ length xs → take r xs ≡ ys → r ≡ length ys
took_length xs ys r h e = let l = length-take r xs in let m = ap length e in omega arith

pub chop_none : (b : ℕ) (xs : List ℕ) → length xs ≡ 0 → [] ≡ chop b xs
unfolding chop
chop_none b [] h = refl
chop_none b (x ∷ xs) h = absurd (omega arith)

-- in words

chop_short : (b : ℕ) (xs : List ℕ) → take (length (chop b xs)) xs ≡ chop b xs
unfolding chop
chop_short b [] = chop_none b [] refl
chop_short b (x ∷ xs) = ⊎_elim
    (λ e.
    let l = chop_last b (x ∷ xs) (omega arith) (eqb-true (get_or (x ∷ xs) (length (x ∷ xs) - 1) 0) b e) in
    let n = took_length (x ∷ xs) (chop b (x ∷ xs)) (length (x ∷ xs) - 1) (omega arith) l in
    ap (λ k. take k (x ∷ xs)) (sym n) ∙ l)
    (λ e.
    let l = chop_not b (x ∷ xs) (λ p. eqb-false (get_or (x ∷ xs) (length (x ∷ xs) - 1) 0) b e) in
    ap (λ ys. take (length ys) (x ∷ xs)) l ∙ take_all (length (x ∷ xs)) (x ∷ xs) (omega arith) ∙ sym l)
    (cases_Bool (eqb (get_or (x ∷ xs) (length (x ∷ xs) - 1) 0) b))

chop_without : (b : ℕ) (xs : List ℕ) → Without b xs (chop b xs)
chop_without b [] = inr (sym (chop_none b [] refl), λ h. omega (arith, h.0))
chop_without b (x ∷ xs) = ⊎_elim
    (λ e.
    let q = eqb-true (get_or (x ∷ xs) (length (x ∷ xs) - 1) 0) b e in
    let l = chop_last b (x ∷ xs) (omega arith) q in
    let n : length (x ∷ xs) - 1 + 1 ≡ length (x ∷ xs) = omega arith in
    inl (sym (take_all (length (x ∷ xs) - 1 + 1) (x ∷ xs) (omega arith)) ∙ take_more (x ∷ xs) (length (x ∷ xs) - 1) 0 (omega arith) ∙ ap (λ k. take (length (x ∷ xs) - 1) (x ∷ xs) ++ k ∷ []) q ∙ ap (λ ys. ys ++ b ∷ []) l))
    (λ e.
    let u = eqb-false (get_or (x ∷ xs) (length (x ∷ xs) - 1) 0) b e in
    inr (chop_not b (x ∷ xs) (λ p. u), λ h. u h.1))
    (cases_Bool (eqb (get_or (x ∷ xs) (length (x ∷ xs) - 1) 0) b))

-- what is left of a template after the cut
left_by : (k : Bool) (t : List ℕ) → Leaves k t (take (elim k [ true ↦ length t | false ↦ length (chop 13 (chop 10 t)) ]) t)
left_by true t = take_all (length t) t (omega arith)
left_by false t =
    let n = chop_short 10 t in
    let m = chop_short 13 (chop 10 t) in
    let a : take (length (chop 13 (chop 10 t))) t ≡ chop 13 (chop 10 t) = two t (chop 10 t) (chop 13 (chop 10 t)) n m in
    (chop 10 t, chop_without 10 t, subst (λ u. Without 13 (chop 10 t) u) (sym a) (chop_without 13 (chop 10 t)))
  where
    two : (t u v : List ℕ) → take (length u) t ≡ u → take (length v) u ≡ v → take (length v) t ≡ v
    two t u v p q =
        let l = length-take (length v) u in
        let m = ap length q in
        sym (take-take (length v) (length u) t (omega arith)) ∙ ap (take (length v)) p ∙ q

pub left_words : (s : Config) (t : List ℕ) (n : ℕ) → n ≡ left_len s t → Leaves s.keep_trailing t (take n t)
left_words s t n e = subst (λ k. Leaves s.keep_trailing t (take k t)) (sym e) (left_by s.keep_trailing t)
