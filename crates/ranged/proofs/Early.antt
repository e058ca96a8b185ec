-- The laws of first_too_early, and the steps of a loop over the records.
use Rattle.std.proofs.Common.{◌≡◌, ℕ, zero, suc, ◌+◌, ◌-◌, ◌<◌, ◌≤◌, ltb, List, [], ◌∷◌, length, get_or, drop, Some, None, Option, sym, refl, ap, ◌∙◌, subst, ⊎_elim, arith}
use Rattle.std.proofs.lemmas.List.{drop_more, drop_all}
use Rattle.std.proofs.lemmas.Bool.{lt-ltb, le-ltb, ltb-true, ltb-false, cases_Bool}
use Rattle.ranged.specs.Ranges.{further, too_early_from, first_too_early, RisingTo, Rising, TooEarly, Told}

-- `n` places further
abbrev pub shift : ℕ → Option ℕ → Option ℕ
shift n None = None
shift n (Some k) = Some (n + k)

shift_further : (n : ℕ) (o : Option ℕ) → shift n (further o) ≡ shift (n + 1) o
shift_further n None = refl
shift_further n (Some k) = ap Some (omega arith)

shift_zero : (o : Option ℕ) → o ≡ shift 0 o
shift_zero None = refl
shift_zero (Some k) = ap Some (omega arith)

module _ {X : Type 0} (begins ends : X → ℕ) where
  pub from_early : (e : ℕ) (x : X) (xs : List X) → begins x < e → too_early_from begins ends e (x ∷ xs) ≡ Some 0
  unfolding too_early_from
  from_early e x xs h = rw (lt-ltb (begins x) e h, too_early_from) refl

  pub from_on : (e : ℕ) (x : X) (xs : List X) → e ≤ begins x → too_early_from begins ends e (x ∷ xs) ≡ further (too_early_from begins ends (ends x) xs)
  unfolding too_early_from
  from_on e x xs h = rw (le-ltb (begins x) e h, too_early_from) refl

  -- nothing begins before 0
  pub first_from_zero : (xs : List X) → first_too_early begins ends xs ≡ too_early_from begins ends 0 xs
  unfolding first_too_early too_early_from
  first_from_zero [] = refl
  first_from_zero (x ∷ xs) = sym (from_on 0 x xs (omega arith))

  -- the loop: what is left decides
  abbrev pub Left : List X → ℕ → ℕ → Type 0
  Left xs i e = first_too_early begins ends xs ≡ shift i (too_early_from begins ends e (drop i xs))

  pub left_none : (xs : List X) → Left xs 0 0
  left_none xs = first_from_zero xs ∙ shift_zero (too_early_from begins ends 0 xs)

  cut : (xs : List X) (i : ℕ) (x : X) → i < length xs → x ≡ get_or xs i x → drop i xs ≡ x ∷ drop (i + 1) xs
  cut xs i x h e = drop_more xs i x h ∙ ap (λ y. y ∷ drop (i + 1) xs) (sym e)

  pub left_more : (xs : List X) (i : ℕ) (x : X) (e n : ℕ) → i < length xs → x ≡ get_or xs i x → e ≤ begins x → n ≡ ends x → Left xs i e → Left xs (i + 1) n
  left_more xs i x e n h r l q p = subst (λ m. Left xs (i + 1) m) (sym q)
      (p ∙ ap (λ ys. shift i (too_early_from begins ends e ys)) (cut xs i x h r) ∙ ap (shift i) (from_on e x (drop (i + 1) xs) l) ∙ shift_further i (too_early_from begins ends (ends x) (drop (i + 1) xs)))

  pub left_here : (xs : List X) (i : ℕ) (x : X) (e : ℕ) → i < length xs → x ≡ get_or xs i x → begins x < e → Left xs i e → Some i ≡ first_too_early begins ends xs
  left_here xs i x e h r l p =
      let z : i + 0 ≡ i = omega arith in
      sym (p ∙ ap (λ ys. shift i (too_early_from begins ends e ys)) (cut xs i x h r) ∙ ap (shift i) (from_early e x (drop (i + 1) xs) l) ∙ ap Some z)

  pub left_all : (xs : List X) (i e : ℕ) → length xs ≤ i → Left xs i e → None ≡ first_too_early begins ends xs
  unfolding too_early_from
  left_all xs i e h p = sym (p ∙ ap (λ ys. shift i (too_early_from begins ends e ys)) (drop_all i xs h))

  -- one record more in front
  rising_on : (x y : X) (ys : List X) (n : ℕ) → ends x ≤ begins y → RisingTo begins ends n (y ∷ ys) → RisingTo begins ends (suc n) (x ∷ y ∷ ys)
  rising_on x y ys n h f zero l d = h
  rising_on x y ys n h f (suc k) l d =
      let z : suc k + 1 ≡ suc (k + 1) = omega arith in
      subst (λ j. ends (get_or (y ∷ ys) k d) ≤ begins (get_or (x ∷ y ∷ ys) j d)) (sym z) (f k (omega arith) d)

  told_on : (x y : X) (ys : List X) (o : Option ℕ) → ends x ≤ begins y → Told begins ends (y ∷ ys) o → Told begins ends (x ∷ y ∷ ys) (further o)
  told_on x y ys None h f = rising_on x y ys (length (y ∷ ys)) h f
  told_on x y ys (Some i) h (t, f) =
      let z : suc (i - 1) ≡ suc i - 1 = omega (arith, t.0) in
      ((omega arith, omega (arith, t.1), λ d. subst (λ j. begins (get_or (y ∷ ys) i d) < ends (get_or (x ∷ y ∷ ys) j d)) z (t.2 d)), rising_on x y ys i h f)

  told_from : (x : X) (xs : List X) → Told begins ends (x ∷ xs) (further (too_early_from begins ends (ends x) xs))
  unfolding too_early_from
  told_from x [] = λ k l. absurd (omega arith)
  told_from x (y ∷ ys) = ⊎_elim
      (λ e. subst (λ o. Told begins ends (x ∷ y ∷ ys) (further o)) (sym (from_early (ends x) y ys (ltb-true (begins y) (ends x) e)))
      ((omega arith, omega arith, λ d. ltb-true (begins y) (ends x) e), λ k l. absurd (omega arith)))
      (λ e. let h = ltb-false (begins y) (ends x) e in
      subst (λ o. Told begins ends (x ∷ y ∷ ys) (further o)) (sym (from_on (ends x) y ys h)) (told_on x y ys (further (too_early_from begins ends (ends y) ys)) h (told_from y ys)))
      (cases_Bool (ltb (begins y) (ends x)))

  -- `first_too_early` in words
  pub first_told : (xs : List X) → Told begins ends xs (first_too_early begins ends xs)
  unfolding first_too_early
  first_told [] = λ k l. absurd (omega arith)
  first_told (x ∷ xs) = told_from x xs

  -- an answer that is first_too_early tells what it tells
  pub told_by : (xs : List X) (r : Option ℕ) → r ≡ first_too_early begins ends xs → Told begins ends xs r
  told_by xs r e = subst (λ o. Told begins ends xs o) (sym e) (first_told xs)

  -- rising records have no place that is too early
  pub rising_not_early : (xs : List X) (i : ℕ) → Rising begins ends xs → TooEarly begins ends i xs → ⊥
  rising_not_early [] i f t = omega (arith, t.1)
  rising_not_early (x ∷ xs) i f t =
      let z : i - 1 + 1 ≡ i = omega (arith, t.0) in
      omega (arith, t.2 x, ap (λ j. begins (get_or (x ∷ xs) j x)) z, f (i - 1) (omega (arith, t.0, t.1)) x)

  told_none : (xs : List X) (o : Option ℕ) → Rising begins ends xs → Told begins ends xs o → o ≡ None
  told_none xs None f t = refl
  told_none xs (Some i) f t = absurd (rising_not_early xs i f t.0)

  -- None exactly if rising
  pub rising_none : (xs : List X) → Rising begins ends xs → first_too_early begins ends xs ≡ None
  rising_none xs f = told_none xs (first_too_early begins ends xs) f (first_told xs)

  pub none_rising : (xs : List X) → first_too_early begins ends xs ≡ None → Rising begins ends xs
  none_rising xs e = subst (λ o. Told begins ends xs o) e (first_told xs)
