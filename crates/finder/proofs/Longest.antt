-- The longest opening that qualifies.
use Rattle.std.proofs.Common.{◌≡◌, ℕ, zero, suc, ◌<◌, ◌≤◌, true, false, ltb, ◌⊎◌, List, [], ◌∷◌, length, get_or, Some, None, Option, sym, refl, ap, ◌∙◌, subst, inl, inr, ⊎_elim, arith}
use Rattle.std.proofs.lemmas.Bool.{cases_Bool, both_ways, ltb-true, ltb-false}
use Rattle.std.specs.List.{ContainsAt as Has}
use Rattle.finder.specs.Finding.{Opening, qualifies, longer, longest}

-- one of a list with one more in front
pub has_first : {X : Type 0} (x : X) (xs : List X) → Has (x ∷ xs) x
has_first x xs = (0, omega arith, λ d. refl)

pub has_later : {X : Type 0} (x y : X) (xs : List X) → Has xs y → Has (x ∷ xs) y
has_later x y xs h = (suc h.0, omega (arith, h.1), h.2)

pub has_cases : {X : Type 0} (x y : X) (xs : List X) → Has (x ∷ xs) y → (x ≡ y) ⊎ Has xs y
has_cases x y xs h = by h.0 h.1 h.2
  where
    by : (k : ℕ) → k < length (x ∷ xs) → ((d : _) → get_or (x ∷ xs) k d ≡ y) → (x ≡ y) ⊎ Has xs y
    by zero l e = inl (e x)
    by (suc k) l e = inr (k, omega arith, e)

pub has_none : {X : Type 0} (y : X) → Has [] y → ⊥
has_none y h = omega (arith, h.1)

-- none of the openings qualifies, or this one does and none that does is longer
abbrev pub Best : List Opening → List ℕ → List ℕ → Option Opening → Type 0
Best os behind ahead None = (o : Opening) → Has os o → qualifies o behind ahead ≡ true → ⊥
Best os behind ahead (Some p) = Has os p × (qualifies p behind ahead ≡ true) × ((o : Opening) → Has os o → qualifies o behind ahead ≡ true → length o.bytes ≤ length p.bytes)

module _ (behind ahead : List ℕ) where
  pub longest_yes : (o : Opening) (os : List Opening) → qualifies o behind ahead ≡ true → longest (o ∷ os) behind ahead ≡ longer o (longest os behind ahead)
  unfolding longest
  longest_yes o os e = ap (λ t. elim t [ true ↦ longer o (longest os behind ahead) | false ↦ longest os behind ahead ]) e

  pub longest_no : (o : Opening) (os : List Opening) → qualifies o behind ahead ≡ false → longest (o ∷ os) behind ahead ≡ longest os behind ahead
  unfolding longest
  longest_no o os e = ap (λ t. elim t [ true ↦ longer o (longest os behind ahead) | false ↦ longest os behind ahead ]) e

  best_no : (o : Opening) (os : List Opening) (r : Option Opening) → qualifies o behind ahead ≡ false → Best os behind ahead r → Best (o ∷ os) behind ahead r
  best_no o os None e b = λ p h q. ⊎_elim (λ z. both_ways (qualifies o behind ahead) e (ap (λ x. qualifies x behind ahead) z ∙ q)) (λ k. b p k q) (has_cases o p os h)
  best_no o os (Some p) e b = (
    has_later o p os b.0,
    b.1,
    λ x h q. ⊎_elim (λ z. absurd (both_ways (qualifies o behind ahead) e (ap (λ y. qualifies y behind ahead) z ∙ q))) (λ k. b.2 x k q) (has_cases o x os h),
  )

  -- the first is no shorter than this one
  keeps : (o : Opening) (os : List Opening) (p : Opening) → qualifies o behind ahead ≡ true → Best os behind ahead (Some p) → length p.bytes ≤ length o.bytes → Best (o ∷ os) behind ahead (Some o)
  keeps o os p e b l = (has_first o os, e, λ x h q. ⊎_elim (λ z. omega (arith, ap (λ y. length y.bytes) z)) (λ k. omega (arith, b.2 x k q)) (has_cases o x os h))

  takes : (o : Opening) (os : List Opening) (p : Opening) → Best os behind ahead (Some p) → length o.bytes < length p.bytes → Best (o ∷ os) behind ahead (Some p)
  takes o os p b l = (has_later o p os b.0, b.1, λ x h q. ⊎_elim (λ z. omega (arith, ap (λ y. length y.bytes) z)) (λ k. b.2 x k q) (has_cases o x os h))

  best_yes : (o : Opening) (os : List Opening) (r : Option Opening) → qualifies o behind ahead ≡ true → Best os behind ahead r → Best (o ∷ os) behind ahead (longer o r)
  best_yes o os None e b = (has_first o os, e, λ x h q. ⊎_elim (λ z. omega (arith, ap (λ y. length y.bytes) z)) (λ k. absurd (b x k q)) (has_cases o x os h))
  best_yes o os (Some p) e b =
      ⊎_elim
      (λ t. subst (Best (o ∷ os) behind ahead) (sym (ap (λ v. elim v [ true ↦ Some p | false ↦ Some o ]) t)) (takes o os p b (ltb-true (length o.bytes) (length p.bytes) t)))
      (λ t. subst (Best (o ∷ os) behind ahead) (sym (ap (λ v. elim v [ true ↦ Some p | false ↦ Some o ]) t)) (keeps o os p e b (ltb-false (length o.bytes) (length p.bytes) t)))
      (cases_Bool (ltb (length o.bytes) (length p.bytes)))

  pub longest_best : (os : List Opening) → Best os behind ahead (longest os behind ahead)
  unfolding longest
  longest_best [] = λ o h q. has_none o h
  longest_best (o ∷ os) =
      ⊎_elim
      (λ e. subst (Best (o ∷ os) behind ahead) (sym (longest_yes o os e)) (best_yes o os (longest os behind ahead) e (longest_best os)))
      (λ e. subst (Best (o ∷ os) behind ahead) (sym (longest_no o os e)) (best_no o os (longest os behind ahead) e (longest_best os)))
      (cases_Bool (qualifies o behind ahead))
