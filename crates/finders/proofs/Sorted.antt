-- Openings whose lengths do not rise.
use Rattle.std.proofs.Common.{◌≡◌, ℕ, zero, suc, ◌+◌, ◌<◌, ◌≤◌, true, false, ltb, ◌⊎◌, List, [], ◌∷◌, ◌++◌, length, get_or, take, drop, Some, None, Option, sym, refl, ap, ◌∙◌, subst, inl, inr, ⊎_elim, arith}
use Rattle.std.proofs.lemmas.List.{get_or-map, drop_all}
use Rattle.std.proofs.lemmas.Bool.{cases_Bool, ltb-true, ltb-false, lt-ltb, le-ltb}
use Rattle.std.specs.List.{ContainsAt as Has}
use Rattle.finder.specs.Finding.{Opening, qualifies, longer, longest}
use Rattle.finder.proofs.Longest.{Best, longest_best, longest_yes, longest_no, has_first, has_later, has_cases, has_none}
use Rattle.finders.specs.Defaults.{opened}
use Rattle.finders.specs.Order.{entered, entered_all, ordered, lengths, Falling, Place}

-- a member's length
has_length : (os : List Opening) (p : Opening) (h : Has os p) → get_or (lengths os) h.0 0 ≡ length p.bytes
has_length os p h = get_or-map (λ o. length o.bytes) os h.0 p 0 h.1 ∙ ap (λ o. length o.bytes) (h.2 p)

pub falling_head : (o : Opening) (os : List Opening) → Falling (o ∷ os) → (p : Opening) → Has os p → length p.bytes ≤ length o.bytes
falling_head o os f p h = let e = has_length os p h in let w = f 0 (suc h.0) (omega arith) (omega (arith, h.1)) in omega arith

pub falling_tail : (o : Opening) (os : List Opening) → Falling (o ∷ os) → Falling os
falling_tail o os f j k l h = f (suc j) (suc k) (omega arith) (omega arith)

-- the place of a length is a member's
length_has : (os : List Opening) (k : ℕ) → k < length os → (p : Opening) × Has os p × (get_or (lengths os) k 0 ≡ length p.bytes)
length_has [] k h = absurd (omega arith)
length_has (o ∷ os) zero h = (o, has_first o os, refl)
length_has (o ∷ os) (suc k) h = let w = length_has os k (omega arith) in (w.0, has_later o w.0 os w.1, w.2)

pub falling_cons : (o : Opening) (os : List Opening) → ((p : Opening) → Has os p → length p.bytes ≤ length o.bytes) → Falling os → Falling (o ∷ os)
falling_cons o os f g zero zero l h = absurd (omega arith)
falling_cons o os f g zero (suc k) l h = let w = length_has os k (omega arith) in omega (arith, f w.0 w.1, w.2)
falling_cons o os f g (suc j) zero l h = absurd (omega arith)
falling_cons o os f g (suc j) (suc k) l h = g j k (omega arith) (omega arith)

pub falling_drop : (i : ℕ) (os : List Opening) → Falling os → Falling (drop i os)
falling_drop zero os f = f
falling_drop (suc i) [] f = f
falling_drop (suc i) (o ∷ os) f = falling_drop i os (falling_tail o os f)

module _ (behind ahead : List ℕ) where
  shorter : (o : Opening) (os : List Opening) (r : Option Opening) → ((p : Opening) → Has os p → length p.bytes ≤ length o.bytes) → Best os behind ahead r → longer o r ≡ Some o
  shorter o os None f b = refl
  shorter o os (Some p) f b = ⊎_elim
      (λ e. absurd (omega (arith, f p b.0, ltb-true (length o.bytes) (length p.bytes) e)))
      (λ e. ap (λ t. elim t [ true ↦ Some p | false ↦ Some o ]) e)
      (cases_Bool (ltb (length o.bytes) (length p.bytes)))

  -- the first that qualifies is the longest
  pub longest_first : (o : Opening) (os : List Opening) → Falling (o ∷ os) → qualifies o behind ahead ≡ true → longest (o ∷ os) behind ahead ≡ Some o
  longest_first o os f e = longest_yes behind ahead o os e ∙ shorter o os (longest os behind ahead) (falling_head o os f) (longest_best behind ahead os)

  -- the longest of those from a place on is the longest of all
  abbrev pub From : List Opening → ℕ → Type 0
  From os i = longest os behind ahead ≡ longest (drop i os) behind ahead

  pub from_none : (os : List Opening) → From os 0
  from_none os = refl

  -- nothing qualifies
  pub from_all : (os : List Opening) (i : ℕ) → length os ≤ i → From os i → opened (longest os behind ahead) ≡ None
  unfolding longest
  from_all os i h f = ap opened (f ∙ ap (λ l. longest l behind ahead) (drop_all i os h))

  module _ (os : List Opening) (i : ℕ) (o : Opening) (e : drop i os ≡ o ∷ drop (i + 1) os) (f : From os i) where
    pub from_more : qualifies o behind ahead ≡ false → From os (i + 1)
    from_more q = f ∙ ap (λ l. longest l behind ahead) e ∙ longest_no behind ahead o (drop (i + 1) os) q

    pub from_here : Falling os → qualifies o behind ahead ≡ true → opened (longest os behind ahead) ≡ Some (o.marker, length o.bytes)
    from_here g q = ap opened (f ∙ ap (λ l. longest l behind ahead) e ∙ longest_first o (drop (i + 1) os) (subst Falling e (falling_drop i os g)) q)

-- entering

pub entered_yes : (o p : Opening) (ps : List Opening) → ltb (length p.bytes) (length o.bytes) ≡ true → entered o (p ∷ ps) ≡ o ∷ p ∷ ps
unfolding entered
entered_yes o p ps e = ap (λ t. elim t [ true ↦ o ∷ p ∷ ps | false ↦ p ∷ entered o ps ]) e

pub entered_no : (o p : Opening) (ps : List Opening) → ltb (length p.bytes) (length o.bytes) ≡ false → entered o (p ∷ ps) ≡ p ∷ entered o ps
unfolding entered
entered_no o p ps e = ap (λ t. elim t [ true ↦ o ∷ p ∷ ps | false ↦ p ∷ entered o ps ]) e

pub entered_none : (o : Opening) → entered o [] ≡ o ∷ []
unfolding entered
entered_none o = refl

-- what has been entered is a member, and so is what was one
pub entered_has : (o : Opening) (os : List Opening) → Has (entered o os) o
entered_has o [] = subst (λ l. Has l o) (sym (entered_none o)) (has_first o [])
entered_has o (p ∷ ps) = ⊎_elim
    (λ e. subst (λ l. Has l o) (sym (entered_yes o p ps e)) (has_first o (p ∷ ps)))
    (λ e. subst (λ l. Has l o) (sym (entered_no o p ps e)) (has_later p o (entered o ps) (entered_has o ps)))
    (cases_Bool (ltb (length p.bytes) (length o.bytes)))

pub entered_keeps : (o q : Opening) (os : List Opening) → Has os q → Has (entered o os) q
entered_keeps o q [] h = absurd (has_none q h)
entered_keeps o q (p ∷ ps) h = ⊎_elim
    (λ e. subst (λ l. Has l q) (sym (entered_yes o p ps e)) (has_later o q (p ∷ ps) h))
    (λ e. subst (λ l. Has l q) (sym (entered_no o p ps e)) (⊎_elim (λ z. subst (Has (p ∷ entered o ps)) z (has_first p (entered o ps))) (λ k. has_later p q (entered o ps) (entered_keeps o q ps k)) (has_cases p q ps h)))
    (cases_Bool (ltb (length p.bytes) (length o.bytes)))

-- and there is no other
pub entered_cases : (o q : Opening) (os : List Opening) → Has (entered o os) q → (o ≡ q) ⊎ Has os q
entered_cases o q [] h = has_cases o q [] (subst (λ l. Has l q) (entered_none o) h)
entered_cases o q (p ∷ ps) h = ⊎_elim
    (λ e. has_cases o q (p ∷ ps) (subst (λ l. Has l q) (entered_yes o p ps e) h))
    (λ e. ⊎_elim
    (λ z. inr (subst (Has (p ∷ ps)) z (has_first p ps)))
    (λ k. ⊎_elim (λ z. inl z) (λ m. inr (has_later p q ps m)) (entered_cases o q ps k))
    (has_cases p q (entered o ps) (subst (λ l. Has l q) (entered_no o p ps e) h)))
    (cases_Bool (ltb (length p.bytes) (length o.bytes)))

-- lengths do not rise where one is entered
pub entered_falling : (o : Opening) (os : List Opening) → Falling os → Falling (entered o os)
entered_falling o [] f = subst Falling (sym (entered_none o)) (falling_cons o [] (λ p h. absurd (has_none p h)) f)
entered_falling o (p ∷ ps) f = ⊎_elim
    (λ e. let l = ltb-true (length p.bytes) (length o.bytes) e in
    subst Falling (sym (entered_yes o p ps e))
    (falling_cons o (p ∷ ps) (λ q h. ⊎_elim (λ z. omega (arith, ap (λ t. length t.bytes) z)) (λ k. omega (arith, falling_head p ps f q k)) (has_cases p q ps h)) f))
    (λ e. let l = ltb-false (length p.bytes) (length o.bytes) e in
    subst Falling (sym (entered_no o p ps e))
    (falling_cons p (entered o ps) (λ q h. ⊎_elim (λ z. omega (arith, ap (λ t. length t.bytes) z)) (λ k. falling_head p ps f q k) (entered_cases o q ps h)) (entered_falling o ps (falling_tail p ps f))))
    (cases_Bool (ltb (length p.bytes) (length o.bytes)))

-- all of them

pub all_has : (os placed : List Opening) (q : Opening) → Has os q ⊎ Has placed q → Has (entered_all os placed) q
unfolding entered_all
all_has [] placed q h = ⊎_elim (λ k. absurd (has_none q k)) (λ k. k) h
all_has (o ∷ os) placed q h = all_has os (entered o placed) q
    (⊎_elim (λ k. ⊎_elim (λ z. inr (subst (Has (entered o placed)) z (entered_has o placed))) (λ m. inl m) (has_cases o q os k)) (λ k. inr (entered_keeps o q placed k)) h)

pub all_cases : (os placed : List Opening) (q : Opening) → Has (entered_all os placed) q → Has os q ⊎ Has placed q
unfolding entered_all
all_cases [] placed q h = inr h
all_cases (o ∷ os) placed q h = ⊎_elim
    (λ k. inl (has_later o q os k))
    (λ k. ⊎_elim (λ z. inl (subst (Has (o ∷ os)) z (has_first o os))) (λ m. inr m) (entered_cases o q placed k))
    (all_cases os (entered o placed) q h)

pub all_falling : (os placed : List Opening) → Falling placed → Falling (entered_all os placed)
unfolding entered_all
all_falling [] placed f = f
all_falling (o ∷ os) placed f = all_falling os (entered o placed) (entered_falling o placed f)

-- the order has the same members, and its lengths do not rise
pub ordered_has : (os : List Opening) (q : Opening) → Has os q → Has (ordered os) q
ordered_has os q h = all_has os [] q (inl h)

pub has_ordered : (os : List Opening) (q : Opening) → Has (ordered os) q → Has os q
has_ordered os q h = ⊎_elim (λ k. k) (λ k. absurd (has_none q k)) (all_cases os [] q h)

pub ordered_falling : (os : List Opening) → Falling (ordered os)
ordered_falling os = all_falling os [] (λ j k l h. absurd (omega arith))

-- an opening is entered at its place
pub entered_at : (o : Opening) (os : List Opening) (i : ℕ) → Place os (length o.bytes) i → entered o os ≡ take i os ++ o ∷ drop i os
unfolding entered
entered_at o [] zero p = refl
entered_at o [] (suc i) p = refl
entered_at o (q ∷ qs) zero p = entered_yes o q qs (lt-ltb (length q.bytes) (length o.bytes) (p.1 (omega arith)))
entered_at o (q ∷ qs) (suc i) p =
    entered_no o q qs (le-ltb (length q.bytes) (length o.bytes) (p.0 0 (omega arith)))
    ∙ ap (λ l. q ∷ l) (entered_at o qs i ((λ k h. p.0 (suc k) (omega arith)), (λ h. p.1 (omega arith))))
