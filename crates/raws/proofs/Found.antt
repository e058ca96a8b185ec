-- The first closing tag.
use Rattle.std.proofs.Common.{◌≡◌, ℕ, zero, suc, ◌+◌, ◌-◌, ◌<◌, ◌≤◌, List, [], ◌∷◌, length, drop, Some, None, Option, sym, refl, ap, ◌∙◌, subst, arith}
use Rattle.std.proofs.lemmas.List.{length-drop, drop-drop}
use Rattle.byte_search.specs.Search.{First, Stands}
use Rattle.rules.specs.declared.EndRaw.{EndRaw}
use Rattle.rules.specs.Config.{Config}
use Rattle.rules.specs.Texts.{Far, closer_at, away, find_closer}
use Rattle.raws.specs.Closers.{TagWithin, FarWithin, Closes, FirstCloser}
use Rattle.raws.proofs.Tags.{closer_stands, closer_within}

module _ (s : Config) where
  -- a closing tag stands inside, with all of its bytes
  pub closes_inside : (xs : List ℕ) (k : ℕ) (r : EndRaw) → Closes s xs k r → (0 < r.len) × (k + r.len ≤ length xs)
  closes_inside xs k r e =
      let w : TagWithin (drop k xs) (Some r) = subst (TagWithin (drop k xs)) e (closer_within s (drop k xs)) in
      grind (arith, w.0, w.1, length-drop)

  find_here : (x : ℕ) (xs : List ℕ) (r : EndRaw) → closer_at s (x ∷ xs) ≡ Some r → find_closer s (x ∷ xs) ≡ Some (0, r)
  unfolding find_closer
  find_here x xs r e = ap (λ o. elim o [ Some t ↦ Some (0, t) | None ↦ away (find_closer s xs) ]) e

  find_on : (x : ℕ) (xs : List ℕ) → closer_at s (x ∷ xs) ≡ None → find_closer s (x ∷ xs) ≡ away (find_closer s xs)
  unfolding find_closer
  find_on x xs e = ap (λ o. elim o [ Some t ↦ Some (0, t) | None ↦ away (find_closer s xs) ]) e

  differ : {A : Type 0} (o : Option EndRaw) (r : EndRaw) → o ≡ None → o ≡ Some r → A
  differ o r e f = let z : ◌≡◌ {A = ℕ} 0 1 = cc in absurd (omega arith)

  first_on : (x : ℕ) (xs : List ℕ) (o : Option Far) → closer_at s (x ∷ xs) ≡ None → FirstCloser s xs o → FirstCloser s (x ∷ xs) (away o)
  first_on x xs None e f = λ k. elim k as (λ k. (r : EndRaw) → Closes s (x ∷ xs) k r → ⊥) [ zero ↦ λ r c. differ (closer_at s (x ∷ xs)) r e c | suc k ↦ λ r c. f k r c ]
  first_on x xs (Some t) e f =
      (f.0, λ k. elim k as (λ k. (r : EndRaw) → k < suc t.0 → Closes s (x ∷ xs) k r → ⊥) [ zero ↦ λ r h c. differ (closer_at s (x ∷ xs)) r e c | suc k ↦ λ r h c. f.1 k r (omega arith) c ])

  first_by : (x : ℕ) (xs : List ℕ) (o : Option EndRaw) → closer_at s (x ∷ xs) ≡ o → FirstCloser s xs (find_closer s xs) → FirstCloser s (x ∷ xs) (find_closer s (x ∷ xs))
  first_by x xs None e f = subst (FirstCloser s (x ∷ xs)) (sym (find_on x xs e)) (first_on x xs (find_closer s xs) e f)
  first_by x xs (Some r) e f = subst (FirstCloser s (x ∷ xs)) (sym (find_here x xs r e)) (e, λ k t h c. absurd (omega arith))

  -- `find_closer` in words
  pub find_first : (xs : List ℕ) → FirstCloser s xs (find_closer s xs)
  unfolding find_closer
  find_first [] = λ k r c. omega (arith, (closes_inside [] k r c).0, (closes_inside [] k r c).1)
  find_first (x ∷ xs) = first_by x xs (closer_at s (x ∷ xs)) refl (find_first xs)

  -- two first places are one
  pub closer_unique : (xs : List ℕ) (a b : Option Far) → FirstCloser s xs a → FirstCloser s xs b → a ≡ b
  closer_unique xs None None f g = refl
  closer_unique xs None (Some u) f g = absurd (f u.0 u.1 g.0)
  closer_unique xs (Some t) None f g = absurd (g t.0 t.1 f.0)
  closer_unique xs (Some t) (Some u) f g = grind (arith, f.0, g.0, f.1, g.1)

  first_within : (xs : List ℕ) (r : Option Far) → FirstCloser s xs r → FarWithin xs r
  first_within xs None f = tt
  first_within xs (Some t) f = closes_inside xs t.0 t.1 f.0

  -- the closing tag that is found lies in the bytes
  pub find_within : (xs : List ℕ) → FarWithin xs (find_closer s xs)
  find_within xs = first_within xs (find_closer s xs) (find_first xs)

  -- all that is told of the first place
  abbrev pub Told : List ℕ → Option Far → Type 0
  Told xs r = (r ≡ find_closer s xs) × FirstCloser s xs r × FarWithin xs r

  pub first_told : (xs : List ℕ) (r : Option Far) → FirstCloser s xs r → Told xs r
  first_told xs r f = (closer_unique xs r (find_closer s xs) f (find_first xs), f, first_within xs r f)

  -- one step of the search: no closing tag stands before i, and ys are the bytes from i on
  abbrev pub Clear : List ℕ → ℕ → Type 0
  Clear xs i = (k : ℕ) (r : EndRaw) → k < i → Closes s xs k r → ⊥

  module _ (xs ys ds : List ℕ) (i : ℕ) (e : ys ≡ drop i xs) (q : ds ≡ s.block_start) (clear : Clear xs i) where
    start_behind : (k : ℕ) (r : EndRaw) → i ≤ k → Closes s xs k r → Stands ds ys (k - i)
    start_behind k r h c = grind (arith, closes_inside, length-drop, drop-drop, closer_stands, c, e, q)

    -- no closing tag stands where the block start does not
    pub start_skip : (d : ℕ) → First (Stands ds ys) (Some d) → Clear xs (i + d)
    start_skip d f k r h c = grind (arith, clear, f.1, start_behind, c)

    pub start_none : First (Stands ds ys) None → FirstCloser s xs None
    start_none f k r c = grind (arith, clear, f, start_behind, c)

  -- where the tag does not stand, the search goes on one byte further
  pub clear_more : (xs zs : List ℕ) (i : ℕ) → Clear xs i → zs ≡ drop i xs → None ≡ closer_at s zs → Clear xs (i + 1)
  clear_more xs zs i c e f k r h d = grind (arith, c, e, f, d)

  -- a tag that stands in front of what is left stands at the place
  pub closes_at : (xs zs : List ℕ) (i : ℕ) (r : EndRaw) → zs ≡ drop i xs → Some r ≡ closer_at s zs → Closes s xs i r
  closes_at xs zs i r e f = ap (closer_at s) (sym e) ∙ sym f
