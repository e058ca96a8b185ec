-- What patterns hold.
use Rattle.std.proofs.Common.{◌≡◌, ℕ, zero, suc, ◌+◌, ◌<◌, ◌≤◌, Bool, true, false, leb, List, [], ◌∷◌, map, length, get_or, take, drop, Some, sym, refl, ap, ◌∙◌, subst, ⊎_elim, arith}
use Rattle.std.proofs.lemmas.List.{get_or-map, get_or-take, drop_more, length-map, length-take-le}
use Rattle.std.proofs.lemmas.Bool.{cases_lt, leb-true, le-leb, leb-false}
use Rattle.std.specs.List.Sorted.{IsPartitionedBy, IsPartitionPoint}
use Rattle.byte_search.specs.Search.{Among}
use Rattle.finder.specs.Finding.{Opening, qualifies, longest}
use Rattle.syntax.specs.Delims.{bytes_of}
use Rattle.finders.specs.declared.pattern.Pattern.{Pattern}
use Rattle.finders.specs.Defaults.{opened}
use Rattle.finders.specs.Order.{lengths, Falling, Place}
use Rattle.finders.specs.Patterns.{opening_of, openings_of_first, lead_of}
use Rattle.finders.proofs.Clear.{Led}
use Rattle.finders.proofs.Sorted.{From, from_more, from_here}

pub held_length : (n : ℕ) (ps : List Pattern) → n ≤ length ps → length (openings_of_first n ps) ≡ n
held_length n ps h = length-map (take n ps) opening_of ∙ length-take-le n ps h

held_at : (n : ℕ) (ps : List Pattern) (i : ℕ) (p : Pattern) (o : Opening) → i < n → n ≤ length ps → get_or (openings_of_first n ps) i o ≡ opening_of (get_or ps i p)
held_at n ps i p o h l = get_or-map opening_of (take n ps) i p o (omega (arith, length-take-le n ps l)) ∙ ap opening_of (get_or-take n ps i p h)

-- each opening begins with its pattern's first byte
pub held_led : (n : ℕ) (ps : List Pattern) → n ≤ length ps → Led (map lead_of ps) (openings_of_first n ps)
held_led n ps h o w =
    let k = w.0 in
    let l : k < n = omega (arith, w.1, held_length n ps h) in
    by k l (w.2 o)
  where
    read : (ps : List Pattern) (k : ℕ) → k < length ps → (p : Pattern) × ((d : Pattern) → get_or ps k d ≡ p)
    read [] k h = absurd (omega arith)
    read (p ∷ ps) zero h = (p, λ d. refl)
    read (p ∷ ps) (suc k) h = read ps k (omega arith)

    by : (k : ℕ) → k < n → get_or (openings_of_first n ps) k o ≡ o → (0 < length o.bytes) × Among (map lead_of ps) (get_or o.bytes 0 0)
    by k l e =
        let r = read ps k (omega arith) in
        let p = r.0 in
        let z : opening_of p ≡ o = sym (held_at n ps k p o l h ∙ ap opening_of (r.1 p)) ∙ e in
        let b = p.filled in (
          omega (arith, ap (λ t. length t.bytes) z),
          (k, simp length-map (omega arith), get_or-map lead_of ps k p 0 (omega arith) ∙ ap lead_of (r.1 p) ∙ ap (λ t. get_or t.bytes 0 0) z),
        )

-- the patterns themselves, and their openings
module _ (ps : List Pattern) where
  -- the length of the opening at a place
  held_len : (i : ℕ) (d : Pattern) → i < length ps → get_or (lengths (map opening_of ps)) i 0 ≡ length (bytes_of (get_or ps i d).delimiter)
  held_len i d h =
      get_or-map (λ o. length o.bytes) (map opening_of ps) i (opening_of d) 0 (simp length-map h)
      ∙ ap (λ o. length o.bytes) (get_or-map opening_of ps i d (opening_of d) h)

  -- those of at least t bytes come first
  pub falling_parts : (t : ℕ) → Falling (map opening_of ps) → IsPartitionedBy (λ p. leb t (length (bytes_of p.delimiter))) ps
  falling_parts t f i j d l h e =
      ⊎_elim
      (λ k. le-leb t (length (bytes_of (get_or ps i d).delimiter)) (omega (arith, f i j k (simp length-map h), held_len i d (omega arith), held_len j d h, leb-true t (length (bytes_of (get_or ps j d).delimiter)) e)))
      (λ k. let z : j ≡ i = omega arith in subst (λ n. leb t (length (bytes_of (get_or ps n d).delimiter)) ≡ true) z e)
      (cases_lt i j)

  some_pattern : (qs : List Pattern) (k : ℕ) → k < length qs → Pattern
  some_pattern [] k l = absurd (omega arith)
  some_pattern (p ∷ qs) k l = p

  pub parts_place : (t i : ℕ) → i ≤ length ps → IsPartitionPoint (λ p. leb t (length (bytes_of p.delimiter)) ≡ true) (λ p. leb t (length (bytes_of p.delimiter)) ≡ false) ps i → Place (map opening_of ps) t i
  parts_place t i h w = (
    λ k l.
        let d = some_pattern ps k (omega arith) in
        omega (arith, leb-true t (length (bytes_of (get_or ps k d).delimiter)) (w.0 k d (omega arith) l), held_len k d (omega arith)),
    λ l.
        let m : i < length ps = simp length-map at l in
        let d = some_pattern ps i m in
        omega (arith, leb-false t (length (bytes_of (get_or ps i d).delimiter)) (w.1 i d (omega arith) m), held_len i d m),
  )

-- trying the patterns in their order: p is the one at the place i
module _ (behind ahead : List ℕ) (ps : List Pattern) (os : List Opening) (e : map opening_of ps ≡ os) (i : ℕ) (p : Pattern) (z : p ≡ get_or ps i p) (h : i < length ps) (f : From behind ahead os i) where
  more : drop i os ≡ opening_of p ∷ drop (i + 1) os
  more =
      ap (drop i) (sym e)
      ∙ drop_more (map opening_of ps) i (opening_of p) (simp length-map h)
      ∙ ap (λ o. o ∷ drop (i + 1) (map opening_of ps)) (get_or-map opening_of ps i p (opening_of p) h ∙ ap opening_of (sym z))
      ∙ ap (λ l. opening_of p ∷ drop (i + 1) l) e

  pub held_next : (r : Bool) → r ≡ qualifies (opening_of p) behind ahead → r ≡ false → From behind ahead os (i + 1)
  held_next r q t = from_more behind ahead os i (opening_of p) more f (sym q ∙ t)

  pub held_here : Falling os → (r : Bool) → r ≡ qualifies (opening_of p) behind ahead → r ≡ true → opened (longest os behind ahead) ≡ Some (p.marker, length (bytes_of p.delimiter))
  held_here g r q t = from_here behind ahead os i (opening_of p) more f g (sym q ∙ t)
