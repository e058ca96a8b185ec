-- One pattern put among others.
use Rattle.std.proofs.Common.{◌≡◌, ℕ, ◌+◌, ◌-◌, ◌<◌, ◌≤◌, List, ◌∷◌, ◌++◌, map, length, get_or, take, drop, set, sym, ap, ◌∙◌, subst, append_assoc, arith}
use lib.Seq.{paste}
use Rattle.std.proofs.lemmas.List.{take_more, set_at, take_at, drop-take, length-append, length-take-le, length-drop, take-take, map-append, take-map, drop-map}
use Rattle.finders.specs.declared.pattern.Pattern.{Pattern}
use Rattle.finders.specs.Order.{entered, Falling, Place}
use Rattle.finders.specs.Patterns.{opening_of, openings_of_first}
use Rattle.syntax.specs.Delims.{bytes_of}
use Rattle.finders.proofs.Sorted.{entered_at, entered_falling}

module _ {X : Type 0} (ps : List X) (n i : ℕ) (p : X) (h : i ≤ n) (l : n < length ps) where
  open_up : paste ps (i + 1) (drop i ps) (n - i) ≡ take i ps ++ get_or ps i p ∷ (take (n - i) (drop i ps) ++ drop (i + 1 + (n - i)) ps)
  open_up = ap (λ t. t ++ take (n - i) (drop i ps) ++ drop (i + 1 + (n - i)) ps) (take_more ps i p (omega arith)) ∙ simp append_assoc

  put_in : set (paste ps (i + 1) (drop i ps) (n - i)) i p ≡ (take i ps ++ p ∷ take (n - i) (drop i ps)) ++ drop (i + 1 + (n - i)) ps
  put_in =
      ap (λ t. set t i p) open_up
      ∙ set_at (take i ps) (get_or ps i p) (take (n - i) (drop i ps) ++ drop (i + 1 + (n - i)) ps) p i (length-take-le i ps (omega arith))
      ∙ sym (append_assoc (take i ps) (p ∷ take (n - i) (drop i ps)) (drop (i + 1 + (n - i)) ps))

  front_length : length (take i ps ++ p ∷ take (n - i) (drop i ps)) ≡ n + 1
  front_length =
      let a = length-take-le i ps (omega arith) in
      let d = length-drop i ps in
      let b = length-take-le (n - i) (drop i ps) (omega arith) in
      omega (arith, length-append (take i ps) (p ∷ take (n - i) (drop i ps)))

  -- the elements from a place on moved by one, and one put there
  pub shifted : take (n + 1) (set (paste ps (i + 1) (drop i ps) (n - i)) i p) ≡ take i (take n ps) ++ p ∷ drop i (take n ps)
  shifted =
      let z : i + (n - i) ≡ n = omega arith in
      ap (take (n + 1)) put_in
      ∙ take_at (take i ps ++ p ∷ take (n - i) (drop i ps)) (drop (i + 1 + (n - i)) ps) (n + 1) front_length
      ∙ ap (λ t. t ++ p ∷ take (n - i) (drop i ps)) (sym (take-take i n ps h))
      ∙ ap (λ t. take i (take n ps) ++ p ∷ t) (sym (drop-take i (n - i) ps) ∙ ap (λ m. drop i (take m ps)) z)

-- the openings then
pub shifted_openings : (ps : List Pattern) (n i : ℕ) (p : Pattern) → i ≤ n → n < length ps → Place (openings_of_first n ps) (length (bytes_of p.delimiter)) i → openings_of_first (n + 1) (set (paste ps (i + 1) (drop i ps) (n - i)) i p) ≡ entered (opening_of p) (openings_of_first n ps)
shifted_openings ps n i p h l w =
    ap (map opening_of) (shifted ps n i p h l)
    ∙ map-append opening_of (take i (take n ps)) (p ∷ drop i (take n ps))
    ∙ ap (λ t. t ++ opening_of p ∷ map opening_of (drop i (take n ps))) (sym (take-map opening_of i (take n ps)))
    ∙ ap (λ t. take i (openings_of_first n ps) ++ opening_of p ∷ t) (sym (drop-map opening_of i (take n ps)))
    ∙ sym (entered_at (opening_of p) (openings_of_first n ps) i w)

module _ (ps qs : List Pattern) (n i : ℕ) (p : Pattern) (e : qs ≡ paste ps (i + 1) (drop i ps) (n - i)) (h : i ≤ n) (l : n < length ps) (w : Place (openings_of_first n ps) (length (bytes_of p.delimiter)) i) where
  pub entered_openings : openings_of_first (n + 1) (set qs i p) ≡ entered (opening_of p) (openings_of_first n ps)
  entered_openings = ap (λ t. openings_of_first (n + 1) (set t i p)) e ∙ shifted_openings ps n i p h l w

  pub still_falling : Falling (openings_of_first n ps) → Falling (openings_of_first (n + 1) (set qs i p))
  still_falling f = subst Falling (sym entered_openings) (entered_falling (opening_of p) (openings_of_first n ps) f)
