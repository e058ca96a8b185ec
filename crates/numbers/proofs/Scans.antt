-- Steps of a scan, and how far it reaches.
use Rattle.std.proofs.Common.{◌≡◌, ℕ, zero, suc, ◌+◌, ◌<◌, ◌≤◌, Bool, List, [], ◌∷◌, length, get_or, drop, Some, None, Option, sym, refl, ap, ◌∙◌, subst, arith}
use Rattle.std.proofs.lemmas.List.{drop_more, drop_all}
use Rattle.rules.specs.declared.NumberState.{NumberState}
use Rattle.rules.specs.Numbers.{turn, scan, Scanned, longer}
use Rattle.numbers.specs.Longest.{Longest}

-- so many bytes longer
abbrev pub longer_by : ℕ → Scanned → Scanned
longer_by n r = (n + r.0, r.1)

longer_by_one : (n : ℕ) (r : Scanned) → longer_by n (longer r) ≡ longer_by (n + 1) r
longer_by_one n r = let z : n + suc r.0 ≡ n + 1 + r.0 = omega arith in ap (λ m. (m, r.1)) z

longer_none : (r : Scanned) → r ≡ longer_by 0 r
longer_none r = let z : r.0 ≡ 0 + r.0 = omega arith in ap (λ m. (m, r.1)) z

-- a part in front of others
abbrev before : NumberState → (ℕ → NumberState) → ℕ → NumberState
before p part zero = p
before p part (suc k) = part k

module _ (base : ℕ) (dotted : Bool) where
  pub scan_on : (p q : NumberState) (x : ℕ) (xs : List ℕ) → turn base dotted p x xs ≡ Some q → scan base dotted p (x ∷ xs) ≡ longer (scan base dotted q xs)
  unfolding scan
  scan_on p q x xs e = ap (λ t. elim t [ None ↦ (0, p) | Some r ↦ longer (scan base dotted r xs) ]) e

  scan_stop : (p : NumberState) (x : ℕ) (xs : List ℕ) → turn base dotted p x xs ≡ None → scan base dotted p (x ∷ xs) ≡ (0, p)
  unfolding scan
  scan_stop p x xs e = ap (λ t. elim t [ None ↦ (0, p) | Some r ↦ longer (scan base dotted r xs) ]) e

  -- what was read, and what the part from here on tells
  abbrev pub Read : NumberState → List ℕ → NumberState → ℕ → Type 0
  Read start s p i = scan base dotted start s ≡ longer_by i (scan base dotted p (drop i s))

  pub read_none : (start : NumberState) (s : List ℕ) → Read start s start 0
  read_none start s = longer_none (scan base dotted start s)

  module _ (start : NumberState) (s : List ℕ) (p : NumberState) (i : ℕ) where
    pub read_more : (q : NumberState) → i < length s → Some q ≡ turn base dotted p (get_or s i 0) (drop (i + 1) s) → Read start s p i → Read start s q (i + 1)
    read_more q h e r =
        r ∙ ap (λ l. longer_by i (scan base dotted p l)) (drop_more s i 0 h)
        ∙ ap (longer_by i) (scan_on p q (get_or s i 0) (drop (i + 1) s) (sym e)) ∙ longer_by_one i (scan base dotted q (drop (i + 1) s))

    pub read_stop : i < length s → None ≡ turn base dotted p (get_or s i 0) (drop (i + 1) s) → Read start s p i → (i, p) ≡ scan base dotted start s
    read_stop h e r =
        let z : i + 0 ≡ i = omega arith in
        sym (r ∙ ap (λ l. longer_by i (scan base dotted p l)) (drop_more s i 0 h)
        ∙ ap (longer_by i) (scan_stop p (get_or s i 0) (drop (i + 1) s) (sym e)) ∙ ap (λ m. (m, p)) z)

    pub read_all : length s ≤ i → Read start s p i → (i, p) ≡ scan base dotted start s
    unfolding scan
    read_all h r = let z : i + 0 ≡ i = omega arith in sym (r ∙ ap (λ l. longer_by i (scan base dotted p l)) (drop_all i s h) ∙ ap (λ m. (m, p)) z)

  -- how far a scan reaches
  Reaches : NumberState → List ℕ → Scanned → Type 0
  Reaches p xs r = Longest base dotted p xs r.0 r.1

  reaches_none : (p : NumberState) (xs : List ℕ) → (0 < length xs → turn base dotted p (get_or xs 0 0) (drop 1 xs) ≡ None) → Reaches p xs (0, p)
  unfolding Reaches
  reaches_none p xs h = (omega arith, ((λ k. p), refl, refl, (λ k l. absurd (omega arith))), h)

  reaches_more : (p q : NumberState) (x : ℕ) (xs : List ℕ) (r : Scanned) → turn base dotted p x xs ≡ Some q → Reaches q xs r → Reaches p (x ∷ xs) (longer r)
  unfolding Reaches
  reaches_more p q x xs r e h = (omega (arith, h.0), (before p part, refl, h.1.2, steps), (λ l. h.2 (omega arith)))
    where
      part : ℕ → NumberState
      part = h.1.0

      steps : (k : ℕ) → k < suc r.0 → turn base dotted (before p part k) (get_or (x ∷ xs) k 0) (drop (suc k) (x ∷ xs)) ≡ Some (before p part (suc k))
      steps zero l = e ∙ ap Some (sym h.1.1)
      steps (suc k) l = h.1.3 k (omega arith)

  reaches_by : (p : NumberState) (x : ℕ) (xs : List ℕ) → ((q : NumberState) → Reaches q xs (scan base dotted q xs)) → (t : Option NumberState) → turn base dotted p x xs ≡ t → Reaches p (x ∷ xs) (scan base dotted p (x ∷ xs))
  reaches_by p x xs each None e = subst (Reaches p (x ∷ xs)) (sym (scan_stop p x xs e)) (reaches_none p (x ∷ xs) (λ l. e))
  reaches_by p x xs each (Some q) e = subst (Reaches p (x ∷ xs)) (sym (scan_on p q x xs e)) (reaches_more p q x xs (scan base dotted q xs) e (each q))

  reaches : (p : NumberState) (xs : List ℕ) → Reaches p xs (scan base dotted p xs)
  unfolding scan
  reaches p [] = reaches_none p [] (λ l. absurd (omega arith))
  reaches p (x ∷ xs) = reaches_by p x xs (λ q. reaches q xs) (turn base dotted p x xs) refl

  pub longest_at : (p : NumberState) (xs : List ℕ) (r : Scanned) → r ≡ scan base dotted p xs → Longest base dotted p xs r.0 r.1
  unfolding Reaches
  longest_at p xs r e = subst (Reaches p xs) (sym e) (reaches p xs)
