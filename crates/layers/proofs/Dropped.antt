-- What dropping gaps leaves, in words.
use Rattle.std.proofs.Common.{◌≡◌, ℕ, zero, suc, ◌<◌, Bool, true, false, not, cond, List, [], ◌∷◌, length, get_or, refl, ap, arith}
use Rattle.std.proofs.lemmas.Bool.{both_ways}
use Rattle.layers.specs.Layers.{drop_gaps, Drops}

-- the places with one more in front
abbrev front : (ℕ → ℕ) → ℕ → ℕ
front at zero = 0
front at (suc j) = suc (at j)

module _ {I : Type 0} (gap : I → Bool) where
  -- one item more in front, told or not
  module _ (x : I) (xs ys : List I) (d : Drops gap xs ys) where
    all_behind : gap x ≡ true → (k : ℕ) (z : I) → k < length (x ∷ xs) → gap (get_or (x ∷ xs) k z) ≡ false → (j : ℕ) × (j < length ys) × (suc (d.at j) ≡ k)
    all_behind e zero z h f = absurd (both_ways (gap x) f e)
    all_behind e (suc k) z h f = let r = d.all k z (omega arith) f in (r.0, r.1, ap suc r.2)

    rises_front : (i j : ℕ) → i < j → j < length (x ∷ ys) → front d.at i < front d.at j
    rises_front i zero h l = absurd (omega arith)
    rises_front zero (suc j) h l = omega arith
    rises_front (suc i) (suc j) h l = omega (arith, d.rises i j (omega arith) (omega arith))

    reads_front : gap x ≡ false → (j : ℕ) (z : I) → j < length (x ∷ ys) → (front d.at j < length (x ∷ xs)) × (get_or (x ∷ ys) j z ≡ get_or (x ∷ xs) (front d.at j) z) × (gap (get_or (x ∷ xs) (front d.at j) z) ≡ false)
    reads_front e zero z l = (omega arith, refl, e)
    reads_front e (suc j) z l = let r = d.reads j z (omega arith) in (omega (arith, r.0), r.1, r.2)

    all_front : (k : ℕ) (z : I) → k < length (x ∷ xs) → gap (get_or (x ∷ xs) k z) ≡ false → (j : ℕ) × (j < length (x ∷ ys)) × (front d.at j ≡ k)
    all_front zero z h f = (0, omega arith, refl)
    all_front (suc k) z h f = let r = d.all k z (omega arith) f in (suc r.0, omega (arith, r.1), ap suc r.2)

    drops_more : (b : Bool) → gap x ≡ b → Drops gap (x ∷ xs) (cond (not b) (x ∷ ys) ys)
    drops_more true e = record {
      at = λ j. suc (d.at j);
      rises = λ i j h l. omega (arith, d.rises i j h l);
      reads = λ j z l. let r = d.reads j z l in (omega (arith, r.0), r.1, r.2);
      all = all_behind e;
    }
    drops_more false e = record { at = front d.at; rises = rises_front; reads = reads_front e; all = all_front }

  -- `drop_gaps` in words
  pub gaps_drops : (xs : List I) → Drops gap xs (drop_gaps gap xs)
  gaps_drops [] = record { at = λ j. j; rises = λ i j h l. h; reads = λ j d l. absurd (omega arith); all = λ k d l. absurd (omega arith) }
  gaps_drops (x ∷ xs) = drops_more x xs (drop_gaps gap xs) (gaps_drops xs) (gap x) refl
