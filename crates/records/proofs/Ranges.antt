-- What 17 for all, then 18, means, of any records and any length.
use Rattle.std.proofs.Common.{◌≡◌, ℕ, zero, suc, ◌<◌, Bool, true, false, ◌&&◌, List, [], ◌∷◌, Some, None, Option, Err, Ok, Result, sym, refl, ap, ◌∙◌, ⊎_elim, arith}
use Rattle.std.proofs.lemmas.Bool.{cases_Bool, both_ways}
use Rattle.pieces.specs.declared.piece.Piece.{Piece}
use Rattle.pieces.specs.Ranges.{begins, ends}
use Rattle.ranged.specs.Ranges.{first_too_early}
use Rattle.ranged.proofs.Early.{told_by}
use Rattle.records.specs.Faults.{Told, bad_range, too_early}
use Rattle.records.specs.Taken.{is_good, all_good, early_told, take_told, Good, EachGood, SomeBad, Means}
use Rattle.records.proofs.Goods.{all_good_at}

module _ (n : ℕ) where
  -- behind a bad record none decides
  all_bad : (p : Piece) (ps : List Piece) → is_good n p ≡ false → all_good n (p ∷ ps) ≡ false
  all_bad p ps e = ap (λ b. b && all_good n ps) e

  -- the test of one record in words
  good_says : (p : Piece) → is_good n p ≡ true → Good n p
  good_says p e = (grind arith, grind arith, grind arith, grind arith)

  bad_says : (p : Piece) → is_good n p ≡ false → Good n p → ⊥
  bad_says p e (a, b, c, d) = grind arith

  each_more : (p : Piece) (ps : List Piece) → Good n p → EachGood n ps → EachGood n (p ∷ ps)
  each_more p ps g f zero d h = g
  each_more p ps g f (suc k) d h = f k d (omega arith)

  some_more : (p : Piece) (ps : List Piece) → SomeBad n ps → SomeBad n (p ∷ ps)
  some_more p ps (k, h, b) = (suc k, omega arith, b)

  -- and of all records
  each_good : (ps : List Piece) → all_good n ps ≡ true → EachGood n ps
  each_good [] e = λ k d h. absurd (omega arith)
  each_good (p ∷ ps) e = ⊎_elim (λ g. each_more p ps (good_says p g) (each_good ps (sym (all_good_at n p ps g) ∙ e))) (λ b. absurd (both_ways (all_good n (p ∷ ps)) (all_bad p ps b) e)) (cases_Bool (is_good n p))

  some_bad : (ps : List Piece) → all_good n ps ≡ false → SomeBad n ps
  some_bad [] e = absurd (both_ways true e refl)
  some_bad (p ∷ ps) e = ⊎_elim (λ g. some_more p ps (some_bad ps (sym (all_good_at n p ps g) ∙ e))) (λ b. (0, omega arith, λ d. bad_says p b)) (cases_Bool (is_good n p))

  -- what taking tells, and what that means, from the two checks
  module _ (ps : List Piece) where
    abbrev by : Bool → Option ℕ → Result Unit Told
    by t o = elim t [ true ↦ early_told o | false ↦ Err bad_range ]

    pub refused_bad : all_good n ps ≡ false → (take_told n ps ≡ Err bad_range) × Means n ps (Err bad_range)
    refused_bad e = (ap (λ t. by t (first_too_early begins ends ps)) e, (refl, some_bad ps e))

    pub refused_early : (i : ℕ) → all_good n ps ≡ true → Some i ≡ first_too_early begins ends ps → (take_told n ps ≡ Err (too_early i)) × Means n ps (Err (too_early i))
    refused_early i e f = (ap (λ t. by t (first_too_early begins ends ps)) e ∙ ap early_told (sym f), (refl, each_good ps e, told_by begins ends ps (Some i) f))

    pub refused_not : all_good n ps ≡ true → None ≡ first_too_early begins ends ps → (take_told n ps ≡ Ok tt) × Means n ps (Ok tt)
    refused_not e f = (ap (λ t. by t (first_too_early begins ends ps)) e ∙ ap early_told (sym f), (each_good ps e, told_by begins ends ps None f))
