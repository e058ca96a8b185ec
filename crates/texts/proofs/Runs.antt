-- The bytes of a line.
use Rattle.std.proofs.Common.{◌≡◌, ℕ, zero, suc, ◌<◌, true, not, eqb, List, [], ◌∷◌, length, get_or, Some, None, Option, unwrap_or, sym, ap, ⊎_elim, arith}
use Rattle.std.proofs.lemmas.Bool.{eqb-true, or_cases}
use Rattle.byte_search.specs.Search.{First, Among, HoldsAny}
use Rattle.finder.specs.Finding.{is_line_end}
use Rattle.rules.specs.Bytes.{in_line, LongestRun}

-- the first CR or LF ends the bytes of a line

ends_among : (b : ℕ) → is_line_end b ≡ true → Among (13 ∷ 10 ∷ []) b
ends_among b e = ⊎_elim (λ f. (0, omega arith, sym (eqb-true b 13 f))) (λ f. (1, omega arith, sym (eqb-true b 10 f))) (or_cases (eqb b 13) (eqb b 10) e)

among_ends : (b : ℕ) → Among (13 ∷ 10 ∷ []) b → is_line_end b ≡ true
among_ends b (zero, h, e) = grind arith
among_ends b (suc zero, h, e) = grind arith
among_ends b (suc (suc j), h, e) = absurd (omega arith)

line_byte : (xs : List ℕ) (k : ℕ) → k < length xs → (HoldsAny (13 ∷ 10 ∷ []) xs k → ⊥) → in_line (get_or xs k 0) ≡ true
line_byte xs k h n = grind (arith, ends_among)

line_some : (xs : List ℕ) (d : ℕ) → First (HoldsAny (13 ∷ 10 ∷ []) xs) (Some d) → LongestRun in_line xs d
line_some xs d f = (omega (arith, f.0.0), (λ k h. line_byte xs k (omega (arith, f.0.0)) (f.1 k h)), (λ h. ap not (among_ends (get_or xs d 0) f.0.1)))

line_none : (xs : List ℕ) → First (HoldsAny (13 ∷ 10 ∷ []) xs) None → LongestRun in_line xs (length xs)
line_none xs f = (omega arith, (λ k h. line_byte xs k h (f k)), (λ h. absurd (omega arith)))

-- what comes before the first CR or LF, or all
pub line_told : (xs : List ℕ) (r : Option ℕ) → First (HoldsAny (13 ∷ 10 ∷ []) xs) r → LongestRun in_line xs (unwrap_or r (length xs))
line_told xs None f = line_none xs f
line_told xs (Some d) f = line_some xs d f
