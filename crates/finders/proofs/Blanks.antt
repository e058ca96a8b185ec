-- Bytes of a line: the last of them that is no space and no tab decides.
use Rattle.std.proofs.Common.{◌≡◌, ℕ, Bool, true, false, cond, not, ◌≤◌, List, [], ◌∷◌, ◌++◌, take, drop, Some, None, sym, refl, ap, ◌∙◌, ⊎_elim, arith}
use Rattle.std.proofs.lemmas.Bool.{cases_Bool}
use Rattle.std.proofs.lemmas.List.{take-take, take-append-drop}
use Rattle.std.proofs.lemmas.Bool.Decides.{nat_tests}
use Rattle.std.specs.List.{find}
use Rattle.finder.specs.Finding.{is_line_end, is_space_or_tab, blank_line}
use Rattle.finder.proofs.Lines.{blank_end, blank_on, blank_not}

no_end : (b : ℕ) → is_space_or_tab b ≡ true → is_line_end b ≡ false
no_end b e = grind (arith, nat_tests)

-- a byte that is no space and no tab
abbrev pub other : ℕ → Bool
other b = not (is_space_or_tab b)

passed : (b : ℕ) (bs : List ℕ) → is_space_or_tab b ≡ true → find other (b ∷ bs) ≡ find other bs
passed b bs e = ap (λ t. cond (not t) (Some b) (find other bs)) e

decides : (b : ℕ) (bs : List ℕ) → is_space_or_tab b ≡ false → blank_line (b ∷ bs) ≡ is_line_end b
decides b bs e = ⊎_elim (λ l. blank_end b bs l ∙ sym l) (λ l. blank_not b bs l e ∙ sym l) (cases_Bool (is_line_end b))

-- the newest such byte decides
pub blank_found : (bs before : List ℕ) (b : ℕ) → find other bs ≡ Some b → blank_line (bs ++ before) ≡ is_line_end b
blank_found [] before b e = cc
blank_found (x ∷ bs) before b e = ⊎_elim
    (λ q. blank_on x (bs ++ before) (no_end x q) q ∙ blank_found bs before b (sym (passed x bs q) ∙ e))
    (λ q. let z : Some x ≡ Some b = sym (ap (λ t. cond (not t) (Some x) (find other bs)) q) ∙ e in let w : x ≡ b = cc in decides x (bs ++ before) q ∙ ap is_line_end w)
    (cases_Bool (is_space_or_tab x))

-- where there is none, what lies before does
pub blank_passed : (bs before : List ℕ) → find other bs ≡ None → blank_line (bs ++ before) ≡ blank_line before
blank_passed [] before e = refl
blank_passed (x ∷ bs) before e = ⊎_elim
    (λ q. blank_on x (bs ++ before) (no_end x q) q ∙ blank_passed bs before (sym (passed x bs q) ∙ e))
    (λ q. let z : Some x ≡ None = sym (ap (λ t. cond (not t) (Some x) (find other bs)) q) ∙ e in cc)
    (cases_Bool (is_space_or_tab x))

-- the bytes up to a place, and those between it and a later one
pub seen_on : (xs ys zs : List ℕ) (i k : ℕ) → i ≤ k → ys ≡ take k xs → zs ≡ drop i ys → take i xs ++ zs ≡ take k xs
seen_on xs ys zs i k h p q =
    ap (λ l. take i xs ++ l) (q ∙ ap (drop i) p)
    ∙ ap (λ l. l ++ drop i (take k xs)) (sym (take-take i k xs h))
    ∙ take-append-drop i (take k xs)
