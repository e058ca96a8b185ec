-- The last byte.
use Rattle.std.proofs.Common.{◌≡◌, ℕ, zero, suc, ◌-◌, Bool, true, eqb, nat_eq, List, [], ◌∷◌, length, get_or, drop, Decides, sym, refl, ap, ◌∙◌, arith}
use Rattle.std.specs.Cmp.Lexicographic.{pointwise}
use Rattle.std.specs.List.{ends_with}
use Rattle.std.proofs.lemmas.Bool.{eq-eqb, eqb-true, true≢false}
use Rattle.std.proofs.lemmas.Bool.Decides.{nat_tests}
use Rattle.rules.specs.Bytes.{last_is}
use Rattle.numbers.specs.Within.{EndsIn}

last_at : (b : ℕ) (xs : List ℕ) (n : ℕ) → length xs ≡ suc n → last_is b xs ≡ eqb (get_or xs n 0) b
unfolding last_is
last_at b [] n e = absurd (omega arith)
last_at b (x ∷ []) zero e = refl
last_at b (x ∷ []) (suc n) e = absurd (omega arith)
last_at b (x ∷ (y ∷ ys)) zero e = absurd (omega arith)
last_at b (x ∷ (y ∷ ys)) (suc n) e = last_at b (y ∷ ys) n (omega arith)

-- the test of the code
pub ends_is : (b : ℕ) (xs : List ℕ) → ends_with nat_eq xs (b ∷ []) ≡ last_is b xs
unfolding last_is
ends_is b [] = refl
ends_is b (x ∷ []) = grind (arith, nat_tests)
ends_is b (x ∷ (y ∷ ys)) =
    let n : length (x ∷ (y ∷ ys)) - 1 ≡ suc (length ys) = omega arith in
    let m : length (y ∷ ys) - 1 ≡ length ys = omega arith in
    ap (λ k. pointwise nat_eq (b ∷ []) (drop k (x ∷ (y ∷ ys)))) n ∙ ap (λ k. pointwise nat_eq (b ∷ []) (drop k (y ∷ ys))) (sym m) ∙ ends_is b (y ∷ ys)

last_ends : (b : ℕ) (xs : List ℕ) → last_is b xs ≡ true → EndsIn b xs
unfolding last_is
last_ends b [] e = absurd (true≢false (sym e))
last_ends b (x ∷ []) e = (0, refl, eqb-true x b e)
last_ends b (x ∷ (y ∷ ys)) e = let t = last_ends b (y ∷ ys) e in (suc t.0, ap suc t.1, t.2)

pub last_decides : (b : ℕ) (xs : List ℕ) (r : Bool) → r ≡ last_is b xs → Decides r (EndsIn b xs)
last_decides b xs r e = ((λ t. last_ends b xs (sym e ∙ t)), (λ t. e ∙ last_at b xs t.0 t.1 ∙ eq-eqb (get_or xs t.0 0) b t.2))
