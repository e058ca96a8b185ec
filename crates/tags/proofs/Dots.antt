-- The newest byte is kept behind, unless it is LF.
use Rattle.std.proofs.Common.{◌≡◌, ℕ, true, false, eqb, List, [], ◌∷◌, refl, ap, ◌∙◌, sym, ⊎_elim, arith}
use Rattle.std.proofs.lemmas.Bool.{cases_Bool, eqb-true, ne_eqb}
use Rattle.rules.specs.Bytes.{push, pushes, last_is}
use Rattle.rules.specs.Tags.{dot_behind}

dot_push : (x : ℕ) (bs : List ℕ) → eqb x 46 ≡ dot_behind (push x bs)
dot_push x bs = sym (⊎_elim
    (λ e. let h = eqb-true x 10 e in ap (λ t. dot_behind (elim t [ true ↦ [] | false ↦ x ∷ bs ])) e ∙ sym (ne_eqb x 46 (λ f. omega arith)))
    (λ e. ap (λ t. dot_behind (elim t [ true ↦ [] | false ↦ x ∷ bs ])) e)
    (cases_Bool (eqb x 10)))

dot_last : (x : ℕ) (xs bs : List ℕ) → last_is 46 (x ∷ xs) ≡ dot_behind (pushes (x ∷ xs) bs)
unfolding last_is pushes
dot_last x [] bs = dot_push x bs
dot_last x (y ∷ ys) bs = dot_last y ys (push x bs)

pub dot_is : (xs : List ℕ) → last_is 46 xs ≡ dot_behind (pushes xs [])
unfolding last_is pushes
dot_is [] = refl
dot_is (x ∷ xs) = dot_last x xs []
