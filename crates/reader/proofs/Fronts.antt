-- Where nothing is kept behind a place: exactly at byte 0 and right behind an LF.
use Rattle.std.proofs.Common.{◌≡◌, ℕ, zero, suc, ◌-◌, ◌<◌, ◌≤◌, Bool, true, false, inl, inr, eqb, List, [], ◌∷◌, length, get_or, take, Decides, sym, refl, ap, ◌∙◌, ⊎_elim, arith, add-one}
use Rattle.std.proofs.lemmas.List.{take_more}
use Rattle.std.proofs.lemmas.Bool.{cases_Bool, eqb-true, ne_eqb, true≢false}
use Rattle.syntax.specs.Building.{is_empty}
use Rattle.rules.specs.Bytes.{push, pushes, behind_at}
use Rattle.rules.proofs.Whole.{pushes_append}
use Rattle.reader.specs.Rests.{AtFront}

-- one byte more is kept, or none
pub behind_next : (t : List ℕ) (i : ℕ) → i < length t → behind_at t (suc i) ≡ push (get_or t i 0) (behind_at t i)
unfolding pushes
behind_next t i h =
    ap (λ k. behind_at t k) (sym (add-one i)) ∙ ap (λ l. pushes l []) (take_more t i 0 h) ∙ pushes_append (take i t) (get_or t i 0 ∷ []) []

push_none : (x : ℕ) (b : List ℕ) → push x b ≡ [] → x ≡ 10
push_none x b h = ⊎_elim
    (λ e. eqb-true x 10 e)
    (λ e. absurd (let z : x ∷ b ≡ [] = sym (ap (λ t. elim t as (λ _. List ℕ) [ true ↦ [] | false ↦ x ∷ b ]) e) ∙ h in let y = ap length z in omega arith))
    (cases_Bool (eqb x 10))

push_lf : (x : ℕ) (b : List ℕ) → x ≡ 10 → push x b ≡ []
push_lf x b h = ap (λ y. push y b) h

pub front_of : (t : List ℕ) (i : ℕ) → i ≤ length t → behind_at t i ≡ [] → AtFront t i
front_of t zero h e = inl refl
front_of t (suc i) h e =
    let z : suc i - 1 ≡ i = omega arith in
    inr (omega arith, ap (λ k. get_or t k 0) z ∙ push_none (get_or t i 0) (behind_at t i) (sym (behind_next t i h) ∙ e))

pub front_at : (t : List ℕ) (i : ℕ) → i ≤ length t → AtFront t i → behind_at t i ≡ []
unfolding pushes
front_at t zero h f = refl
front_at t (suc i) h (inl e) = absurd (omega arith)
front_at t (suc i) h (inr e) =
    let z : suc i - 1 ≡ i = omega arith in
    behind_next t i h ∙ push_lf (get_or t i 0) (behind_at t i) (ap (λ k. get_or t k 0) (sym z) ∙ e.1)

none_empty : (b : List ℕ) → (b ≡ [] → ⊥) → is_empty b ≡ false
none_empty [] h = absurd (h refl)
none_empty (x ∷ b) h = ne_eqb (length (x ∷ b)) 0 (λ e. omega arith)

-- what is told of a place's front is whether nothing is kept behind it
pub front_told : (t : List ℕ) (i : ℕ) (r : Bool) → i ≤ length t → Decides r (AtFront t i) → r ≡ is_empty (behind_at t i)
front_told t i true h d = sym (ap is_empty (front_at t i h (d.0 refl)))
front_told t i false h d = sym (none_empty (behind_at t i) (λ e. true≢false (sym (d.1 (front_of t i h e)))))
