-- The laws of stands_at.
use Rattle.std.proofs.Common.{◌≡◌, ℕ, ◌≤◌, Bool, true, false, eqb, List, [], ◌∷◌, ◌++◌, length, drop, Decides, sym, refl, ap, ◌∙◌, ⊎_elim, arith}
use Rattle.std.proofs.lemmas.List.{length-append}
use Rattle.std.proofs.lemmas.Bool.{eq-eqb, ne_eqb, eqb-true, cases_Bool, both_ways, false≢true}
use Rattle.std.proofs.lemmas.Bool.Decides.{same_from_decides}
use Rattle.byte_search.specs.Search.{stands_at}

pub stands_same : (d x : ℕ) (ds xs : List ℕ) → d ≡ x → stands_at (d ∷ ds) (x ∷ xs) ≡ stands_at ds xs
unfolding stands_at
stands_same d x ds xs e = rw (eq-eqb d x e, stands_at) refl

pub stands_other : (d x : ℕ) (ds xs : List ℕ) → (d ≡ x → ⊥) → stands_at (d ∷ ds) (x ∷ xs) ≡ false
unfolding stands_at
stands_other d x ds xs e = rw (ne_eqb d x e, stands_at) refl

-- a list begins with each of its fronts
pub stands_append : (ds rest : List ℕ) → stands_at ds (ds ++ rest) ≡ true
unfolding stands_at
stands_append [] rest = refl
stands_append (d ∷ ds) rest = stands_same d d ds (ds ++ rest) refl ∙ stands_append ds rest

-- what begins with `ds` is `ds` and a rest
pub stands_split : (ds xs : List ℕ) → stands_at ds xs ≡ true → xs ≡ ds ++ drop (length ds) xs
unfolding stands_at
stands_split [] xs e = refl
stands_split (d ∷ ds) [] e = absurd (false≢true e)
stands_split (d ∷ ds) (x ∷ xs) e = ⊎_elim
    (λ f. let g : d ≡ x = eqb-true d x f in
    let s = stands_split ds xs (sym (stands_same d x ds xs g) ∙ e) in cc)
    (λ f. absurd (both_ways (stands_at (d ∷ ds) (x ∷ xs)) (ap (λ t. elim t [ true ↦ stands_at ds xs | false ↦ false ]) f) e))
    (cases_Bool (eqb d x))

-- `stands_at` in words
pub stands_decides : (ds xs : List ℕ) → Decides (stands_at ds xs) ((rest : List ℕ) × (xs ≡ ds ++ rest))
stands_decides ds xs = (λ e. (drop (length ds) xs, stands_split ds xs e), λ p. ap (stands_at ds) p.1 ∙ stands_append ds p.0)

-- what stands at a place fits behind it
pub stands_fits : (ds xs : List ℕ) → stands_at ds xs ≡ true → length ds ≤ length xs
stands_fits ds xs e = omega (arith, ap length (stands_split ds xs e), length-append ds (drop (length ds) xs))

-- an answer that decides whether `ds` stands is stands_at
pub stands_by : (r : Bool) (ds xs : List ℕ) → Decides r ((rest : List ℕ) × (xs ≡ ds ++ rest)) → r ≡ stands_at ds xs
stands_by r ds xs d = same_from_decides r (stands_at ds xs) d (stands_decides ds xs)

-- a test at what is left of the bytes
pub stands_told : (ds ys zs : List ℕ) (r t : Bool) → ys ≡ zs → r ≡ stands_at ds ys → r ≡ t → stands_at ds zs ≡ t
stands_told ds ys zs r t e f g = ap (stands_at ds) (sym e) ∙ sym f ∙ g
