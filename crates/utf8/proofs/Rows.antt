-- What the table says of a sequence by its first byte.
use Rattle.std.proofs.Common.{◌≡◌, ℕ, ◌≤◌, true, false, leb, ◌⊎◌, List, [], ◌∷◌, length, sym, refl, ap, ◌∙◌, inl, inr, ⊎_elim, arith}
use Rattle.std.proofs.lemmas.Bool.{cases_Bool, both_ways, and_parts, leb-true}
use Rattle.std.proofs.lemmas.Bool.Decides.{nat_tests}
use Rattle.utf8.specs.Utf8.{Range, table, within, fits, width_by, width}

-- the ranges hold the bytes, as facts
abbrev pub Fit : List Range → List ℕ → Type 0
Fit [] xs = Unit {0}
Fit (r ∷ rs) [] = ⊥
Fit (r ∷ rs) (x ∷ xs) = (r.0 ≤ x) × (x ≤ r.1) × Fit rs xs

pub fit_true : (rs : List Range) (xs : List ℕ) → fits rs xs ≡ true → Fit rs xs
unfolding fits
fit_true [] xs e = tt
fit_true (r ∷ rs) [] e = both_ways false refl e
fit_true (r ∷ rs) (x ∷ xs) e = ⊎_elim
    (λ t. let p = and_parts (leb r.0 x) (leb x r.1) t in
    (leb-true r.0 x p.0, leb-true x r.1 p.1, fit_true rs xs (sym (ap (λ b. elim b [ true ↦ fits rs xs | false ↦ false ]) t) ∙ e)))
    (λ t. absurd (both_ways false refl (sym (ap (λ b. elim b [ true ↦ fits rs xs | false ↦ false ]) t) ∙ e)))
    (cases_Bool (within r x))

-- one byte is a sequence by itself
pub lead_00 : (a : ℕ) (bs : List ℕ) → a ≤ 127 → width (a ∷ bs) ≡ 1
unfolding table fits width_by
lead_00 a bs h = grind (arith, nat_tests)

-- the bytes after the first of a sequence
abbrev pub Follows : ℕ → Type 0
Follows b = (128 ≤ b) × (b ≤ 191)

-- the well-formed sequence at the front, byte by byte, or none
pub data Sequence (xs : List ℕ) : Type 0 where
  of0 : width xs ≡ 0 → Sequence xs
  of1 : (a : ℕ) (rest : List ℕ) → xs ≡ a ∷ rest → a ≤ 127 → width xs ≡ 1 → Sequence xs
  of2 : (a b : ℕ) (rest : List ℕ) → xs ≡ a ∷ b ∷ rest → 194 ≤ a → a ≤ 223 → Follows b → width xs ≡ 2 → Sequence xs
  of3 : (a b d : ℕ) (rest : List ℕ) → xs ≡ a ∷ b ∷ d ∷ rest → 224 ≤ a → a ≤ 239 → Follows b → Follows d → (a ≤ 224 → 160 ≤ b) → (a ≡ 237 → b ≤ 159) → width xs ≡ 3 → Sequence xs
  of4 : (a b d e : ℕ) (rest : List ℕ) → xs ≡ a ∷ b ∷ d ∷ e ∷ rest → 240 ≤ a → a ≤ 244 → Follows b → Follows d → Follows e → (a ≤ 240 → 144 ≤ b) → (244 ≤ a → b ≤ 143) → width xs ≡ 4 → Sequence xs

-- the first row fits, or it says nothing
by_row : (row : List Range) (rows : List (List Range)) (xs : List ℕ) → ((Fit row xs) × (width_by (row ∷ rows) xs ≡ length row)) ⊎ (width_by (row ∷ rows) xs ≡ width_by rows xs)
unfolding width_by
by_row row rows xs = ⊎_elim
    (λ t. inl (fit_true row xs t, ap (λ b. elim b [ true ↦ length row | false ↦ width_by rows xs ]) t))
    (λ t. inr (ap (λ b. elim b [ true ↦ length row | false ↦ width_by rows xs ]) t))
    (cases_Bool (fits row xs))

two_bytes : (r₁ r₂ : Range) (xs : List ℕ) → Fit (r₁ ∷ r₂ ∷ []) xs → width xs ≡ 2 → 194 ≤ r₁.0 → r₁.1 ≤ 223 → 128 ≤ r₂.0 → r₂.1 ≤ 191 → Sequence xs
two_bytes r₁ r₂ [] f w h₁ h₂ h₃ h₄ = absurd f
two_bytes r₁ r₂ (a ∷ []) f w h₁ h₂ h₃ h₄ = absurd f.2
two_bytes r₁ r₂ (a ∷ (b ∷ rest)) f w h₁ h₂ h₃ h₄ = of2 a b rest refl (omega arith) (omega arith) (omega arith, omega arith) w

three_bytes : (r₁ r₂ : Range) (xs : List ℕ) → Fit (r₁ ∷ r₂ ∷ (128, 191) ∷ []) xs → width xs ≡ 3 → 224 ≤ r₁.0 → r₁.1 ≤ 239 → 128 ≤ r₂.0 → r₂.1 ≤ 191 → (r₁.0 ≤ 224 → 160 ≤ r₂.0) → (r₁.0 ≤ 237 → 237 ≤ r₁.1 → r₂.1 ≤ 159) → Sequence xs
three_bytes r₁ r₂ [] f w h₁ h₂ h₃ h₄ h₅ h₆ = absurd f
three_bytes r₁ r₂ (a ∷ []) f w h₁ h₂ h₃ h₄ h₅ h₆ = absurd f.2
three_bytes r₁ r₂ (a ∷ (b ∷ [])) f w h₁ h₂ h₃ h₄ h₅ h₆ = absurd f.2.2
three_bytes r₁ r₂ (a ∷ (b ∷ (d ∷ rest))) f w h₁ h₂ h₃ h₄ h₅ h₆ =
    of3 a b d rest refl (omega arith) (omega arith) (omega arith, omega arith) (omega arith, omega arith) (λ t. let q = h₅ (omega arith) in omega arith) (λ t. let q = h₆ (omega arith) (omega arith) in omega arith) w

four_bytes : (r₁ r₂ : Range) (xs : List ℕ) → Fit (r₁ ∷ r₂ ∷ (128, 191) ∷ (128, 191) ∷ []) xs → width xs ≡ 4 → 240 ≤ r₁.0 → r₁.1 ≤ 244 → 128 ≤ r₂.0 → r₂.1 ≤ 191 → (r₁.0 ≤ 240 → 144 ≤ r₂.0) → (244 ≤ r₁.1 → r₂.1 ≤ 143) → Sequence xs
four_bytes r₁ r₂ [] f w h₁ h₂ h₃ h₄ h₅ h₆ = absurd f
four_bytes r₁ r₂ (a ∷ []) f w h₁ h₂ h₃ h₄ h₅ h₆ = absurd f.2
four_bytes r₁ r₂ (a ∷ (b ∷ [])) f w h₁ h₂ h₃ h₄ h₅ h₆ = absurd f.2.2
four_bytes r₁ r₂ (a ∷ (b ∷ (d ∷ []))) f w h₁ h₂ h₃ h₄ h₅ h₆ = absurd f.2.2.2
four_bytes r₁ r₂ (a ∷ (b ∷ (d ∷ (e ∷ rest)))) f w h₁ h₂ h₃ h₄ h₅ h₆ =
    of4 a b d e rest refl (omega arith) (omega arith) (omega arith, omega arith) (omega arith, omega arith) (omega arith, omega arith) (λ t. let q = h₅ (omega arith) in omega arith) (λ t. let q = h₆ (omega arith) in omega arith) w

one_byte : (xs : List ℕ) → Fit ((0, 127) ∷ []) xs → width xs ≡ 1 → Sequence xs
one_byte [] f w = absurd f
one_byte (a ∷ rest) f w = of1 a rest refl f.1 w

pub sequence : (xs : List ℕ) → Sequence xs
unfolding table width_by
sequence xs =
    ⊎_elim (λ h. one_byte xs h.0 h.1) (λ e0.
    ⊎_elim (λ h. two_bytes (194, 223) (128, 191) xs h.0 (e0 ∙ h.1) (omega arith) (omega arith) (omega arith) (omega arith)) (λ e1.
    ⊎_elim (λ h. three_bytes (224, 224) (160, 191) xs h.0 (e0 ∙ e1 ∙ h.1) (omega arith) (omega arith) (omega arith) (omega arith) (λ t. omega arith) (λ t u. omega arith)) (λ e2.
    ⊎_elim (λ h. three_bytes (225, 236) (128, 191) xs h.0 (e0 ∙ e1 ∙ e2 ∙ h.1) (omega arith) (omega arith) (omega arith) (omega arith) (λ t. omega arith) (λ t u. omega arith)) (λ e3.
    ⊎_elim (λ h. three_bytes (237, 237) (128, 159) xs h.0 (e0 ∙ e1 ∙ e2 ∙ e3 ∙ h.1) (omega arith) (omega arith) (omega arith) (omega arith) (λ t. omega arith) (λ t u. omega arith)) (λ e4.
    ⊎_elim (λ h. three_bytes (238, 239) (128, 191) xs h.0 (e0 ∙ e1 ∙ e2 ∙ e3 ∙ e4 ∙ h.1) (omega arith) (omega arith) (omega arith) (omega arith) (λ t. omega arith) (λ t u. omega arith)) (λ e5.
    ⊎_elim (λ h. four_bytes (240, 240) (144, 191) xs h.0 (e0 ∙ e1 ∙ e2 ∙ e3 ∙ e4 ∙ e5 ∙ h.1) (omega arith) (omega arith) (omega arith) (omega arith) (λ t. omega arith) (λ t. omega arith)) (λ e6.
    ⊎_elim (λ h. four_bytes (241, 243) (128, 191) xs h.0 (e0 ∙ e1 ∙ e2 ∙ e3 ∙ e4 ∙ e5 ∙ e6 ∙ h.1) (omega arith) (omega arith) (omega arith) (omega arith) (λ t. omega arith) (λ t. omega arith)) (λ e7.
    ⊎_elim (λ h. four_bytes (244, 244) (128, 143) xs h.0 (e0 ∙ e1 ∙ e2 ∙ e3 ∙ e4 ∙ e5 ∙ e6 ∙ e7 ∙ h.1) (omega arith) (omega arith) (omega arith) (omega arith) (λ t. omega arith) (λ t. omega arith)) (λ e8.
    of0 (e0 ∙ e1 ∙ e2 ∙ e3 ∙ e4 ∙ e5 ∙ e6 ∙ e7 ∙ e8))
    (by_row ((244, 244) ∷ (128, 143) ∷ (128, 191) ∷ (128, 191) ∷ []) ([]) xs))
    (by_row ((241, 243) ∷ (128, 191) ∷ (128, 191) ∷ (128, 191) ∷ []) (((244, 244) ∷ (128, 143) ∷ (128, 191) ∷ (128, 191) ∷ []) ∷ []) xs))
    (by_row ((240, 240) ∷ (144, 191) ∷ (128, 191) ∷ (128, 191) ∷ []) (((241, 243) ∷ (128, 191) ∷ (128, 191) ∷ (128, 191) ∷ []) ∷ ((244, 244) ∷ (128, 143) ∷ (128, 191) ∷ (128, 191) ∷ []) ∷ []) xs))
    (by_row ((238, 239) ∷ (128, 191) ∷ (128, 191) ∷ []) (((240, 240) ∷ (144, 191) ∷ (128, 191) ∷ (128, 191) ∷ []) ∷ ((241, 243) ∷ (128, 191) ∷ (128, 191) ∷ (128, 191) ∷ []) ∷ ((244, 244) ∷ (128, 143) ∷ (128, 191) ∷ (128, 191) ∷ []) ∷ []) xs))
    (by_row ((237, 237) ∷ (128, 159) ∷ (128, 191) ∷ []) (((238, 239) ∷ (128, 191) ∷ (128, 191) ∷ []) ∷ ((240, 240) ∷ (144, 191) ∷ (128, 191) ∷ (128, 191) ∷ []) ∷ ((241, 243) ∷ (128, 191) ∷ (128, 191) ∷ (128, 191) ∷ []) ∷ ((244, 244) ∷ (128, 143) ∷ (128, 191) ∷ (128, 191) ∷ []) ∷ []) xs))
    (by_row ((225, 236) ∷ (128, 191) ∷ (128, 191) ∷ []) (((237, 237) ∷ (128, 159) ∷ (128, 191) ∷ []) ∷ ((238, 239) ∷ (128, 191) ∷ (128, 191) ∷ []) ∷ ((240, 240) ∷ (144, 191) ∷ (128, 191) ∷ (128, 191) ∷ []) ∷ ((241, 243) ∷ (128, 191) ∷ (128, 191) ∷ (128, 191) ∷ []) ∷ ((244, 244) ∷ (128, 143) ∷ (128, 191) ∷ (128, 191) ∷ []) ∷ []) xs))
    (by_row ((224, 224) ∷ (160, 191) ∷ (128, 191) ∷ []) (((225, 236) ∷ (128, 191) ∷ (128, 191) ∷ []) ∷ ((237, 237) ∷ (128, 159) ∷ (128, 191) ∷ []) ∷ ((238, 239) ∷ (128, 191) ∷ (128, 191) ∷ []) ∷ ((240, 240) ∷ (144, 191) ∷ (128, 191) ∷ (128, 191) ∷ []) ∷ ((241, 243) ∷ (128, 191) ∷ (128, 191) ∷ (128, 191) ∷ []) ∷ ((244, 244) ∷ (128, 143) ∷ (128, 191) ∷ (128, 191) ∷ []) ∷ []) xs))
    (by_row ((194, 223) ∷ (128, 191) ∷ []) (((224, 224) ∷ (160, 191) ∷ (128, 191) ∷ []) ∷ ((225, 236) ∷ (128, 191) ∷ (128, 191) ∷ []) ∷ ((237, 237) ∷ (128, 159) ∷ (128, 191) ∷ []) ∷ ((238, 239) ∷ (128, 191) ∷ (128, 191) ∷ []) ∷ ((240, 240) ∷ (144, 191) ∷ (128, 191) ∷ (128, 191) ∷ []) ∷ ((241, 243) ∷ (128, 191) ∷ (128, 191) ∷ (128, 191) ∷ []) ∷ ((244, 244) ∷ (128, 143) ∷ (128, 191) ∷ (128, 191) ∷ []) ∷ []) xs))
    (by_row ((0, 127) ∷ []) (((194, 223) ∷ (128, 191) ∷ []) ∷ ((224, 224) ∷ (160, 191) ∷ (128, 191) ∷ []) ∷ ((225, 236) ∷ (128, 191) ∷ (128, 191) ∷ []) ∷ ((237, 237) ∷ (128, 159) ∷ (128, 191) ∷ []) ∷ ((238, 239) ∷ (128, 191) ∷ (128, 191) ∷ []) ∷ ((240, 240) ∷ (144, 191) ∷ (128, 191) ∷ (128, 191) ∷ []) ∷ ((241, 243) ∷ (128, 191) ∷ (128, 191) ∷ (128, 191) ∷ []) ∷ ((244, 244) ∷ (128, 143) ∷ (128, 191) ∷ (128, 191) ∷ []) ∷ []) xs)

-- and back: such bytes are a sequence of that width
pub width_2 : (a b : ℕ) (rest : List ℕ) → 194 ≤ a → a ≤ 223 → Follows b → width (a ∷ b ∷ rest) ≡ 2
unfolding table fits width_by
width_2 a b rest g h f = grind (arith, nat_tests)

pub width_3 : (a b d : ℕ) (rest : List ℕ) → 224 ≤ a → a ≤ 239 → Follows b → Follows d → (a ≤ 224 → 160 ≤ b) → (a ≡ 237 → b ≤ 159) → width (a ∷ b ∷ d ∷ rest) ≡ 3
unfolding table fits width_by
width_3 a b d rest g h f k l u = grind (arith, nat_tests)

pub width_4 : (a b d e : ℕ) (rest : List ℕ) → 240 ≤ a → a ≤ 244 → Follows b → Follows d → Follows e → (a ≤ 240 → 144 ≤ b) → (244 ≤ a → b ≤ 143) → width (a ∷ b ∷ d ∷ e ∷ rest) ≡ 4
unfolding table fits width_by
width_4 a b d e rest g h f k m l u = grind (arith, nat_tests)
