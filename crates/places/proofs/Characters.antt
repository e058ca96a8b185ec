-- A text counts as many characters as it has.
use Rattle.std.proofs.Common.{◌≡◌, ℕ, suc, ◌+◌, ◌/◌, ◌<◌, ◌≤◌, true, false, ltb, List, [], ◌∷◌, ◌++◌, length, refl, ap, ◌∙◌, ⊎_elim, arith}
use lib.Utf8.{next, encode, encodes}
use Rattle.std.proofs.lemmas.Bool.{cases_lt, lt-ltb, le-ltb, cond-true, cond-false}
use Rattle.std.proofs.lemmas.Bool.Decides.{nat_tests}
use Rattle.places.specs.Places.{goes_on, count_chars}

pub count_lead : (b : ℕ) (xs : List ℕ) → goes_on b ≡ false → count_chars (b ∷ xs) ≡ suc (count_chars xs)
unfolding count_chars
count_lead b xs e = ap (λ t. elim t [ true ↦ count_chars xs | false ↦ suc (count_chars xs) ]) e

count_on : (b : ℕ) (xs : List ℕ) → goes_on b ≡ true → count_chars (b ∷ xs) ≡ count_chars xs
unfolding count_chars
count_on b xs e = ap (λ t. elim t [ true ↦ count_chars xs | false ↦ suc (count_chars xs) ]) e

lead_low : (b : ℕ) → b < 128 → goes_on b ≡ false
lead_low b h = grind (arith, nat_tests)

lead_high : (b : ℕ) → 192 ≤ b → goes_on b ≡ false
lead_high b h = grind (arith, nat_tests)

next_on : (n : ℕ) → goes_on (next n) ≡ true
next_on n = on (next n) (omega arith) (omega arith)
  where
    on : (b : ℕ) → 128 ≤ b → b ≤ 191 → goes_on b ≡ true
    on b l h = grind (arith, nat_tests)

-- each width of UTF-8 has one first byte
one : (c : ℕ) (rest : List ℕ) → count_chars (encode c ++ rest) ≡ suc (count_chars rest)
unfolding encode
one c rest =
    ⊎_elim
    (λ h. ap (λ l. count_chars (l ++ rest)) (cond-true (ltb c 128) _ _ (lt-ltb c 128 h)) ∙ count_lead c rest (lead_low c h))
    (λ g. ap (λ l. count_chars (l ++ rest)) (cond-false (ltb c 128) _ _ (le-ltb c 128 g)) ∙ ⊎_elim
    (λ h. ap (λ l. count_chars (l ++ rest)) (cond-true (ltb c 2048) _ _ (lt-ltb c 2048 h)) ∙ count_lead (192 + c / 64) (next c ∷ rest) (lead_high (192 + c / 64) (omega arith)) ∙ ap suc (count_on (next c) rest (next_on c)))
    (λ k. ap (λ l. count_chars (l ++ rest)) (cond-false (ltb c 2048) _ _ (le-ltb c 2048 k)) ∙ ⊎_elim
    (λ h. ap (λ l. count_chars (l ++ rest)) (cond-true (ltb c 65536) _ _ (lt-ltb c 65536 h)) ∙ count_lead (224 + c / 4096) (next (c / 64) ∷ next c ∷ rest) (lead_high (224 + c / 4096) (omega arith))
    ∙ ap suc (count_on (next (c / 64)) (next c ∷ rest) (next_on (c / 64)) ∙ count_on (next c) rest (next_on c)))
    (λ m. ap (λ l. count_chars (l ++ rest)) (cond-false (ltb c 65536) _ _ (le-ltb c 65536 m)) ∙ count_lead (240 + c / 262144) (next (c / 4096) ∷ next (c / 64) ∷ next c ∷ rest) (lead_high (240 + c / 262144) (omega arith))
    ∙ ap suc (count_on (next (c / 4096)) (next (c / 64) ∷ next c ∷ rest) (next_on (c / 4096)) ∙ count_on (next (c / 64)) (next c ∷ rest) (next_on (c / 64)) ∙ count_on (next c) rest (next_on c)))
    (cases_lt c 65536))
    (cases_lt c 2048))
    (cases_lt c 128)

pub counts_characters : (cs : List ℕ) → count_chars (encodes cs) ≡ length cs
unfolding count_chars
counts_characters [] = refl
counts_characters (c ∷ cs) = one c (encodes cs) ∙ ap suc (counts_characters cs)
