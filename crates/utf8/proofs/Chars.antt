-- The character at the front is the scalar value that is encoded there.
use Rattle.std.proofs.Common.{◌≡◌, ℕ, ◌+◌, ◌-◌, ◌*◌, ◌/◌, ◌<◌, ◌≤◌, true, ltb, List, [], ◌∷◌, ◌++◌, length, take, Some, None, Option, sym, refl, ap, ◌∙◌, subst, ⊎_elim, arith}
use lib.Utf8.{scalar, encode, next, scalar_cases}
use Rattle.std.proofs.lemmas.Bool.{cases_lt, cond-true, cond-false, lt-ltb, le-ltb}
use Rattle.std.proofs.lemmas.Str.{encode_ascii}
use Rattle.std.proofs.lemmas.Bool.Decides.{nat_tests}
use Rattle.utf8.specs.declared.Char.{Char}
use Rattle.utf8.specs.Utf8.{char_of, char_at}
use Rattle.utf8.proofs.Rows.{Follows, Sequence, of0, of1, of2, of3, of4, sequence, lead_00, width_2, width_3, width_4}

encode_2 : (c : ℕ) → 128 ≤ c → c < 2048 → encode c ≡ (192 + c / 64) ∷ next c ∷ []
unfolding encode
encode_2 c l h = cond-false (ltb c 128) _ _ (le-ltb c 128 l) ∙ cond-true (ltb c 2048) _ _ (lt-ltb c 2048 h)

encode_3 : (c : ℕ) → 2048 ≤ c → c < 65536 → encode c ≡ (224 + c / 4096) ∷ next (c / 64) ∷ next c ∷ []
unfolding encode
encode_3 c l h = cond-false (ltb c 128) _ _ (le-ltb c 128 (omega arith)) ∙ cond-false (ltb c 2048) _ _ (le-ltb c 2048 l) ∙ cond-true (ltb c 65536) _ _ (lt-ltb c 65536 h)

encode_4 : (c : ℕ) → 65536 ≤ c → encode c ≡ (240 + c / 262144) ∷ next (c / 4096) ∷ next (c / 64) ∷ next c ∷ []
unfolding encode
encode_4 c l = cond-false (ltb c 128) _ _ (le-ltb c 128 (omega arith)) ∙ cond-false (ltb c 2048) _ _ (le-ltb c 2048 (omega arith)) ∙ cond-false (ltb c 65536) _ _ (le-ltb c 65536 l)

pub low_scalar : (c : ℕ) → c < 55296 → scalar c ≡ true
low_scalar c h = grind (arith, nat_tests)

pub high_scalar : (c : ℕ) → 57344 ≤ c → c < 1114112 → scalar c ≡ true
high_scalar c g h = grind (arith, nat_tests)

-- what a character at the front says
abbrev pub Good : List ℕ → Option Char → Type 0
Good xs None = Unit {0}
Good xs (Some c) = (0 < c.width) × (c.width ≤ length xs) × (scalar c.code ≡ true) × (take c.width xs ≡ encode c.code)

good_1 : (a : ℕ) (rest : List ℕ) → a ≤ 127 → Good (a ∷ rest) (char_of 1 (a ∷ rest))
good_1 a rest h = (omega arith, omega arith, low_scalar a (omega arith), sym (encode_ascii a (omega arith)))

good_2 : (a b : ℕ) (rest : List ℕ) → 194 ≤ a → a ≤ 223 → Follows b → Good (a ∷ b ∷ rest) (char_of 2 (a ∷ b ∷ rest))
good_2 a b rest g h f =
    let c : ℕ = (a - 192) * 64 + (b - 128) in
    let p : a ≡ 192 + c / 64 = omega arith in
    let q : b ≡ next c = omega arith in
    (omega arith, omega arith, low_scalar c (omega arith), (λ k. p k ∷ q k ∷ []) ∙ sym (encode_2 c (omega arith) (omega arith)))

good_3 : (a b d : ℕ) (rest : List ℕ) → 224 ≤ a → a ≤ 239 → Follows b → Follows d → (a ≤ 224 → 160 ≤ b) → (a ≡ 237 → b ≤ 159) → Good (a ∷ b ∷ d ∷ rest) (char_of 3 (a ∷ b ∷ d ∷ rest))
good_3 a b d rest g h f k l u =
    let c : ℕ = (a - 224) * 4096 + (b - 128) * 64 + (d - 128) in
    let p : a ≡ 224 + c / 4096 = omega arith in
    let z : c / 64 ≡ (a - 224) * 64 + (b - 128) = omega arith in
    let q : b ≡ next (c / 64) = subst (λ (m : ℕ). b ≡ next m) (sym z) (omega arith) in
    let r : d ≡ next c = omega arith in
    let low : 2048 ≤ c = ⊎_elim (λ t. let z = l (omega arith) in omega arith) (λ t. omega arith) (cases_lt a 225) in
    let sc : scalar c ≡ true =
    ⊎_elim (λ t. low_scalar c (omega arith)) (λ t. ⊎_elim (λ v. let z = u (omega arith) in low_scalar c (omega arith)) (λ v. high_scalar c (omega arith) (omega arith)) (cases_lt a 238)) (cases_lt a 237) in
    (omega arith, omega arith, sc, (λ k. p k ∷ q k ∷ r k ∷ []) ∙ sym (encode_3 c low (omega arith)))

good_4 : (a b d e : ℕ) (rest : List ℕ) → 240 ≤ a → a ≤ 244 → Follows b → Follows d → Follows e → (a ≤ 240 → 144 ≤ b) → (244 ≤ a → b ≤ 143) → Good (a ∷ b ∷ d ∷ e ∷ rest) (char_of 4 (a ∷ b ∷ d ∷ e ∷ rest))
good_4 a b d e rest g h f k m l u =
    let c : ℕ = (a - 240) * 262144 + (b - 128) * 4096 + (d - 128) * 64 + (e - 128) in
    let p : a ≡ 240 + c / 262144 = omega arith in
    let y : c / 4096 ≡ (a - 240) * 64 + (b - 128) = omega arith in
    let q : b ≡ next (c / 4096) = subst (λ (m : ℕ). b ≡ next m) (sym y) (omega arith) in
    let z : c / 64 ≡ (a - 240) * 4096 + (b - 128) * 64 + (d - 128) = omega arith in
    let r : d ≡ next (c / 64) = subst (λ (m : ℕ). d ≡ next m) (sym z) (omega arith) in
    let t : e ≡ next c = omega arith in
    let low : 65536 ≤ c = ⊎_elim (λ t. let z = l (omega arith) in omega arith) (λ t. omega arith) (cases_lt a 241) in
    let high : c < 1114112 = ⊎_elim (λ t. omega arith) (λ t. let z = u (omega arith) in omega arith) (cases_lt a 244) in
    (omega arith, omega arith, high_scalar c (omega arith) high, (λ k. p k ∷ q k ∷ r k ∷ t k ∷ []) ∙ sym (encode_4 c low))

good_by : (xs : List ℕ) → Sequence xs → Good xs (char_at xs)
good_by xs (of0 w) = subst (λ n. Good xs (char_of n xs)) (sym w) tt
good_by xs (of1 a rest e h w) = subst (λ n. Good xs (char_of n xs)) (sym w) (subst (λ l. Good l (char_of 1 l)) (sym e) (good_1 a rest h))
good_by xs (of2 a b rest e g h f w) = subst (λ n. Good xs (char_of n xs)) (sym w) (subst (λ l. Good l (char_of 2 l)) (sym e) (good_2 a b rest g h f))
good_by xs (of3 a b d rest e g h f k l u w) = subst (λ n. Good xs (char_of n xs)) (sym w) (subst (λ l. Good l (char_of 3 l)) (sym e) (good_3 a b d rest g h f k l u))
good_by xs (of4 a b d x rest e g h f k m l u w) = subst (λ n. Good xs (char_of n xs)) (sym w) (subst (λ l. Good l (char_of 4 l)) (sym e) (good_4 a b d x rest g h f k m l u))

pub good : (xs : List ℕ) → Good xs (char_at xs)
good xs = good_by xs (sequence xs)

-- the encoding of a scalar value is a sequence of the table
abbrev pub made : ℕ → ℕ → Option Char
made c n = Some (record { code = c; width = n })

encoded_by : (c : ℕ) (bs rest : List ℕ) → encode c ≡ bs → char_at (bs ++ rest) ≡ made c (length bs) → char_at (encode c ++ rest) ≡ made c (length (encode c))
encoded_by c bs rest e h = ap (λ l. char_at (l ++ rest)) e ∙ h ∙ ap (λ l. made c (length l)) (sym e)

below : (c : ℕ) → scalar c ≡ true → c < 1114112
below c s = ⊎_elim (λ h. omega arith) (λ h. h.1) (scalar_cases c s)

encoded_1 : (c : ℕ) (rest : List ℕ) → c < 128 → char_at (encode c ++ rest) ≡ made c (length (encode c))
encoded_1 c rest h = encoded_by c (c ∷ []) rest (encode_ascii c h) (ap (λ n. char_of n (c ∷ rest)) (lead_00 c rest (omega arith)))

encoded_2 : (c : ℕ) (rest : List ℕ) → 128 ≤ c → c < 2048 → char_at (encode c ++ rest) ≡ made c (length (encode c))
encoded_2 c rest g h =
    let a : ℕ = 192 + c / 64 in
    let b : ℕ = next c in
    let z : (a - 192) * 64 + (b - 128) ≡ c = omega arith in
    encoded_by c (a ∷ b ∷ []) rest (encode_2 c g h) (ap (λ n. char_of n (a ∷ b ∷ rest)) (width_2 a b rest (omega arith) (omega arith) (omega arith, omega arith)) ∙ ap (λ x. made x 2) z)

encoded_3 : (c : ℕ) (rest : List ℕ) → 2048 ≤ c → c < 65536 → scalar c ≡ true → char_at (encode c ++ rest) ≡ made c (length (encode c))
encoded_3 c rest g h s =
    let a : ℕ = 224 + c / 4096 in
    let b : ℕ = next (c / 64) in
    let d : ℕ = next c in
    let z : (a - 224) * 4096 + (b - 128) * 64 + (d - 128) ≡ c = omega arith in
    let u : a ≡ 237 → b ≤ 159 = λ t. ⊎_elim (λ v. omega arith) (λ v. absurd (omega arith)) (scalar_cases c s) in
    encoded_by c (a ∷ b ∷ d ∷ []) rest (encode_3 c g h)
    (ap (λ n. char_of n (a ∷ b ∷ d ∷ rest)) (width_3 a b d rest (omega arith) (omega arith) (omega arith, omega arith) (omega arith, omega arith) (λ t. omega arith) u) ∙ ap (λ x. made x 3) z)

joined_4 : (c m n k : ℕ) → m ≡ c / 64 → n ≡ m / 64 → k ≡ n / 64 → (240 + k - 240) * 262144 + (next n - 128) * 4096 + (next m - 128) * 64 + (next c - 128) ≡ c
joined_4 c m n k p q r = omega arith

encoded_4 : (c : ℕ) (rest : List ℕ) → 65536 ≤ c → c < 1114112 → char_at (encode c ++ rest) ≡ made c (length (encode c))
encoded_4 c rest g h =
    let a : ℕ = 240 + c / 262144 in
    let b : ℕ = next (c / 4096) in
    let d : ℕ = next (c / 64) in
    let e : ℕ = next c in
    let z : (a - 240) * 262144 + (b - 128) * 4096 + (d - 128) * 64 + (e - 128) ≡ c = joined_4 c (c / 64) (c / 4096) (c / 262144) refl (omega arith) (omega arith) in
    encoded_by c (a ∷ b ∷ d ∷ e ∷ []) rest (encode_4 c g)
    (ap (λ n. char_of n (a ∷ b ∷ d ∷ e ∷ rest)) (width_4 a b d e rest (omega arith) (omega arith) (omega arith, omega arith) (omega arith, omega arith) (omega arith, omega arith) (λ t. omega arith) (λ t. omega arith)) ∙ ap (λ x. made x 4) z)

pub encoded : (c : ℕ) (rest : List ℕ) → scalar c ≡ true → char_at (encode c ++ rest) ≡ made c (length (encode c))
encoded c rest s =
    ⊎_elim (λ h. encoded_1 c rest h)
    (λ g. ⊎_elim (λ h. encoded_2 c rest g h)
    (λ g'. ⊎_elim (λ h. encoded_3 c rest g' h s) (λ g''. encoded_4 c rest g'' (below c s)) (cases_lt c 65536))
    (cases_lt c 2048))
    (cases_lt c 128)
