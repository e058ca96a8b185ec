-- Digits, and the bytes that they write.
use Rattle.std.proofs.Common.{◌≡◌, ℕ, zero, suc, ◌+◌, ◌*◌, ◌/◌, ◌%◌, ◌≢◌, ◌<◌, ◌≤◌, List, [], ◌∷◌, ◌++◌, length, get_or, take, drop, Some, None, Option, sym, refl, ap, ◌∙◌, arith}
use Rattle.std.proofs.lemmas.List.{append-nil, append_assoc, drop_more, drop_all, take_more, flat_map_more}
use Rattle.std.specs.List.{flat_map}
use Rattle.std.specs.Simd.{first_chunks}
use Rattle.escape.specs.Escapes.{hex_value}
use Rattle.hex_fields.specs.Hex.{byte_text, hex_text, byte_of, before, unhex}

-- bytes before others
abbrev pub joined : List ℕ → Option (List ℕ) → Option (List ℕ)
joined bs None = None
joined bs (Some ys) = Some (bs ++ ys)

-- the bytes that pairs of digits write, none where one is no digit
abbrev pub read_pairs : List (List ℕ) → Option (List ℕ)
read_pairs [] = Some []
read_pairs (p ∷ ps) = before (byte_of (hex_value (get_or p 0 0)) (hex_value (get_or p 1 0))) (read_pairs ps)

-- digits are read pair by pair
by_pairs : (k : ℕ) (xs : List ℕ) → length xs ≡ k * 2 → unhex xs ≡ read_pairs (first_chunks 2 k xs)
unfolding unhex
by_pairs zero [] e = refl
by_pairs zero (x ∷ xs) e = absurd (omega arith)
by_pairs (suc k) [] e = absurd (omega arith)
by_pairs (suc k) (x ∷ []) e = absurd (omega arith)
by_pairs (suc k) (h ∷ (l ∷ xs)) e = ap (before (byte_of (hex_value h) (hex_value l))) (by_pairs k xs (omega arith))

before_none : (o : Option ℕ) → before o None ≡ None
before_none None = refl
before_none (Some b) = refl

one_too_many : (k : ℕ) (xs : List ℕ) → length xs ≡ k * 2 + 1 → unhex xs ≡ None
unfolding unhex
one_too_many k [] e = absurd (omega arith)
one_too_many k (x ∷ []) e = refl
one_too_many zero (h ∷ (l ∷ xs)) e = absurd (omega arith)
one_too_many (suc k) (h ∷ (l ∷ xs)) e = ap (before (byte_of (hex_value h) (hex_value l))) (one_too_many k xs (omega arith)) ∙ before_none (byte_of (hex_value h) (hex_value l))

pub read_even : (xs : List ℕ) → length xs % 2 ≡ 0 → unhex xs ≡ read_pairs (first_chunks 2 (length xs / 2) xs)
read_even xs e = by_pairs (length xs / 2) xs (omega arith)

pub read_odd : (xs : List ℕ) → length xs % 2 ≢ 0 → unhex xs ≡ None
read_odd xs e = one_too_many (length xs / 2) xs (omega arith)

-- what was read, with what is still to read, is the whole
abbrev pub Reading : List (List ℕ) → ℕ → List ℕ → Type 0
Reading ps i bs = read_pairs ps ≡ joined bs (read_pairs (drop i ps))

pub reading_bad : (ps : List (List ℕ)) (i : ℕ) (bs : List ℕ) → i < length ps → None ≡ byte_of (hex_value (get_or (get_or ps i []) 0 0)) (hex_value (get_or (get_or ps i []) 1 0)) → Reading ps i bs → read_pairs ps ≡ None
reading_bad ps i bs h e r = r ∙ ap (λ l. joined bs (read_pairs l)) (drop_more ps i [] h) ∙ ap (λ o. joined bs (before o (read_pairs (drop (i + 1) ps)))) (sym e)

pub reading_all : (ps : List (List ℕ)) (i : ℕ) (bs : List ℕ) → length ps ≤ i → Reading ps i bs → read_pairs ps ≡ Some bs
reading_all ps i bs h r = r ∙ ap (λ l. joined bs (read_pairs l)) (drop_all i ps h) ∙ ap Some (append-nil bs)

pub one_byte : (xs : List ℕ) (b : ℕ) → length xs ≡ 1 → get_or xs 0 0 ≡ b → xs ≡ b ∷ []
one_byte [] b l e = absurd (omega arith)
one_byte (x ∷ []) b l e = ap (λ y. y ∷ []) e
one_byte (x ∷ (y ∷ ys)) b l e = absurd (omega arith)

-- a space and one byte more
pub text_more : (b : ℕ) (bs : List ℕ) (i : ℕ) → i < length bs → (hex_text (b ∷ take i bs) ++ (32 ∷ [])) ++ byte_text (get_or bs i 0) ≡ hex_text (b ∷ take (i + 1) bs)
text_more b bs i h =
    append_assoc (hex_text (b ∷ take i bs)) (32 ∷ []) (byte_text (get_or bs i 0))
    ∙ flat_map_more (λ c. 32 ∷ byte_text c) (byte_text b) (take i bs) (get_or bs i 0)
    ∙ ap (λ xs. byte_text b ++ flat_map (λ c. 32 ∷ byte_text c) xs) (sym (take_more bs i 0 h))
