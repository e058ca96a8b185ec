-- The laws of characters, their list and the well-formed prefix.
use Rattle.std.proofs.Common.{◌≡◌, ℕ, zero, suc, ◌+◌, ◌-◌, ◌<◌, ◌≤◌, true, false, ◌⊎◌, List, [], ◌∷◌, ◌++◌, map, length, take, drop, Some, None, Ok, Err, IsUtf8, Option, Result, sym, refl, ap, ◌∙◌, subst, inl, inr, ⊎_elim, arith, take-add}
use lib.Utf8.{scalar, scalars, encode, encodes}
use Rattle.std.specs.Str.{IsValidUpTo}
use Rattle.std.proofs.lemmas.List.{take-append-drop, length-drop, length-take, length-append, take_all, append_assoc, drop_at}
use Rattle.std.proofs.lemmas.Bool.{and_parts, and_from, eq-eqb, ne_eqb, cases_lt}
use Rattle.utf8.specs.declared.Char.{Char}
use Rattle.utf8.specs.declared.NotUtf8.{NotUtf8}
use Rattle.utf8.specs.Utf8.{width, code_of, char_of, char_at, prefix_after, prefix, characters_after, characters, checked, Agrees}
use Rattle.utf8.proofs.Chars.{Good, good, encoded, made}

-- a character at the front, or none
pub cases_char : (xs : List ℕ) → (char_at xs ≡ None) ⊎ ((c : Char) × (char_at xs ≡ Some c))
cases_char xs = by (char_at xs) refl
  where
    by : (o : Option Char) → char_at xs ≡ o → (char_at xs ≡ None) ⊎ ((c : Char) × (char_at xs ≡ Some c))
    by None e = inl e
    by (Some c) e = inr (c, e)

pub char_width : (xs : List ℕ) (c : Char) → char_at xs ≡ Some c → (0 < c.width) × (c.width ≤ length xs)
char_width xs c e = let g = subst (Good xs) e (good xs) in (g.0, g.1)

pub char_encode : (xs : List ℕ) (c : Char) → char_at xs ≡ Some c → (scalar c.code ≡ true) × (take c.width xs ≡ encode c.code)
char_encode xs c e = let g = subst (Good xs) e (good xs) in (g.2, g.3)

pub char_encoded : (c : ℕ) (rest : List ℕ) → scalar c ≡ true → char_at (encode c ++ rest) ≡ Some (record { code = c; width = length (encode c) })
char_encoded c rest s = encoded c rest s

-- where there is no character, no scalar value is encoded
pub char_none : (xs : List ℕ) → char_at xs ≡ None → (c : ℕ) (rest : List ℕ) → scalar c ≡ true → xs ≡ encode c ++ rest → ⊥
char_none xs e c rest s h =
    let f : char_at xs ≡ made c (length (encode c)) = ap char_at h ∙ encoded c rest s in
    let z : ◌≡◌ {A = ℕ} 0 1 = cc in
    omega arith

-- the width and the code point that a character has
char_some : (n : ℕ) (xs : List ℕ) (c : Char) → char_of n xs ≡ Some c → (c.width ≡ n) × (c.code ≡ code_of n xs)
char_some zero xs c e = let z : ◌≡◌ {A = ℕ} 0 1 = cc in absurd (omega arith)
char_some (suc n) xs c e = (cc, cc)

char_no : (n : ℕ) (xs : List ℕ) → char_of n xs ≡ None → n ≡ 0
char_no zero xs e = refl
char_no (suc n) xs e = let z : ◌≡◌ {A = ℕ} 0 1 = cc in absurd (omega arith)

pub width_some : (xs : List ℕ) (c : Char) → char_at xs ≡ Some c → (c.width ≡ width xs) × (c.code ≡ code_of (width xs) xs)
width_some xs c e = char_some (width xs) xs c e

pub width_none : (xs : List ℕ) → char_at xs ≡ None → width xs ≡ 0
width_none xs e = char_no (width xs) xs e

-- the bytes of a sequence that are still to pass
characters_over : (k at : ℕ) (xs : List ℕ) → characters_after k at xs ≡ characters (at + k) (drop k xs)
unfolding characters_after
characters_over zero at xs = let z : at ≡ at + 0 = omega arith in ap (λ n. characters_after 0 n xs) z
characters_over (suc k) at [] = refl
characters_over (suc k) at (x ∷ xs) = let z : at + 1 + k ≡ at + suc k = omega arith in characters_over k (at + 1) xs ∙ ap (λ n. characters_after 0 n (drop k xs)) z

prefix_over : (k : ℕ) (xs : List ℕ) → k ≤ length xs → prefix_after k xs ≡ k + prefix (drop k xs)
unfolding prefix_after
prefix_over zero xs h = omega arith
prefix_over (suc k) [] h = absurd (omega arith)
prefix_over (suc k) (x ∷ xs) h = let i = prefix_over k xs (omega arith) in omega arith

pub characters_none : (at : ℕ) (xs : List ℕ) → char_at xs ≡ None → characters at xs ≡ []
unfolding characters_after
characters_none at [] e = refl
characters_none at (x ∷ xs) e = ap (λ n. elim n [ zero ↦ [] | suc m ↦ (at, code_of (suc m) (x ∷ xs)) ∷ characters_after m (at + 1) xs ]) (width_none (x ∷ xs) e)

characters_step : (at n x : ℕ) (xs : List ℕ) → width (x ∷ xs) ≡ suc n → characters at (x ∷ xs) ≡ (at, code_of (suc n) (x ∷ xs)) ∷ characters_after n (at + 1) xs
unfolding characters_after
characters_step at n x xs e = ap (λ n. elim n [ zero ↦ [] | suc m ↦ (at, code_of (suc m) (x ∷ xs)) ∷ characters_after m (at + 1) xs ]) e

pub characters_more : (at : ℕ) (xs : List ℕ) (c : Char) → char_at xs ≡ Some c → characters at xs ≡ (at, c.code) ∷ characters (at + c.width) (drop c.width xs)
characters_more at [] c e = let w = char_width [] c e in absurd (omega arith)
characters_more at (x ∷ xs) c e =
    let w = char_width (x ∷ xs) c e in
    let s = width_some (x ∷ xs) c e in
    let n : ℕ = c.width - 1 in
    let m : suc n ≡ c.width = omega arith in
    let p : width (x ∷ xs) ≡ suc n = omega arith in
    let q : code_of (suc n) (x ∷ xs) ≡ c.code = ap (λ k. code_of k (x ∷ xs)) (sym p) ∙ sym s.1 in
    let z : at + 1 + n ≡ at + c.width = omega arith in
    characters_step at n x xs p ∙ (λ i. (at, q i) ∷ characters_over n (at + 1) xs i) ∙ (λ i. (at, c.code) ∷ characters (z i) (drop (m i) (x ∷ xs)))

pub prefix_none : (xs : List ℕ) → char_at xs ≡ None → prefix xs ≡ 0
unfolding prefix_after
prefix_none [] e = refl
prefix_none (x ∷ xs) e = ap (λ n. elim n [ zero ↦ 0 | suc m ↦ suc (prefix_after m xs) ]) (width_none (x ∷ xs) e)

prefix_step : (n x : ℕ) (xs : List ℕ) → width (x ∷ xs) ≡ suc n → prefix (x ∷ xs) ≡ suc (prefix_after n xs)
unfolding prefix_after
prefix_step n x xs e = ap (λ n. elim n [ zero ↦ 0 | suc m ↦ suc (prefix_after m xs) ]) e

pub prefix_more : (xs : List ℕ) (c : Char) → char_at xs ≡ Some c → prefix xs ≡ c.width + prefix (drop c.width xs)
prefix_more [] c e = let w = char_width [] c e in absurd (omega arith)
prefix_more (x ∷ xs) c e =
    let w = char_width (x ∷ xs) c e in
    let s = width_some (x ∷ xs) c e in
    let n : ℕ = c.width - 1 in
    let m : suc n ≡ c.width = omega arith in
    let p : width (x ∷ xs) ≡ suc n = omega arith in
    let o = prefix_over n xs (omega arith) in
    let q : prefix (x ∷ xs) ≡ suc n + prefix (drop (suc n) (x ∷ xs)) = prefix_step n x xs p ∙ (let z : suc (prefix_after n xs) ≡ suc n + prefix (drop n xs) = omega arith in z) in
    q ∙ ap (λ k. k + prefix (drop k (x ∷ xs))) m

-- the code points of the characters
abbrev pub codes : List (ℕ × ℕ) → List ℕ
codes cs = map (λ p. p.1) cs

-- by the bytes that are left: the characters are scalar values, and their encodings are the well-formed prefix
abbrev Spelt : ℕ → List ℕ → Type 0
Spelt at xs = (prefix xs ≤ length xs) × (scalars (codes (characters at xs)) ≡ true) × (encodes (codes (characters at xs)) ≡ take (prefix xs) xs)

spelt_none : (at : ℕ) (xs : List ℕ) → char_at xs ≡ None → Spelt at xs
spelt_none at xs e =
    let p = prefix_none xs e in
    let c = characters_none at xs e in
    (omega arith, ap (λ l. scalars (codes l)) c, ap (λ l. encodes (codes l)) c ∙ ap (λ n. take n xs) (sym p))

spelt_more : (at : ℕ) (xs : List ℕ) (c : Char) → char_at xs ≡ Some c → Spelt (at + c.width) (drop c.width xs) → Spelt at xs
spelt_more at xs c e h =
    let w = char_width xs c e in
    let b = char_encode xs c e in
    let p = prefix_more xs c e in
    let l = length-drop c.width xs in
    let k = characters_more at xs c e in (
      omega arith,
      ap (λ l. scalars (codes l)) k ∙ and_from (scalar c.code) (scalars (codes (characters (at + c.width) (drop c.width xs)))) b.0 h.1,
      ap (λ l. encodes (codes l)) k ∙ (λ i. sym b.1 i ++ h.2 i) ∙ sym (take-add c.width (prefix (drop c.width xs)) xs) ∙ ap (λ n. take n xs) (sym p),
    )

spelt_by : (n at : ℕ) (xs : List ℕ) → length xs ≤ n → Spelt at xs
spelt_by zero at xs h = ⊎_elim (λ e. spelt_none at xs e) (λ s. let w = char_width xs s.0 s.1 in absurd (omega arith)) (cases_char xs)
spelt_by (suc n) at xs h = ⊎_elim (λ e. spelt_none at xs e)
    (λ s.
    let w = char_width xs s.0 s.1 in
    let l = length-drop s.0.width xs in
    spelt_more at xs s.0 s.1 (spelt_by n (at + s.0.width) (drop s.0.width xs) (omega arith)))
    (cases_char xs)

spelt : (at : ℕ) (xs : List ℕ) → Spelt at xs
spelt at xs = spelt_by (length xs) at xs (omega arith)

pub prefix_le : (xs : List ℕ) → prefix xs ≤ length xs
prefix_le xs = (spelt 0 xs).0

pub characters_scalars : (at : ℕ) (xs : List ℕ) → scalars (map (λ p. p.1) (characters at xs)) ≡ true
characters_scalars at xs = (spelt at xs).1

pub prefix_front : (at : ℕ) (xs : List ℕ) → encodes (map (λ p. p.1) (characters at xs)) ≡ take (prefix xs) xs
prefix_front at xs = (spelt at xs).2

-- scalar values that are encoded at the front belong to the prefix
pub prefix_encodes : (cs rest : List ℕ) → scalars cs ≡ true → prefix (encodes cs ++ rest) ≡ length (encodes cs) + prefix rest
prefix_encodes [] rest s = omega arith
prefix_encodes (c ∷ cs) rest s =
    let p = and_parts (scalar c) (scalars cs) s in
    let i = prefix_encodes cs rest p.1 in
    let e = char_encoded c (encodes cs ++ rest) p.0 in
    let m = prefix_more (encode c ++ (encodes cs ++ rest)) (record { code = c; width = length (encode c) }) e in
    let d = drop_at (encode c) (encodes cs ++ rest) (length (encode c)) refl in
    let q : prefix (drop (length (encode c)) (encode c ++ (encodes cs ++ rest))) ≡ prefix (encodes cs ++ rest) = ap prefix d in
    let l = length-append (encode c) (encodes cs) in
    ap prefix (append_assoc (encode c) (encodes cs) rest) ∙ m ∙ omega arith

-- the well-formed prefix is the longest front that is UTF-8
pub prefix_utf8 : (xs : List ℕ) → IsUtf8 (take (prefix xs) xs)
prefix_utf8 xs = (codes (characters 0 xs), (characters_scalars 0 xs, prefix_front 0 xs))

pub prefix_longest : (xs : List ℕ) (m : ℕ) → IsUtf8 (take m xs) → length (take m xs) ≤ prefix xs
prefix_longest xs m u =
    let e : encodes u.0 ++ drop m xs ≡ xs = ap (λ l. l ++ drop m xs) u.1.1 ∙ take-append-drop m xs in
    let p = prefix_encodes u.0 (drop m xs) u.1.0 in
    let q : prefix (encodes u.0 ++ drop m xs) ≡ prefix xs = ap prefix e in
    let l : length (encodes u.0) ≡ length (take m xs) = ap length u.1.1 in
    omega arith

pub whole_utf8 : (xs : List ℕ) → prefix xs ≡ length xs → IsUtf8 xs
whole_utf8 xs e = subst IsUtf8 (take_all (prefix xs) xs (omega arith)) (prefix_utf8 xs)

pub utf8_whole : (xs : List ℕ) → IsUtf8 xs → prefix xs ≡ length xs
utf8_whole xs u =
    let a = take_all (length xs) xs (omega arith) in
    let l = prefix_longest xs (length xs) (subst IsUtf8 (sym a) u) in
    let k = ap length a in
    let m = prefix_le xs in
    omega arith

pub prefix_valid : (xs : List ℕ) → prefix xs < length xs → IsValidUpTo xs (prefix xs)
prefix_valid xs h = record {
  short = h;
  front = prefix_utf8 xs;
  longest = λ m g u. let l = prefix_longest xs m u in let t = length-take m xs in omega arith;
}

-- behind a front that is UTF-8 the prefix goes on
pub prefix_behind : (at : ℕ) (xs : List ℕ) → at ≤ length xs → IsUtf8 (take at xs) → prefix xs ≡ at + prefix (drop at xs)
prefix_behind at xs h u =
    let p = prefix_encodes u.0 (drop at xs) u.1.0 in
    let q : prefix (encodes u.0 ++ drop at xs) ≡ prefix xs = ap prefix (ap (λ l. l ++ drop at xs) u.1.1 ∙ take-append-drop at xs) in
    let l : length (encodes u.0) ≡ length (take at xs) = ap length u.1.1 in
    let t = length-take at xs in
    omega arith

pub checked_ok : (s : List ℕ) → prefix s ≡ length s → checked s ≡ Ok tt
checked_ok s e = ap (λ b. elim b [ true ↦ Ok tt | false ↦ Err (record { byte = prefix s }) ]) (eq-eqb (prefix s) (length s) e)

pub checked_err : (s : List ℕ) → prefix s < length s → checked s ≡ Err (record { byte = prefix s })
checked_err s h = ap (λ b. elim b [ true ↦ Ok tt | false ↦ Err (record { byte = prefix s }) ]) (ne_eqb (prefix s) (length s) (λ t. omega arith))

-- what the check says, and that it agrees with the standard library
pub agrees_err : (s : List ℕ) (at : ℕ) → prefix s ≡ at → at < length s → (Err (record { byte = at }) ≡ checked s) × Agrees s (Err (record { byte = at }))
agrees_err s at p h =
    let l : prefix s < length s = omega arith in
    (ap (λ n. Err (record { byte = n })) (sym p) ∙ sym (checked_err s l), ((λ u. let w = utf8_whole s u in omega arith), subst (IsValidUpTo s) p (prefix_valid s l)))

-- what agrees with the standard library is what the check says
pub agrees_checked : (s : List ℕ) (r : Result Unit NotUtf8) → Agrees s r → r ≡ checked s
agrees_checked s (Ok tt) u = sym (checked_ok s (utf8_whole s u))
agrees_checked s (Err f) (n, v) =
    let t = length-take f.byte s in
    let l = prefix_longest s f.byte v.front in
    let e : f.byte ≡ prefix s = ⊎_elim (λ h. absurd (v.longest (prefix s) h (prefix_utf8 s))) (λ h. omega (arith, v.short)) (cases_lt f.byte (prefix s)) in
    ap (λ k. Err (record { byte = k })) e ∙ sym (checked_err s (omega (arith, v.short)))
