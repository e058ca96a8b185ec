-- Advancing in parts is advancing over the whole, and a place is what the bytes before it count.
use Rattle.std.proofs.Common.{◌≡◌, ℕ, suc, ◌+◌, ◌<◌, ◌≤◌, min, true, false, List, [], ◌∷◌, ◌++◌, length, sym, refl, ap, ◌∙◌, ⊎_elim, arith}
use Rattle.std.proofs.lemmas.Bool.{cases_Bool, cases_lt, lt-ltb, le-ltb}
use Rattle.places.specs.declared.Place.{Place}
use Rattle.places.specs.Places.{line_cap, column_cap, offset_cap, is_lf, goes_on, first_place, past, beyond, capped, count_lf, count_chars, since_lf, place_behind}

-- two places with the same numbers are one
pub place_same : (p q : Place) → p.line ≡ q.line → p.column ≡ q.column → p.offset ≡ q.offset → p ≡ q
place_same p q a b e =
    let f : ℕ → ℕ → ℕ → Place = λ l c o. record { line = l; column = c; offset = o } in
    ap (λ l. f l p.column p.offset) a ∙ ap (λ c. f q.line c p.offset) b ∙ ap (λ o. f q.line q.column o) e

-- what fits is told as it is
pub capped_fits : (p : Place) → p.line ≤ line_cap → p.column ≤ column_cap → p.offset ≤ offset_cap → p ≡ capped p
capped_fits p a b e = place_same p (capped p) (omega arith) (omega arith) (omega arith)

-- a byte more behind a place as it is told
pub capped_past : (b : ℕ) (p : Place) → capped (past b (capped p)) ≡ capped (past b p)
capped_past b p = place_same (capped (past b (capped p))) (capped (past b p))
    (elim (is_lf b) as (λ t. min (elim t [ true ↦ min p.line line_cap + 1 | false ↦ min p.line line_cap ]) line_cap ≡ min (elim t [ true ↦ p.line + 1 | false ↦ p.line ]) line_cap)
    [ true ↦ omega arith | false ↦ omega arith ])
    (elim (is_lf b) as (λ t. min (elim t [ true ↦ 0 | false ↦ elim (goes_on b) [ true ↦ min p.column column_cap | false ↦ min p.column column_cap + 1 ] ]) column_cap
    ≡ min (elim t [ true ↦ 0 | false ↦ elim (goes_on b) [ true ↦ p.column | false ↦ p.column + 1 ] ]) column_cap) [
      | true ↦ refl
      | false ↦ elim (goes_on b) as (λ t. min (elim t [ true ↦ min p.column column_cap | false ↦ min p.column column_cap + 1 ]) column_cap ≡ min (elim t [ true ↦ p.column | false ↦ p.column + 1 ]) column_cap)
          [ true ↦ omega arith | false ↦ omega arith ]
    ])
    (omega arith)

-- bytes behind a place as it is told
pub capped_beyond : (xs : List ℕ) (p : Place) → capped (beyond xs (capped p)) ≡ capped (beyond xs p)
unfolding beyond
capped_beyond [] p = place_same (capped (capped p)) (capped p) (omega arith) (omega arith) (omega arith)
capped_beyond (x ∷ xs) p =
    sym (capped_beyond xs (past x (capped p))) ∙ ap (λ q. capped (beyond xs q)) (capped_past x p) ∙ capped_beyond xs (past x p)

-- in parts as over the whole
pub beyond_append : (xs ys : List ℕ) (p : Place) → beyond (xs ++ ys) p ≡ beyond ys (beyond xs p)
unfolding beyond
beyond_append [] ys p = refl
beyond_append (x ∷ xs) ys p = beyond_append xs ys (past x p)

-- over a front, and then over the rest
pub beyond_parts : (xs ys zs : List ℕ) (p q r : Place) → zs ≡ xs ++ ys → q ≡ capped (beyond xs p) → r ≡ capped (beyond ys q) → r ≡ capped (beyond zs p)
beyond_parts xs ys zs p q r a b e =
    e ∙ ap (λ t. capped (beyond ys t)) b ∙ capped_beyond ys (beyond xs p) ∙ ap capped (sym (beyond_append xs ys p)) ∙ ap (λ l. capped (beyond l p)) (sym a)

pub beyond_none : (p : Place) → beyond [] p ≡ p
unfolding beyond
beyond_none p = refl

-- one byte more
pub step_more : (xs : List ℕ) (x : ℕ) (p q r : Place) → q ≡ capped (beyond xs p) → r ≡ capped (past x q) → r ≡ capped (beyond (xs ++ (x ∷ [])) p)
unfolding beyond
step_more xs x p q r e f = f ∙ ap (λ t. capped (past x t)) e ∙ capped_past x (beyond xs p) ∙ ap capped (sym (beyond_append xs (x ∷ []) p))

pub lf_yes : (x : ℕ) (xs : List ℕ) → is_lf x ≡ true → count_lf (x ∷ xs) ≡ suc (count_lf xs)
unfolding count_lf
lf_yes x xs e = ap (λ t. elim t [ true ↦ suc (count_lf xs) | false ↦ count_lf xs ]) e

pub lf_no : (x : ℕ) (xs : List ℕ) → is_lf x ≡ false → count_lf (x ∷ xs) ≡ count_lf xs
unfolding count_lf
lf_no x xs e = ap (λ t. elim t [ true ↦ suc (count_lf xs) | false ↦ count_lf xs ]) e

pub since_some : (x : ℕ) (xs : List ℕ) → 0 < count_lf (x ∷ xs) → since_lf (x ∷ xs) ≡ since_lf xs
unfolding since_lf
since_some x xs h = ap (λ t. elim t [ true ↦ since_lf xs | false ↦ x ∷ xs ]) (lt-ltb 0 (count_lf (x ∷ xs)) h)

-- without an LF all bytes are since the last
pub since_none : (xs : List ℕ) → count_lf xs ≡ 0 → since_lf xs ≡ xs
unfolding since_lf
since_none [] e = refl
since_none (x ∷ xs) e = ap (λ t. elim t [ true ↦ since_lf xs | false ↦ x ∷ xs ]) (le-ltb 0 (count_lf (x ∷ xs)) (omega arith))

pub beyond_offset : (xs : List ℕ) (p : Place) → (beyond xs p).offset ≡ p.offset + length xs
unfolding beyond
beyond_offset [] p = omega arith
beyond_offset (x ∷ xs) p = beyond_offset xs (past x p) ∙ omega arith

pub beyond_line : (xs : List ℕ) (p : Place) → (beyond xs p).line ≡ p.line + count_lf xs
unfolding beyond count_lf
beyond_line [] p = omega arith
beyond_line (x ∷ xs) p = beyond_line xs (past x p) ∙
    elim (is_lf x) as (λ t. elim t [ true ↦ p.line + 1 | false ↦ p.line ] + count_lf xs ≡ p.line + elim t [ true ↦ suc (count_lf xs) | false ↦ count_lf xs ]) [ true ↦ omega arith | false ↦ omega arith ]

-- a byte that is no LF counts as a character does
past_column : (x : ℕ) (xs : List ℕ) (p : Place) → is_lf x ≡ false → (past x p).column + count_chars xs ≡ p.column + count_chars (x ∷ xs)
unfolding count_chars
past_column x xs p e =
    ap (λ t. elim t [ true ↦ 0 | false ↦ elim (goes_on x) [ true ↦ p.column | false ↦ p.column + 1 ] ] + count_chars xs) e ∙
    elim (goes_on x) as (λ t. elim t [ true ↦ p.column | false ↦ p.column + 1 ] + count_chars xs ≡ p.column + elim t [ true ↦ count_chars xs | false ↦ suc (count_chars xs) ]) [ true ↦ refl | false ↦ omega arith ]

-- an LF leaves column 0
past_lf : (x : ℕ) (p : Place) → is_lf x ≡ true → (past x p).column ≡ 0
past_lf x p e = ap (λ t. elim t [ true ↦ 0 | false ↦ elim (goes_on x) [ true ↦ p.column | false ↦ p.column + 1 ] ]) e

-- without an LF the characters add up
pub beyond_column_none : (xs : List ℕ) (p : Place) → count_lf xs ≡ 0 → (beyond xs p).column ≡ p.column + count_chars xs
unfolding beyond count_chars
beyond_column_none [] p h = omega arith
beyond_column_none (x ∷ xs) p h = ⊎_elim
    (λ e. absurd (omega (arith, lf_yes x xs e)))
    (λ e. beyond_column_none xs (past x p) (omega (arith, lf_no x xs e)) ∙ past_column x xs p e)
    (cases_Bool (is_lf x))

no_lf : 0 < count_lf [] → ⊥
unfolding count_lf
no_lf h = omega arith

-- behind an LF the column is of the bytes since
pub beyond_column_some : (xs : List ℕ) (p : Place) → 0 < count_lf xs → (beyond xs p).column ≡ count_chars (since_lf xs)
unfolding beyond
beyond_column_some [] p h = absurd (no_lf h)
beyond_column_some (x ∷ xs) p h = ⊎_elim
    (λ k. beyond_column_some xs (past x p) k ∙ sym (ap count_chars (since_some x xs h)))
    (λ k.
    let z : count_lf xs ≡ 0 = omega arith in
    ⊎_elim
    (λ e. beyond_column_none xs (past x p) z ∙ omega (arith, past_lf x p e) ∙ sym (ap count_chars (since_none xs z)) ∙ sym (ap count_chars (since_some x xs h)))
    (λ e. absurd (omega (arith, lf_no x xs e)))
    (cases_Bool (is_lf x)))
    (cases_lt 0 (count_lf xs))

beyond_column : (xs : List ℕ) (p : Place) → p.column ≡ 0 → (beyond xs p).column ≡ count_chars (since_lf xs)
beyond_column xs p h = ⊎_elim
    (λ k. beyond_column_some xs p k)
    (λ k.
    let z : count_lf xs ≡ 0 = omega arith in
    beyond_column_none xs p z ∙ omega arith ∙ sym (ap count_chars (since_none xs z)))
    (cases_lt 0 (count_lf xs))

-- the rule: behind bytes from the first place on
pub beyond_is : (xs : List ℕ) → beyond xs first_place ≡ place_behind xs
beyond_is xs = place_same (beyond xs first_place) (place_behind xs) (beyond_line xs first_place) (beyond_column xs first_place refl) (beyond_offset xs first_place ∙ omega arith)

-- advancing from a place that is told as the rule has it
pub told_on : (xs ys : List ℕ) (p r : Place) → r ≡ capped (beyond ys p) → p ≡ capped (place_behind xs) → r ≡ capped (place_behind (xs ++ ys))
told_on xs ys p r e f =
    e ∙ ap (λ q. capped (beyond ys q)) (f ∙ ap capped (sym (beyond_is xs))) ∙ capped_beyond ys (beyond xs first_place) ∙ ap capped (sym (beyond_append xs ys first_place) ∙ beyond_is (xs ++ ys))

-- behind no bytes is the first place
pub told_none : first_place ≡ capped (place_behind [])
unfolding count_lf count_chars since_lf
told_none = refl
