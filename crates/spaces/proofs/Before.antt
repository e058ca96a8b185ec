-- The character that ends at the end, found by stepping back to the byte that leads it.
use Rattle.std.proofs.Common.{◌≡◌, ℕ, zero, suc, ◌+◌, ◌-◌, ◌<◌, ◌≤◌, true, List, [], ◌++◌, length, get_or, drop, Some, None, Option, sym, ap, ◌∙◌, subst, ⊎_elim, arith}
use lib.Utf8.{scalar, encode}
use Rattle.std.proofs.lemmas.List.{append-nil, length-append, length-drop, drop_at, take_all, get_or-append-add, get_or-drop}
use Rattle.std.proofs.lemmas.Bool.{cases_lt}
use Rattle.utf8.specs.declared.Char.{Char}
use Rattle.utf8.specs.Utf8.{width, char_at}
use Rattle.utf8.proofs.Rows.{Follows, Sequence, of0, of1, of2, of3, of4, sequence}
use Rattle.utf8.proofs.Laws.{char_width, char_encode, char_encoded, width_some}
use Rattle.spaces.specs.Runs.{Ends, Reaches, Leads}

-- the first byte of an encoding goes on with no character, and each later one does
pub record Spelt (n : ℕ) (l : List ℕ) : Type 0 where
  pub some : 0 < n
  pub few : n ≤ 4
  pub lead : Follows (get_or l 0 0) → ⊥
  pub second : 1 < n → Follows (get_or l 1 0)
  pub third : 2 < n → Follows (get_or l 2 0)
  pub fourth : 3 < n → Follows (get_or l 3 0)

spelt_by : (l : List ℕ) → 0 < width l → Sequence l → Spelt (width l) l
spelt_by l h (of0 w) = absurd (omega arith)
spelt_by l h (of1 a rest e k w) = subst (λ n. Spelt n l) (sym w) (subst (Spelt 1) (sym e) (record {
  some = omega arith;
  few = omega arith;
  lead = λ f. omega arith;
  second = λ t. absurd (omega arith);
  third = λ t. absurd (omega arith);
  fourth = λ t. absurd (omega arith);
}))
spelt_by l h (of2 a b rest e g k f w) = subst (λ n. Spelt n l) (sym w) (subst (Spelt 2) (sym e) (record {
  some = omega arith;
  few = omega arith;
  lead = λ f. omega arith;
  second = λ t. f;
  third = λ t. absurd (omega arith);
  fourth = λ t. absurd (omega arith);
}))
spelt_by l h (of3 a b d rest e g k f m u v w) = subst (λ n. Spelt n l) (sym w) (subst (Spelt 3) (sym e) (record {
  some = omega arith;
  few = omega arith;
  lead = λ f. omega arith;
  second = λ t. f;
  third = λ t. m;
  fourth = λ t. absurd (omega arith);
}))
spelt_by l h (of4 a b d x rest e g k f m n u v w) = subst (λ n. Spelt n l) (sym w) (subst (Spelt 4) (sym e) (record {
  some = omega arith;
  few = omega arith;
  lead = λ f. omega arith;
  second = λ t. f;
  third = λ t. m;
  fourth = λ t. n;
}))

spelt : (d : ℕ) → scalar d ≡ true → Spelt (length (encode d)) (encode d)
spelt d s =
    let e : char_at (encode d) ≡ Some (record { code = d; width = length (encode d) }) = ap char_at (sym (append-nil (encode d))) ∙ char_encoded d [] s in
    let w = width_some (encode d) (record { code = d; width = length (encode d) }) e in
    let g = char_width (encode d) (record { code = d; width = length (encode d) }) e in
    subst (λ n. Spelt n (encode d)) (sym w.0) (spelt_by (encode d) (omega arith) (sequence (encode d)))

later : (n : ℕ) (l : List ℕ) (k : ℕ) → Spelt n l → 0 < k → k < n → Follows (get_or l k 0)
later n l zero s g h = absurd (omega arith)
later n l (suc zero) s g h = s.second h
later n l (suc (suc zero)) s g h = s.third h
later n l (suc (suc (suc zero))) s g h = s.fourth h
later n l (suc (suc (suc (suc k)))) s g h = let f = s.few in absurd (omega arith)

-- the last bytes, fewer than `back`, each go on with a character
abbrev Tailing : List ℕ → ℕ → Type 0
Tailing xs back = (k : ℕ) → 0 < k → k < back → (k ≤ length xs) × Follows (get_or xs (length xs - k) 0)

-- so they are where those from `i` on do, behind the first `n`
tail_bytes : (xs : List ℕ) (n i : ℕ) → ((k : ℕ) → i ≤ k → k < length (drop n xs) → Follows (get_or (drop n xs) k 0)) → Tailing xs (length xs - n - i + 1)
tail_bytes xs n i f k g h =
    let l = length-drop n xs in
    let z : n + (length xs - k - n) ≡ length xs - k = omega arith in
    (omega arith, subst Follows (get_or-drop n xs (length xs - k - n) 0 ∙ ap (λ j. get_or xs j 0) z) (f (length xs - k - n) (omega arith) (omega arith)))

-- where the bytes end with the encoding of a scalar value
module _ (xs front : List ℕ) (d : ℕ) (s : scalar d ≡ true) (e : xs ≡ front ++ encode d) where
  abbrev n : ℕ
  n = length (encode d)

  ln : length xs ≡ length front + n
  ln = ap length e ∙ length-append front (encode d)

  byte : (j : ℕ) → get_or xs (length front + j) 0 ≡ get_or (encode d) j 0
  byte j = ap (λ l. get_or l (length front + j) 0) e ∙ get_or-append-add front (encode d) j 0

  -- the byte that leads it
  no_lead : Follows (get_or xs (length xs - n) 0) → ⊥
  no_lead f =
      let l = ln in
      let z : length xs - n ≡ length front + 0 = omega arith in
      (spelt d s).lead (subst Follows (ap (λ j. get_or xs j 0) z ∙ byte 0) f)

  inner : (k : ℕ) → 0 < k → k < n → Follows (get_or xs (length xs - k) 0)
  inner k g h =
      let l = ln in
      let z : length xs - k ≡ length front + (n - k) = omega arith in
      subst Follows (sym (ap (λ j. get_or xs j 0) z ∙ byte (n - k))) (later n (encode d) (n - k) (spelt d s) (omega arith) (omega arith))

  too_far : (back : ℕ) → Tailing xs back → n < back → ⊥
  too_far back t h = no_lead (t n (spelt d s).some h).1

  -- it begins at the first byte from the end that goes on with no character
  reached : (back : ℕ) → 0 < back → Tailing xs back → (Follows (get_or xs (length xs - back) 0) → ⊥) → n ≡ back
  reached back g t h =
      ⊎_elim (λ m. absurd (too_far back t m)) (λ m. ⊎_elim (λ o. absurd (h (inner back g o))) (λ o. omega arith) (cases_lt back n)) (cases_lt n back)

  found : (start back : ℕ) → start + back ≡ length xs → 0 < back → Tailing xs back → (Follows (get_or xs (length xs - back) 0) → ⊥) → char_at (drop start xs) ≡ Some (record { code = d; width = back })
  found start back q g t h =
      let r = reached back g t h in
      let l = ln in
      let z : length front ≡ start = omega arith in
      ap (λ l. char_at (drop start l)) e ∙ ap char_at (drop_at front (encode d) start z) ∙ ap char_at (sym (append-nil (encode d))) ∙ char_encoded d [] s ∙ ap (λ w. Some (record { code = d; width = w })) r

ends_short : (xs : List ℕ) (back : ℕ) → length xs < back → Tailing xs back → Ends xs None
ends_short xs back h t d front s e = let l = ln xs front d s e in too_far xs front d s e back t (omega arith)

ends_far : (xs : List ℕ) (back : ℕ) → 4 < back → Tailing xs back → Ends xs None
ends_far xs back h t d front s e = let f = (spelt d s).few in too_far xs front d s e back t (omega arith)

-- the character at the byte that leads decides
ends_at : (xs : List ℕ) (start back : ℕ) (r : Option Char) → start + back ≡ length xs → 0 < back → Tailing xs back → (Follows (get_or xs (length xs - back) 0) → ⊥) → Reaches xs start r → Ends xs r
ends_at xs start back None q g t h c = λ d front s e. c (record { code = d; width = back }) (found xs front d s e start back q g t h) q
ends_at xs start back (Some c) q g t h k =
    let w = char_width (drop start xs) c k.0 in
    let b = char_encode (drop start xs) c k.0 in
    let l = length-drop start xs in
    let z : length xs - c.width ≡ start = omega (arith, k.1) in (
      b.0,
      w.0,
      omega arith,
      ap (λ j. drop j xs) z ∙ sym (take_all c.width (drop start xs) (omega (arith, k.1))) ∙ b.1,
      (λ d front s e. let f = found xs front d s e start back q g t h in let m = k.0 in cc),
    )

-- what the last four bytes tell
module _ (xs ys : List ℕ) (n : ℕ) (m : n ≡ length xs - 4) (e : ys ≡ drop n xs) (o : Option ℕ) (f : Leads ys o) where
  told : (u : Option ℕ) → o ≡ u → Leads (drop n xs) u
  told u q = subst (λ l. Leads l u) e (subst (Leads ys) q f)

  pub ends_none : o ≡ None → Ends xs None
  ends_none q =
      let back : ℕ = length xs - n - 0 + 1 in
      let t : Tailing xs back = tail_bytes xs n 0 (λ k g h. told None q k h) in
      ⊎_elim (λ h. ends_short xs back (omega arith) t) (λ h. ends_far xs back (omega arith) t) (cases_lt (length xs) 4)

  pub ends_lead : (lead : ℕ) (r : Option Char) → o ≡ Some lead → Reaches xs (n + lead) r → Ends xs r
  ends_lead lead r q c =
      let l = length-drop n xs in
      let t = told (Some lead) q in
      let back : ℕ = length xs - n - (lead + 1) + 1 in
      let z : n + lead ≡ length xs - back = omega (arith, t.0) in
      ends_at xs (n + lead) back r (omega (arith, t.0)) (omega arith) (tail_bytes xs n (lead + 1) (λ k g h. t.2 k (omega arith) h))
      (λ g. t.1 (subst Follows (sym (get_or-drop n xs lead 0 ∙ ap (λ j. get_or xs j 0) z)) g)) c
