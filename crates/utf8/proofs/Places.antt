-- The character at a place, from the bytes there.
use Rattle.std.proofs.Common.{◌≡◌, ℕ, zero, suc, ◌+◌, ◌-◌, ◌*◌, ◌<◌, ◌≤◌, ◌⊎◌, List, [], ◌∷◌, length, get_or, drop, Some, None, Option, sym, refl, ap, ◌∙◌, subst, inl, inr, ⊎_elim, arith}
use Rattle.std.proofs.lemmas.List.{drop_more, drop_all, length-drop, get_or_past}
use Rattle.utf8.specs.declared.Char.{Char}
use Rattle.utf8.specs.Utf8.{table, fits, width_by, width, char_of, char_at, Encoded, Second}
use Rattle.utf8.proofs.Rows.{Follows, Sequence, of0, of1, of2, of3, of4, sequence, lead_00, width_2, width_3, width_4}
use Rattle.utf8.proofs.Chars.{made}
use Rattle.utf8.proofs.Laws.{char_width, char_encode, char_none}

-- what the bytes of a sequence have to be
abbrev Read : ℕ → ℕ → ℕ → ℕ → Type 0
Read a b d e = (a ≤ 127) ⊎ ((194 ≤ a) × (a ≤ 244) × Second a b × (224 ≤ a → Follows d) × (240 ≤ a → Follows e))

abbrev ReadAt : List ℕ → Type 0
ReadAt l = Read (get_or l 0 0) (get_or l 1 0) (get_or l 2 0) (get_or l 3 0)

read_by : (xs : List ℕ) → 0 < width xs → Sequence xs → ReadAt xs
read_by xs p (of0 w) = absurd (omega arith)
read_by xs p (of1 a rest e h w) = subst ReadAt (sym e) (inl h)
read_by xs p (of2 a b rest e g h f w) = subst ReadAt (sym e) (inr (g, omega arith, (f.0, f.1, (λ t. absurd (omega arith)), (λ t. absurd (omega arith)), (λ t. absurd (omega arith)), (λ t. absurd (omega arith))), (λ t. absurd (omega arith)), (λ t. absurd (omega arith))))
read_by xs p (of3 a b d rest e g h f k l u w) = subst ReadAt (sym e) (inr (omega arith, omega arith, (f.0, f.1, (λ t. l (omega arith)), u, (λ t. absurd (omega arith)), (λ t. absurd (omega arith))), (λ t. k), (λ t. absurd (omega arith))))
read_by xs p (of4 a b d x rest e g h f k m l u w) = subst ReadAt (sym e) (inr (omega arith, omega arith, (f.0, f.1, (λ t. absurd (omega arith)), (λ t. absurd (omega arith)), (λ t. l (omega arith)), (λ t. u (omega arith))), (λ t. k), (λ t. m)))

no_char : (n : ℕ) (xs : List ℕ) → (0 < n → ⊥) → char_of n xs ≡ None
no_char zero xs h = refl
no_char (suc n) xs h = absurd (h (omega arith))

no_bytes : None ≡ char_at []
unfolding table fits width_by
no_bytes = refl

pub short_1 : (xs : List ℕ) → length xs < 1 → None ≡ char_at xs
short_1 [] h = no_bytes
short_1 (x ∷ xs) h = absurd (omega arith)

-- a first byte, and those behind it
module _ (xs : List ℕ) (a : ℕ) (ys : List ℕ) (e : xs ≡ a ∷ ys) where
  abbrev b : ℕ
  b = get_or ys 0 0

  abbrev d : ℕ
  d = get_or ys 1 0

  abbrev x : ℕ
  x = get_or ys 2 0

  refused : (Read a b d x → ⊥) → None ≡ char_at xs
  refused h = sym (no_char (width xs) xs (λ p. h (subst ReadAt e (read_by xs p (sequence xs)))))

  -- bytes that no row has
  pub no_lead : 128 ≤ a → (a < 194) ⊎ (244 < a) → None ≡ char_at xs
  no_lead g h = refused (λ r. ⊎_elim (λ t. absurd (omega arith)) (λ t. ⊎_elim (λ v. absurd (omega arith)) (λ v. absurd (omega arith)) h) r)

  pub no_second : 128 ≤ a → (Second a b → ⊥) → None ≡ char_at xs
  no_second g h = refused (λ r. ⊎_elim (λ t. absurd (omega arith)) (λ t. h t.2) r)

  pub no_third : 224 ≤ a → (Follows d → ⊥) → None ≡ char_at xs
  no_third g h = refused (λ r. ⊎_elim (λ t. absurd (omega arith)) (λ t. h (t.3 (omega arith))) r)

  pub no_fourth : 240 ≤ a → (Follows x → ⊥) → None ≡ char_at xs
  no_fourth g h = refused (λ r. ⊎_elim (λ t. absurd (omega arith)) (λ t. h (t.4 (omega arith))) r)

  pub short_2 : 128 ≤ a → length ys < 1 → None ≡ char_at xs
  short_2 g h = no_second g (λ f. let z = get_or_past ys 0 0 (omega arith) in omega (arith, f.0))

  pub short_3 : 224 ≤ a → length ys < 2 → None ≡ char_at xs
  short_3 g h = no_third g (λ f. let z = get_or_past ys 1 0 (omega arith) in omega (arith, f.0))

  pub short_4 : 240 ≤ a → length ys < 3 → None ≡ char_at xs
  short_4 g h = no_fourth g (λ f. let z = get_or_past ys 2 0 (omega arith) in omega (arith, f.0))

  -- bytes of a row
  cut_2 : 0 < length ys → xs ≡ a ∷ b ∷ drop 1 ys
  cut_2 h = e ∙ ap (λ l. a ∷ l) (drop_more ys 0 0 h)

  cut_3 : 1 < length ys → xs ≡ a ∷ b ∷ d ∷ drop 2 ys
  cut_3 h = cut_2 (omega arith) ∙ ap (λ l. a ∷ b ∷ l) (drop_more ys 1 0 h)

  cut_4 : 2 < length ys → xs ≡ a ∷ b ∷ d ∷ x ∷ drop 3 ys
  cut_4 h = cut_3 (omega arith) ∙ ap (λ l. a ∷ b ∷ d ∷ l) (drop_more ys 2 0 h)

  pub one_byte : (c : ℕ) → c ≡ a → a ≤ 127 → made c 1 ≡ char_at xs
  one_byte c q k = ap (λ n. made n 1) q ∙ sym (ap char_at e ∙ ap (λ n. char_of n (a ∷ ys)) (lead_00 a ys k))

  pub two_bytes : 0 < length ys → 194 ≤ a → a ≤ 223 → Second a b → (r : Option Char) (n : ℕ) → r ≡ made n 2 → n ≡ (a - 192) * 64 + (b - 128) → r ≡ char_at xs
  two_bytes h g k f r n p q = p ∙ ap (λ m. made m 2) q ∙ sym (ap char_at (cut_2 h) ∙ ap (λ m. char_of m (a ∷ b ∷ drop 1 ys)) (width_2 a b (drop 1 ys) g k (f.0, f.1)))

  pub three_bytes : 1 < length ys → 224 ≤ a → a ≤ 239 → Second a b → Follows d → (r : Option Char) (n : ℕ) → r ≡ made n 3 → n ≡ (a - 224) * 4096 + (b - 128) * 64 + (d - 128) → r ≡ char_at xs
  three_bytes h g k f m r n p q = p ∙ ap (λ i. made i 3) q ∙ sym (ap char_at (cut_3 h) ∙ ap (λ i. char_of i (a ∷ b ∷ d ∷ drop 2 ys)) (width_3 a b d (drop 2 ys) g k (f.0, f.1) m (λ t. f.2 (omega arith)) f.3))

  pub four_bytes : 2 < length ys → 240 ≤ a → a ≤ 244 → Second a b → Follows d → Follows x → (r : Option Char) (n : ℕ) → r ≡ made n 4 → n ≡ (a - 240) * 262144 + (b - 128) * 4096 + (d - 128) * 64 + (x - 128) → r ≡ char_at xs
  four_bytes h g k f m l r n p q = p ∙ ap (λ i. made i 4) q ∙ sym (ap char_at (cut_4 h) ∙ ap (λ i. char_of i (a ∷ b ∷ d ∷ x ∷ drop 3 ys)) (width_4 a b d x (drop 3 ys) g k (f.0, f.1) m l (λ t. f.4 (omega arith)) (λ t. f.5 (omega arith))))

module _ (s : List ℕ) (at : ℕ) where
  pub past_end : length s < at → None ≡ char_at (drop at s)
  past_end h = no_bytes ∙ sym (ap char_at (drop_all at s (omega arith)))

  -- a character is a scalar value that is encoded there
  pub encoded_at : (r : Option Char) → r ≡ char_at (drop at s) → Encoded s at r
  encoded_at None q = char_none (drop at s) (sym q)
  encoded_at (Some c) q =
      let w = char_width (drop at s) c (sym q) in
      let n = char_encode (drop at s) c (sym q) in
      let l = length-drop at s in
      (n.0, n.1, w.0, omega arith)
