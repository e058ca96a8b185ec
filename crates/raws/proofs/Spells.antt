-- Tags of raw blocks in words: how their bytes are spelt.
use Rattle.std.proofs.Common.{◌≡◌, ℕ, suc, ◌+◌, ◌-◌, ◌<◌, ◌≤◌, true, ◌&&◌, List, [], ◌∷◌, ◌++◌, length, take, drop, Some, None, Option, sym, refl, ap, ◌∙◌, subst, arith, take-add}
use Rattle.std.proofs.lemmas.List.{append_assoc, take_at, drop-drop, length-take, get_or-take}
use Rattle.std.proofs.lemmas.Bool.{and_parts}
use Rattle.byte_search.specs.Search.{stands_at}
use Rattle.byte_search.proofs.Stands.{stands_split}
use Rattle.spaces.specs.Lines.{is_blank, blank_run}
use Rattle.spaces.proofs.Lines.{blank_longest}
use Rattle.rules.specs.declared.EndRaw.{EndRaw}
use Rattle.rules.specs.declared.whitespace.Whitespace.{Whitespace}
use Rattle.rules.specs.declared.whitespace.Whitespace.TheVariants.{Default}
use Rattle.rules.specs.Bytes.{is_sign, sign_of, sign_at, sign_len}
use Rattle.rules.specs.Config.{Config}
use Rattle.rules.specs.Texts.{Basic, basic_end, basic_tag, endraw_name, closer_by, closer_at}
use Rattle.raws.specs.Closers.{Blanks, sign_text, TagSpelt, CloserSpelt}
use Rattle.raws.proofs.Tags.{tag_none, tag_on, closer_none, closer_on}

-- what stands in front is the front
stands_take : (ds xs : List ℕ) → stands_at ds xs ≡ true → take (length ds) xs ≡ ds
stands_take ds xs e = ap (take (length ds)) (stands_split ds xs e) ∙ take_at ds (drop (length ds) xs) (length ds) refl

blanks_front : (xs : List ℕ) → Blanks (take (blank_run xs) xs)
blanks_front xs k h =
    let l = length-take (blank_run xs) xs in
    let i : k < blank_run xs = omega arith in
    ap is_blank (get_or-take (blank_run xs) xs k 0 i) ∙ (blank_longest xs).1 k i

-- a byte that is a sign is the text of that sign
minus_text : (x : ℕ) → is_sign x ≡ true → sign_text (sign_of x) ≡ x ∷ []
minus_text x e = grind arith

-- the sign and the end of a tag behind n bytes
abbrev EndSpelt : List ℕ → ℕ → List ℕ → Option Basic → Type 0
EndSpelt end n ys None = Unit {0}
EndSpelt end n ys (Some t) = (n ≤ t.0) × (take (t.0 - n) ys ≡ sign_text t.1 ++ end)

module _ (end : List ℕ) (n : ℕ) where
  signed_spelt : (x : ℕ) (ys : List ℕ) → (is_sign x && stands_at end ys) ≡ true → EndSpelt end n (x ∷ ys) (Some (n + suc (length end), sign_of x))
  signed_spelt x ys e =
      let p = and_parts (is_sign x) (stands_at end ys) e in
      let z : n + suc (length end) - n ≡ suc (length end) = omega arith in
      (omega arith, ap (λ k. take k (x ∷ ys)) z ∙ ap (λ l. x ∷ l) (stands_take end ys p.1) ∙ ap (λ l. l ++ end) (sym (minus_text x p.0)))

  bare_spelt : (ys : List ℕ) → stands_at end ys ≡ true → EndSpelt end n ys (Some (n + length end, Default))
  bare_spelt ys e = let z : n + length end - n ≡ length end = omega arith in (omega arith, ap (λ k. take k ys) z ∙ stands_take end ys e)

  end_spelt : (ys : List ℕ) → EndSpelt end n ys (basic_end end n ys)
  end_spelt [] = tt
  end_spelt (x ∷ ys) = grind (arith, signed_spelt, bare_spelt)

module _ (name end xs : List ℕ) where
  -- blanks, the name and blanks in front
  front_spelt : (a b : ℕ) → take (length name) (drop a xs) ≡ name → take (a + length name + b) xs ≡ take a xs ++ (name ++ take b (drop (a + length name) xs))
  front_spelt a b e =
      take-add (a + length name) b xs ∙ ap (λ l. l ++ take b (drop (a + length name) xs)) (take-add a (length name) xs ∙ ap (λ l. take a xs ++ l) e)
      ∙ append_assoc (take a xs) name (take b (drop (a + length name) xs))

  tag_by : (m : ℕ) (b c : List ℕ) (r : Option Basic) → Blanks b → Blanks c → take m xs ≡ b ++ (name ++ c) → EndSpelt end m (drop m xs) r → TagSpelt name end xs r
  tag_by m b c None p q e w = tt
  tag_by m b c (Some t) p q e w =
      let z : m + (t.0 - m) ≡ t.0 = omega (arith, w.0) in
      (b, c, p, q, grind (arith, take-add m (t.0 - m) xs, append_assoc, w.1))

  pub tag_spelt : TagSpelt name end xs (basic_tag name end xs)
  tag_spelt =
      let a : ℕ = blank_run xs in
      let ys : List ℕ = drop (a + length name) xs in
      let m : ℕ = a + length name + blank_run ys in
      let t = tag_by m (take a xs) (take (blank_run ys) ys) (basic_end end m (drop m xs)) (blanks_front xs) (blanks_front ys) in
      grind (arith, tag_on, tag_none, t, front_spelt, stands_take, end_spelt)

-- the sign in front is its text
sign_by : (x : ℕ) (ys : List ℕ) → take (sign_len (sign_of x)) (x ∷ ys) ≡ sign_text (sign_of x)
sign_by x ys = grind arith

sign_front : (ys : List ℕ) → take (sign_len (sign_at ys)) ys ≡ sign_text (sign_at ys)
sign_front [] = refl
sign_front (y ∷ ys) = sign_by y ys

module _ (s : Config) (xs : List ℕ) where
  closer_by_spelt : (n : ℕ) (g : Whitespace) (r : Option Basic) → take n xs ≡ s.block_start → take (sign_len g) (drop n xs) ≡ sign_text g
      → TagSpelt endraw_name s.block_end (drop (n + sign_len g) xs) r → CloserSpelt s xs (closer_by n g r)
  closer_by_spelt n g None e f t = tt
  closer_by_spelt n g (Some b) e f t = (take b.0 (drop (n + sign_len g) xs), grind (arith, take-add, drop-drop, e, f), t)

  pub closer_spelt : CloserSpelt s xs (closer_at s xs)
  closer_spelt =
      let n : ℕ = length s.block_start in
      let g : Whitespace = sign_at (drop n xs) in
      let r : Option Basic = basic_tag endraw_name s.block_end (drop (n + sign_len g) xs) in
      let t : take n xs ≡ s.block_start → CloserSpelt s xs (closer_by n g r) = λ e. closer_by_spelt n g r e (sign_front (drop n xs)) (tag_spelt endraw_name s.block_end (drop (n + sign_len g) xs)) in
      grind (arith, closer_on, closer_none, stands_take, t)

-- what is told of a tag is spelt so
pub spelt_by : (name end xs : List ℕ) (r : Option Basic) → r ≡ basic_tag name end xs → TagSpelt name end xs r
spelt_by name end xs r e = subst (TagSpelt name end xs) (sym e) (tag_spelt name end xs)

pub closer_spelt_by : (s : Config) (xs : List ℕ) (r : Option EndRaw) → r ≡ closer_at s xs → CloserSpelt s xs r
closer_spelt_by s xs r e = subst (CloserSpelt s xs) (sym e) (closer_spelt s xs)
