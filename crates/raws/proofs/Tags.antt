-- Tags of raw blocks: what stands in front, step by step, and that it lies in the bytes.
use Rattle.std.proofs.Common.{◌≡◌, ℕ, ◌+◌, ◌≤◌, true, false, List, [], ◌∷◌, length, drop, Some, None, Option, ap, arith}
use Rattle.std.proofs.lemmas.List.{length-drop, drop_all}
use Rattle.byte_search.specs.Search.{stands_at}
use Rattle.byte_search.proofs.Stands.{stands_fits}
use Rattle.spaces.specs.Lines.{blank_run}
use Rattle.rules.specs.declared.EndRaw.{EndRaw}
use Rattle.rules.specs.declared.whitespace.Whitespace.{Whitespace}
use Rattle.rules.specs.Bytes.{sign_at, sign_len}
use Rattle.rules.specs.Config.{Config}
use Rattle.rules.specs.Texts.{Basic, basic_end, basic_tag, endraw_name, closer_by, closer_at}
use Rattle.raws.specs.Closers.{Within, TagWithin}

-- the sign and the end of a tag

module _ (end : List ℕ) (n : ℕ) where
  -- the end of a tag lies in the bytes
  abbrev Behind : List ℕ → Option Basic → Type 0
  Behind ys None = Unit {0}
  Behind ys (Some t) = (n ≤ t.0) × (t.0 ≤ n + length ys)

  end_behind : (ys : List ℕ) → Behind ys (basic_end end n ys)
  end_behind [] = tt
  end_behind (x ∷ ys) = grind (arith, stands_fits)

  behind_within : (xs : List ℕ) (r : Option Basic) → n ≤ length xs → Behind (drop n xs) r → Within n xs r
  behind_within xs None h b = tt
  behind_within xs (Some t) h b = let l = length-drop n xs in (b.0, omega (arith, b.1))

  pub end_within : (xs : List ℕ) → Within n xs (basic_end end n (drop n xs))
  end_within xs = grind (arith, behind_within, end_behind, drop_all)

-- a tag behind its start and sign

module _ (name end xs : List ℕ) where
  -- where the name ends, and the blanks behind it
  abbrev name_end : ℕ
  name_end = blank_run xs + length name

  abbrev blanks_end : ℕ
  blanks_end = name_end + blank_run (drop name_end xs)

  pub tag_none : stands_at name (drop (blank_run xs) xs) ≡ false → basic_tag name end xs ≡ None
  unfolding basic_tag
  tag_none e = ap (λ t. elim t [ true ↦ basic_end end blanks_end (drop blanks_end xs) | false ↦ None ]) e

  pub tag_on : stands_at name (drop (blank_run xs) xs) ≡ true → basic_tag name end xs ≡ basic_end end blanks_end (drop blanks_end xs)
  unfolding basic_tag
  tag_on e = ap (λ t. elim t [ true ↦ basic_end end blanks_end (drop blanks_end xs) | false ↦ None ]) e

  within_more : (r : Option Basic) (m : ℕ) → length name ≤ m → Within m xs r → Within (length name) xs r
  within_more None m h w = tt
  within_more (Some t) m h w = (omega (arith, w.0), w.1)

  pub tag_within : Within (length name) xs (basic_tag name end xs)
  tag_within = grind (arith, tag_on, tag_none, within_more, end_within)

-- the closing tag

abbrev closed : Config → List ℕ → Whitespace → Option EndRaw
closed s xs g = closer_by (length s.block_start) g (basic_tag endraw_name s.block_end (drop (length s.block_start + sign_len g) xs))

module _ (s : Config) (xs : List ℕ) where
  pub closer_none : stands_at s.block_start xs ≡ false → closer_at s xs ≡ None
  unfolding closer_at
  closer_none e = ap (λ t. elim t [ true ↦ closed s xs (sign_at (drop (length s.block_start) xs)) | false ↦ None ]) e

  pub closer_on : stands_at s.block_start xs ≡ true → closer_at s xs ≡ closed s xs (sign_at (drop (length s.block_start) xs))
  unfolding closer_at
  closer_on e = ap (λ t. elim t [ true ↦ closed s xs (sign_at (drop (length s.block_start) xs)) | false ↦ None ]) e

  -- a closing tag begins with the block start
  pub closer_stands : (r : EndRaw) → closer_at s xs ≡ Some r → stands_at s.block_start xs ≡ true
  closer_stands r e = grind (arith, closer_none)

  by_within : (n : ℕ) (g : Whitespace) (t : Option Basic) → n + sign_len g ≤ length xs → Within 6 (drop (n + sign_len g) xs) t → TagWithin xs (closer_by n g t)
  by_within n g None h w = tt
  by_within n g (Some t) h w = let l = length-drop (n + sign_len g) xs in (omega (arith, w.0), omega (arith, w.1))

  sign_fits : (ys : List ℕ) → sign_len (sign_at ys) ≤ length ys
  sign_fits [] = omega arith
  sign_fits (y ∷ ys) = grind arith

  pub closer_within : TagWithin xs (closer_at s xs)
  closer_within = grind (arith, closer_on, closer_none, stands_fits, sign_fits, length-drop, by_within, tag_within)
