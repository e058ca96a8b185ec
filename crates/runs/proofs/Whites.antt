-- What gaps are made of passes as White_Space.
use Rattle.std.proofs.Common.{◌≡◌, ℕ, zero, suc, ◌<◌, Bool, true, false, eqb, List, [], ◌∷◌, ◌++◌, length, get_or, take, drop, sym, ap, ◌∙◌, subst, ⊎_elim, arith}
use lib.Utf8.{scalar}
use Rattle.std.specs.List.{AllByRecursion}
use Rattle.std.proofs.lemmas.List.{drop_all}
use Rattle.std.proofs.lemmas.Bool.{cases_Bool}
use Rattle.std.proofs.lemmas.Bool.Decides.{nat_tests}
use Rattle.std.proofs.lemmas.Str.{encode_ascii}
use Rattle.spaces.specs.Lines.{is_blank, blank_run, lf, line_end}
use Rattle.spaces.specs.Runs.{kept, AllPass}
use Rattle.spaces.specs.Spaces.{white_space, in_ranges}
use Rattle.spaces.proofs.Runs.{all_none, all_more}
use Rattle.spaces.proofs.Tails.{kept_passes}
use Rattle.finder.specs.declared.StartMarker.{StartMarker}
use Rattle.rules.specs.declared.whitespace.Whitespace.{Whitespace}
use Rattle.rules.specs.declared.whitespace.Whitespace.TheVariants.{Default, Preserve, Remove}
use Rattle.rules.specs.Bytes.{pushes}
use Rattle.rules.specs.Texts.{due, left_over, stripped, lead}
use Rattle.rules.specs.Config.{Config, white, inline_white}

-- a test that passes more
all_weaker : (p q : ℕ → Bool) → ((c : ℕ) → p c ≡ true → q c ≡ true) → (cs : List ℕ) → AllByRecursion (λ c. p c ≡ true) cs → AllByRecursion (λ c. q c ≡ true) cs
all_weaker p q f [] a = tt
all_weaker p q f (c ∷ cs) a = (f c a.0, all_weaker p q f cs a.1)

pub passes_more : (p q : ℕ → Bool) → ((c : ℕ) → p c ≡ true → q c ≡ true) → (xs : List ℕ) → AllPass p xs → AllPass q xs
passes_more p q f xs a = (a.0, a.1, all_weaker p q f a.0 a.2, a.3)

-- White_Space other than CR and LF is White_Space
inline_in : (s : Config) (c : ℕ) → inline_white s c ≡ true → white s c ≡ true
inline_in s c e = grind arith

pub inline_passes : (s : Config) (xs : List ℕ) → AllPass (inline_white s) xs → AllPass (white s) xs
inline_passes s xs a = passes_more (inline_white s) (white s) (inline_in s) xs a

-- a blank is a character by itself, and White_Space of the table
blank_in : (b : ℕ) → is_blank b ≡ true → in_ranges white_space b ≡ true
unfolding in_ranges
blank_in b e = grind (arith, nat_tests)

blank_small : (b : ℕ) → is_blank b ≡ true → b < 128
blank_small b e = grind arith

small_scalar : (b : ℕ) → b < 128 → scalar b ≡ true
small_scalar b h = grind (arith, nat_tests)

module _ (s : Config) (e : s.spaces ≡ white_space) where
  blank_white : (b : ℕ) → is_blank b ≡ true → white s b ≡ true
  blank_white b h = ap (λ r. in_ranges r b) e ∙ blank_in b h

  one_more : (b : ℕ) (xs : List ℕ) → is_blank b ≡ true → AllPass (white s) xs → AllPass (white s) (b ∷ xs)
  one_more b xs h a =
      let l = blank_small b h in
      subst (λ f. AllPass (white s) (f ++ xs)) (encode_ascii b l) (all_more (white s) b xs (small_scalar b l) (blank_white b h) a)

  -- the blanks at the front
  pub blanks_pass : (xs : List ℕ) → AllPass (white s) (take (blank_run xs) xs)
  unfolding blank_run
  blanks_pass [] = all_none (white s)
  blanks_pass (x ∷ xs) = ⊎_elim
      (λ h. subst (λ t. AllPass (white s) (take (elim t [ true ↦ suc (blank_run xs) | false ↦ 0 ]) (x ∷ xs))) (sym h) (one_more x (take (blank_run xs) xs) h (blanks_pass xs)))
      (λ h. subst (λ t. AllPass (white s) (take (elim t [ true ↦ suc (blank_run xs) | false ↦ 0 ]) (x ∷ xs))) (sym h) (all_none (white s)))
      (cases_Bool (is_blank x))

  feed_blank : (x : ℕ) → eqb x 10 ≡ true → is_blank x ≡ true
  feed_blank x h = grind arith

  return_blank : (x : ℕ) → eqb x 13 ≡ true → is_blank x ≡ true
  return_blank x h = grind arith

  feed_passes : (xs : List ℕ) → AllPass (white s) (take (lf xs) xs)
  feed_passes [] = all_none (white s)
  feed_passes (x ∷ xs) = ⊎_elim
      (λ h. subst (λ t. AllPass (white s) (take (elim t [ true ↦ 1 | false ↦ 0 ]) (x ∷ xs))) (sym h) (one_more x [] (feed_blank x h) (all_none (white s))))
      (λ h. subst (λ t. AllPass (white s) (take (elim t [ true ↦ 1 | false ↦ 0 ]) (x ∷ xs))) (sym h) (all_none (white s)))
      (cases_Bool (eqb x 10))

  -- the line end at the front
  pub end_passes : (xs : List ℕ) → AllPass (white s) (take (line_end xs) xs)
  end_passes [] = all_none (white s)
  end_passes (x ∷ xs) = ⊎_elim
      (λ h. subst (λ t. AllPass (white s) (take (elim t [ true ↦ suc (lf xs) | false ↦ lf (x ∷ xs) ]) (x ∷ xs))) (sym h) (one_more x (take (lf xs) xs) (return_blank x h) (feed_passes xs)))
      (λ h. subst (λ t. AllPass (white s) (take (elim t [ true ↦ suc (lf xs) | false ↦ lf (x ∷ xs) ]) (x ∷ xs))) (sym h) (feed_passes (x ∷ xs)))
      (cases_Bool (eqb x 13))

-- strips

module _ (s : Config) where
  nothing : (xs : List ℕ) → AllPass (white s) (drop (length xs) xs)
  nothing xs = subst (AllPass (white s)) (sym (drop_all (length xs) xs (omega arith))) (all_none (white s))

  left_passes : (k : ℕ) (xs : List ℕ) → AllPass (white s) (drop k xs) → AllPass (white s) (drop (left_over k xs) xs)
  left_passes zero xs a = a
  left_passes (suc k) xs a = elim (eqb (get_or xs k 0) 10) as (λ t. AllPass (white s) (drop (elim t [ true ↦ suc k | false ↦ length xs ]) xs)) [
    | true ↦ a
    | false ↦ nothing xs
  ]

  stripped_passes : (d : Bool) (xs : List ℕ) → AllPass (white s) (drop (stripped d s xs) xs)
  stripped_passes true xs = left_passes (kept (inline_white s) xs) xs (inline_passes s (drop (kept (inline_white s) xs) xs) (kept_passes (inline_white s) xs))
  stripped_passes false xs = nothing xs

  -- what is taken off the text before an opening
  pub lead_passes : (m : StartMarker) (g : Whitespace) (behind xs : List ℕ) → AllPass (white s) (drop (lead s m g behind xs) xs)
  unfolding lead
  lead_passes m Remove behind xs = kept_passes (white s) xs
  lead_passes m Preserve behind xs = nothing xs
  lead_passes m Default behind xs = stripped_passes (due s m (pushes xs behind)) xs
