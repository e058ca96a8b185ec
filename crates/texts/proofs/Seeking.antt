-- Text to the next opening.
use Rattle.std.proofs.Common.{◌≡◌, ℕ, ◌<◌, List, [], ◌∷◌, length, None, Ok, refl, arith}
use Rattle.finder.specs.Finding.{Opening, found}
use Rattle.rules.specs.Config.{Config}
use Rattle.rules.specs.Texts.{met, real, text}

module _ (os : List Opening) (s : Config) where
  pub none_left : (b xs : List ℕ) → length xs ≡ 0 → text os s b xs ≡ Ok None
  unfolding text
  none_left b [] h = refl
  none_left b (x ∷ xs) h = absurd (omega arith)

  pub some_left : (b xs : List ℕ) → 0 < length xs → text os s b xs ≡ met s b xs (real (found os b xs))
  unfolding text
  some_left b [] h = absurd (omega arith)
  some_left b (x ∷ xs) h = refl
