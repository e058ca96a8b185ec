-- What comes inside a tag where no end does.
use Rattle.std.proofs.Common.{◌≡◌, ℕ, List, ◌∷◌, ℤ, Option, ap, ◌∙◌}
use Rattle.pieces.specs.declared.kind.Operator.{Operator}
use Rattle.rules.specs.declared.BlockSentinel.{BlockSentinel}
use Rattle.rules.specs.State.{Verdict}
use Rattle.rules.specs.Tags.{operators, first_standing, token_by, token}

-- what the operator at the front decides
pub token_by_is : (behind : List ℕ) (k : BlockSentinel) (b : ℤ) (x : ℕ) (xs ys : List ℕ) (o : Option Operator) (r : Verdict) → ys ≡ x ∷ xs → o ≡ first_standing operators ys
    → r ≡ token_by o behind k b x xs → r ≡ token behind k b x xs
token_by_is behind k b x xs ys o r e f g = g ∙ ap (λ p. token_by p behind k b x xs) (f ∙ ap (first_standing operators) e)
