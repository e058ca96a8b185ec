-- Records whose ranges are good.
use Rattle.std.proofs.Common.{◌≡◌, ℕ, true, ◌&&◌, List, ◌∷◌, ap}
use Rattle.pieces.specs.declared.piece.Piece.{Piece}
use Rattle.records.specs.Taken.{is_good, all_good}

-- behind a good record the others decide
pub all_good_at : (n : ℕ) (p : Piece) (ps : List Piece) → is_good n p ≡ true → all_good n (p ∷ ps) ≡ all_good n ps
all_good_at n p ps e = ap (λ b. b && all_good n ps) e
