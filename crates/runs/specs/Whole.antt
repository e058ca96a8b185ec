-- Nothing lost, doubled or invented: the pieces of a run are the template.
use Rattle.std.specs.Prelude.{◌≡◌, ℕ, ◌≤◌, Bool, true, false, List, [], ◌∷◌, ◌++◌, length, Some, None, Ok, Err}
use Rattle.std.specs.List.{list_any}
use Rattle.pieces.specs.declared.piece.Piece.{Piece}
use Rattle.rules.specs.At.{place_at}
use Rattle.rules.specs.Told.{span}
use Rattle.runs.specs.declared.Reply.{Reply}
use Rattle.runs.specs.declared.Reply.TheVariants.{Told, Rests}

-- the piece that a reply tells, if it tells one
abbrev pub piece_of : Reply → List Piece
piece_of (Told (Ok (Some p))) = p ∷ []
piece_of (Told (Ok None)) = []
piece_of (Told (Err f)) = []
piece_of (Rests b) = []

-- the pieces that are told, in their order
unfoldable pub pieces_of : List Reply → List Piece
pieces_of [] = []
pieces_of (r ∷ rs) = piece_of r ++ pieces_of rs

-- the reply tells that the reading is finished
abbrev pub finishes : Reply → Bool
finishes (Told (Ok (Some p))) = false
finishes (Told (Ok None)) = true
finishes (Told (Err f)) = false
finishes (Rests b) = false

-- the piece spans the bytes of t from i to j, and its text lies in them
abbrev pub Spans : List ℕ → ℕ → ℕ → Piece → Type 0
Spans t i j p = (p.span ≡ span (place_at t i) (place_at t j)) × (i ≤ p.text.start) × (p.text.start ≤ p.text.end) × (p.text.end ≤ j)

-- the pieces lie one behind the other from i to j, and for each P holds of its begin, its end and the piece
unfoldable pub Along : (ℕ → ℕ → Piece → Type 0) → ℕ → List Piece → ℕ → Type 0
Along P i [] j = i ≡ j
Along P i (p ∷ ps) j = (k : ℕ) × (i ≤ k) × P i k p × Along P k ps j

-- the pieces that are told begin at byte 0 and adjoin, and once it is told that the reading is finished they are all of the template
abbrev pub Whole : List ℕ → List Reply → Type 0
Whole t rs = (j : ℕ) × (j ≤ length t) × Along (Spans t) 0 (pieces_of rs) j × (list_any finishes rs ≡ true → j ≡ length t)
