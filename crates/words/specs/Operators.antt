-- Which operator stands at the front of bytes.
use Rattle.std.specs.Prelude.{◌≡◌, ℕ, ◌<◌, List, [], ◌∷◌, ◌++◌, length, Some, None, Option, slice_index_or}
use Rattle.pieces.specs.declared.kind.Operator.{Operator}
use Rattle.pieces.specs.declared.kind.Operator.TheVariants.{Plus, Minus, Mul, Div, Mod, Dot, Comma, Colon, Tilde, Assign, Pipe, Gt, Lt, BracketOpen, BracketClose, ParenOpen, ParenClose, BraceOpen, BraceClose}
use Rattle.pieces.specs.Kinds.{operator_text}
use Rattle.rules.specs.Tags.{operators}

-- the operators of one byte, in the order of `operators`
abbrev pub singles : List Operator
singles =
    Plus ∷ Minus ∷ Mul ∷ Div ∷ Mod ∷ Dot ∷ Comma ∷ Colon ∷ Tilde ∷ Pipe ∷ Assign ∷ Gt ∷ Lt ∷
    ParenOpen ∷ ParenClose ∷ BracketOpen ∷ BracketClose ∷ BraceOpen ∷ BraceClose ∷ []

-- the bytes begin with the operator's own
abbrev pub Begins : List ℕ → Operator → Type 0
Begins xs o = (rest : List ℕ) × (xs ≡ operator_text o ++ rest)

-- the bytes begin with the operator at the place i of the list, and with none at a place before it
abbrev pub BeginsAt : List Operator → List ℕ → Operator → ℕ → Type 0
BeginsAt os xs o i = (i < length os) × (slice_index_or os i o ≡ o) × Begins xs o × ((k : ℕ) → k < i → Begins xs (slice_index_or os k o) → ⊥)

-- the first operator of the list with which the bytes begin; of None, that they begin with no operator
abbrev pub FirstOperator : List ℕ → Option Operator → Type 0
FirstOperator xs None = (o : Operator) → Begins xs o → ⊥
FirstOperator xs (Some o) = (i : ℕ) × BeginsAt operators xs o i
