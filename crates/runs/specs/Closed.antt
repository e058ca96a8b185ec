-- What closing tells of a run, by its replies alone.
use Rattle.std.specs.Prelude.{◌≡◌, List, [], ◌∷◌, map, ℤ, pos, ◌+ℤ◌, Some, None, Option, Ok, Err, Result}
use Rattle.stream.specs.Told.{Ending}
use Rattle.places.specs.declared.Place.{Place}
use Rattle.places.specs.Places.{first_place}
use Rattle.pieces.specs.declared.kind.Kind.{Kind}
use Rattle.pieces.specs.declared.kind.Kind.TheVariants.{Operator as Operates}
use Rattle.pieces.specs.declared.piece.Piece.{Piece}
use Rattle.pieces.specs.declared.fault.ReadFault.{ReadFault}
use Rattle.rules.specs.Tags.{weight}
use Rattle.reader.specs.declared.closing.Closed.{Closed}
use Rattle.reader.specs.declared.fault.OpenFault.{OpenFault}
use Rattle.runs.specs.declared.Call.{Call}
use Rattle.runs.specs.declared.Reply.{Reply}
use Rattle.runs.specs.declared.Reply.TheVariants.{Told, Rests}
use Rattle.runs.specs.Calls.{replies_of}
use Rattle.runs.specs.Whole.{pieces_of}

-- the end of the last piece, and where there is none this place
unfoldable pub end_of_last : Place → List Piece → Place
end_of_last q [] = q
end_of_last q (p ∷ ps) = end_of_last p.span.end ps

-- the end of the last piece that is told, and before any the first place
abbrev pub last_end : List Reply → Place
last_end rs = end_of_last first_place (pieces_of rs)

-- the ending that a reply tells, if it tells one
abbrev pub ending_in : Reply → Option (Ending ReadFault)
ending_in (Told (Ok (Some p))) = None
ending_in (Told (Ok None)) = Some (Ok tt)
ending_in (Told (Err f)) = Some (Err f)
ending_in (Rests b) = None

-- the ending that is told, once it is
unfoldable pub told_ending : List Reply → Option (Ending ReadFault)
told_ending [] = None
told_ending (r ∷ rs) = elim (ending_in r) [ Some e ↦ Some e | None ↦ told_ending rs ]

-- what a piece adds to the balance of brackets: an operator its weight, and any other piece nothing
abbrev pub weight_of : Kind → ℤ
weight_of (Operates o) = weight o
weight_of k = pos 0

-- what some pieces add together
unfoldable pub weights : List Piece → ℤ
weights [] = pos 0
weights (p ∷ ps) = weight_of p.kind +ℤ weights ps

-- the balance of the brackets that are told, openers less closers
abbrev pub balance_of : List Reply → ℤ
balance_of rs = weights (pieces_of rs)

-- what closing tells behind these replies
pub record Closes (rs : List Reply) (c : Closed) : Type 0 where
  pub end : c.end ≡ last_end rs
  pub ending : c.ending ≡ told_ending rs
  pub balance : c.balance ≡ balance_of rs

-- what closing tells behind the replies that stand beside the calls
abbrev pub ClosedBehind : {F : Type 0} → List (Call F) → Result Closed OpenFault → Type 0
ClosedBehind ds (Ok c) = (rs : List Reply) × (replies_of ds ≡ map Some rs) × Closes rs c
ClosedBehind ds (Err f) = Unit {0}
