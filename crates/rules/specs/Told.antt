-- The pieces of a reading at their places.
use Rattle.std.specs.Prelude.{◌+◌, min, List, [], ◌∷◌, Ok, Err}
use Rattle.stream.specs.Told.{Ending}
use Rattle.places.specs.declared.Place.{Place}
use Rattle.places.specs.declared.Span.{Span}
use Rattle.places.specs.Places.{beyond, capped, offset_cap}
use Rattle.pieces.specs.declared.fault.FaultKind.{FaultKind}
use Rattle.pieces.specs.declared.fault.FaultKind.TheVariants.{UnendedComment, UnendedRaw, UnendedString, NoToken, TrailingUnderscore, NoExponent, BadInteger, AfterExpression, Escape}
use Rattle.pieces.specs.declared.fault.ReadFault.{ReadFault}
use Rattle.pieces.specs.declared.piece.Piece.{Piece}
use Rattle.rules.specs.Reading.{Part, Stop, Done, Failing, Unread, Parts}

-- places are counted without a cap and capped when they are told

-- from one place to another, as it is told
abbrev pub span : Place → Place → Span
span p q = record { start = capped p; end = capped q }

-- a piece at a place
abbrev pub placed : Place → Part → Piece
placed p x = record {
  kind = x.kind;
  span = span p (beyond x.bytes p);
  text = record { start = min (p.offset + x.from) offset_cap; end = min (p.offset + x.to) offset_cap };
  value = x.value;
}

-- one column and one byte further
abbrev pub one_on : Place → Place
one_on p = record { line = p.line; column = p.column + 1; offset = p.offset + 1 }

-- a fault spans the place reached and one column and byte further; a bad escape spans its string
abbrev pub fault_span : FaultKind → Place → Place → Span
fault_span UnendedComment p q = span q (one_on q)
fault_span UnendedRaw p q = span q (one_on q)
fault_span UnendedString p q = span q (one_on q)
fault_span NoToken p q = span q (one_on q)
fault_span TrailingUnderscore p q = span q (one_on q)
fault_span NoExponent p q = span q (one_on q)
fault_span BadInteger p q = span q (one_on q)
fault_span AfterExpression p q = span q (one_on q)
fault_span (Escape f) p q = span p q

-- how a reading ends that stops at a place; one that stopped unread would be told as finished, and the clause `ends` of the reader's `next_piece`
-- says that none does
abbrev pub ended : Place → Stop → Ending ReadFault
ended p Done = Ok tt
ended p (Failing k xs) = Err (record { kind = k; span = fault_span k p (beyond xs p) })
ended p Unread = Ok tt

-- pieces that come one behind the other from a place on
unfoldable pub pieces : Place → List Part → List Piece
pieces p [] = []
pieces p (x ∷ xs) = placed p x ∷ pieces (beyond x.bytes p) xs

-- the place behind them
unfoldable pub behind : Place → List Part → Place
behind p [] = p
behind p (x ∷ xs) = behind (beyond x.bytes p) xs

-- how they end
abbrev pub ending : Place → Parts → Ending ReadFault
ending p r = ended (behind p r.parts) r.stop
