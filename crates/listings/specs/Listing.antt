-- The listing of a template under the default settings.
use Rattle.std.specs.Prelude.{ℕ, List, [], ◌∷◌, ◌++◌, Some, None, Option, Ok, Err, codes}
use Rattle.std.specs.Fmt.{decimal}
use Rattle.stream.specs.Told.{Ending}
use Rattle.places.specs.declared.Place.{Place}
use Rattle.places.specs.Places.{first_place, place_text}
use Rattle.pieces.specs.declared.fault.ReadFault.{ReadFault}
use Rattle.pieces.specs.declared.piece.Piece.{Piece}
use Rattle.pieces.specs.Faults.{number_of as fault_number}
use Rattle.finders.specs.Defaults.{default_openings}
use Rattle.rules.specs.declared.LexerState.TheVariants.{Template}
use Rattle.rules.specs.Config.{default_config}
use Rattle.reader.specs.Faults.{Told}
use Rattle.reader.specs.Opens.{open_told}
use Rattle.reader.specs.Views.{View, unread, items_of, ending_of}
use Rattle.listings.specs.declared.row.Row.{Row}
use Rattle.listings.specs.Rows.{joined, row_text}

-- the greatest number of bytes that a template may have to be listed
abbrev pub max_listed : ℕ
max_listed = 65536

-- a space and a byte's offset, where there is one
abbrev pub byte_text : Option ℕ → List ℕ
byte_text None = []
byte_text (Some n) = codes " " ++ decimal n

-- the one line of a template that is not opened
abbrev pub refusal_line : Told → List ℕ
refusal_line r = codes "refused " ++ decimal r.number ++ byte_text r.byte ++ codes "\n"

-- the last line of a reading that is finished: that has no place of its own, so the place that was reached stands there twice
abbrev pub end_line : Place → List ℕ
end_line p = codes "end " ++ place_text p ++ codes " " ++ place_text p ++ codes "\n"

-- the last line of a reading that failed
abbrev pub fault_line : ReadFault → List ℕ
fault_line f = codes "fault " ++ decimal (fault_number f.kind) ++ codes " " ++ place_text f.span.start ++ codes " " ++ place_text f.span.end ++ codes "\n"

-- the last line
abbrev pub ending_line : Place → Ending ReadFault → List ℕ
ending_line p (Ok u) = end_line p
ending_line p (Err f) = fault_line f

-- a line for each row and the last line, from a place on
unfoldable pub lines : Place → List Row → Ending ReadFault → List ℕ
lines p [] e = ending_line p e
lines p (r ∷ rs) e = row_text r ++ codes "\n" ++ lines r.span.end rs e

-- a template of which nothing is read
abbrev pub opened : List ℕ → View
opened t = unread default_config Template t

-- its pieces, and how its reading ends
abbrev pub pieces_in : List ℕ → List Piece
pieces_in t = items_of default_openings default_config (opened t)

abbrev pub ending_in : List ℕ → Ending ReadFault
ending_in t = ending_of default_openings default_config (opened t)

-- the listing of a template
abbrev pub listing : List ℕ → List ℕ
listing t = elim (open_told max_listed t) [ Err r ↦ refusal_line r | Ok u ↦ lines first_place (joined (pieces_in t)) (ending_in t) ]
