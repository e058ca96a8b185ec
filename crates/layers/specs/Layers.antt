-- What layers make of the meaning of the stream below: of its items and its ending.
use Rattle.std.specs.Prelude.{◌≡◌, ℕ, ◌+◌, ◌<◌, min, Bool, true, false, not, List, [], ◌∷◌, length, map, Some, None, Option, Ok, Err, ◌==◌, slice_index_or}
use Rattle.std.specs.List.{filter}
use Rattle.std.specs.Option.{option_or}
use Rattle.places.specs.declared.Place.{Place}
use Rattle.places.specs.declared.Span.{Span}
use Rattle.places.specs.Places.{line_cap, column_cap, offset_cap}
use Rattle.pieces.specs.declared.piece.TextRange.{TextRange}
use Rattle.pieces.specs.declared.piece.Piece.{Piece}
use Rattle.pieces.specs.declared.fault.ReadFault.{ReadFault}
use Rattle.pieces.specs.Kinds.{is_gap}
use Rattle.stream.specs.Told.{Ending}

-- the items that are no gaps, in their order
abbrev pub drop_gaps : {I : Type 0} → (I → Bool) → List I → List I
drop_gaps gap xs = filter (λ x. not (gap x)) xs

-- in words: the items told stand below at rising places, and these are exactly the places whose items are no gaps
pub record Drops {I : Type 0} (gap : I → Bool) (xs ys : List I) : Type 0 where
  pub at : ℕ → ℕ
  pub rises : (i j : ℕ) → i < j → j < length ys → at i < at j
  pub reads : (j : ℕ) (d : I) → j < length ys → (at j < length xs) × (slice_index_or ys j d ≡ slice_index_or xs (at j) d) × (gap (slice_index_or xs (at j) d) ≡ false)
  pub all : (k : ℕ) (d : I) → k < length xs → gap (slice_index_or xs k d) ≡ false → (j : ℕ) × (j < length ys) × (at j ≡ k)

-- a piece is a gap by its kind
abbrev pub piece_gap : Piece → Bool
piece_gap p = is_gap p.kind

-- a piece or a fault begins on the line where its span starts
abbrev pub piece_line : Piece → ℕ
piece_line p = p.span.start.line

abbrev pub fault_line : ReadFault → ℕ
fault_line f = f.span.start.line

-- the line of the ending's fault; a finished stream has none
abbrev pub end_line : {F : Type 0} → (F → ℕ) → Ending F → Option ℕ
end_line line (Ok t) = None
end_line line (Err f) = Some (line f)

-- the line number where the first item begins, and with none the ending's fault
abbrev pub first_line : {I F : Type 0} → (I → ℕ) → (F → ℕ) → List I → Ending F → Option ℕ
first_line line last [] e = end_line last e
first_line line last (x ∷ xs) e = Some (line x)

-- the line is the first line
abbrev pub on_first : Option ℕ → ℕ → Bool
on_first None n = false
on_first (Some f) n = n == f

-- a column with the base's added, up to the cap; on other lines it stays
abbrev pub shift_column : Bool → ℕ → ℕ → ℕ
shift_column true base c = min (c + base) column_cap
shift_column false base c = c

-- an offset with the base's added, up to the cap
abbrev pub shift_offset : Place → ℕ → ℕ
shift_offset base n = min (n + base.offset) offset_cap

-- a place with the base added, up to the caps; the column moves at the first line only
abbrev pub shift_place : Place → Option ℕ → Place → Place
shift_place base first p = record {
  line = min (p.line + base.line) line_cap;
  column = shift_column (on_first first p.line) base.column p.column;
  offset = shift_offset base p.offset;
}

-- both places of a span
abbrev pub shift_span : Place → Option ℕ → Span → Span
shift_span base first s = record { start = shift_place base first s.start; end = shift_place base first s.end }

-- both ends of a text range
abbrev pub shift_range : Place → TextRange → TextRange
shift_range base t = record { start = shift_offset base t.start; end = shift_offset base t.end }

-- a piece's span and text range; its kind and value stay
abbrev pub shift_piece : Place → Option ℕ → Piece → Piece
shift_piece base first p = record { kind = p.kind; span = shift_span base first p.span; text = shift_range base p.text; value = p.value }

-- a fault's span; its kind stays, and so the place of a backslash in a string's text
abbrev pub shift_fault : Place → Option ℕ → ReadFault → ReadFault
shift_fault base first f = record { kind = f.kind; span = shift_span base first f.span }

-- an ending's fault
abbrev pub shift_end : {F : Type 0} → (Place → Option ℕ → F → F) → Place → Option ℕ → Ending F → Ending F
shift_end shifted base first (Ok t) = Ok t
shift_end shifted base first (Err f) = Err (shifted base first f)

-- a shift of the items and the ending below, where a line may be noted already: the line noted stays, and with none it is the first
abbrev pub shifted_items : {I F : Type 0} → (I → ℕ) → (F → ℕ) → (Place → Option ℕ → I → I) → Place → Option ℕ → List I → Ending F → List I
shifted_items line last shifted base first xs e = map (shifted base (option_or first (first_line line last xs e))) xs

abbrev pub shifted_ending : {I F : Type 0} → (I → ℕ) → (F → ℕ) → (Place → Option ℕ → F → F) → Place → Option ℕ → List I → Ending F → Ending F
shifted_ending line last shifted base first xs e = shift_end shifted base (option_or first (first_line line last xs e)) e

-- in words: as many items, each the one below at its place, shifted
pub record Shifts {I : Type 0} (shifted : Place → Option ℕ → I → I) (base : Place) (first : Option ℕ) (xs ys : List I) : Type 0 where
  pub many : length ys ≡ length xs
  pub each : (k : ℕ) (d e : I) → k < length xs → slice_index_or ys k d ≡ shifted base first (slice_index_or xs k e)
