-- Piles of layers over a stream: what they mean, and what calls on them tell.
use Rattle.std.specs.Prelude.{◌≡◌, ℕ, ◌-◌, Bool, true, false, List, [], ◌∷◌, ◌++◌, map, take, drop, Some, None, Option, Ok, Err, Result, option_to_list}
use Rattle.std.specs.List.{AllByRecursion}
use Rattle.finder.specs.Finding.{Opening}
use Rattle.stream.specs.Told.{Ending, Next, Look}
use Rattle.places.specs.declared.Place.{Place}
use Rattle.pieces.specs.declared.piece.Piece.{Piece}
use Rattle.pieces.specs.declared.fault.ReadFault.{ReadFault}
use Rattle.rules.specs.Config.{Config}
use Rattle.syntax.specs.Openings.{openings_of}
use Rattle.reader.specs.declared.reader.Reader.{Reader}
use Rattle.reader.specs.Views.{View, view_of, config, items_of, ending_of}
use Rattle.runs.specs.declared.pile.Turn.{Turn}
use Rattle.runs.specs.declared.pile.PileCall.{PileCall}
use Rattle.runs.specs.declared.pile.PileCall.TheVariants.{Takes, Looks}
use Rattle.layers.specs.Layers.{drop_gaps, piece_gap, piece_line, fault_line, shift_piece, shift_fault, shifted_items, shifted_ending}

-- a layer, by what it does
pub data Layer : Type 0 where
  Tokens : Layer
  Shift : Place → Layer
  LookAhead : Layer

-- what a stream means: the items still to come, and how it ends
pub record Meaning (I : Type 0) : Type 0 where
  pub items : List I
  pub ending : Ending ReadFault

-- by its items and its ending
abbrev pub meant : {I : Type 0} → List I → Ending ReadFault → Meaning I
meant is e = record { items = is; ending = e }

-- what layers ask of an item: whether it is a gap, the line on which it begins, and the same with a base added
pub record Asks (I : Type 0) : Type 0 where
  pub gap : I → Bool
  pub line : I → ℕ
  pub shifted : Place → Option ℕ → I → I

-- of pieces, as the layers' impls have it
abbrev pub of_pieces : Asks Piece
of_pieces = record { gap = piece_gap; line = piece_line; shifted = shift_piece }

-- layers over a stream of any items, by the functions that their contracts name: no gaps; the base added, where a line may be noted; an item held
abbrev pub without_gaps : {I : Type 0} → Asks I → Meaning I → Meaning I
without_gaps a m = record { items = drop_gaps a.gap m.items; ending = m.ending }

abbrev pub shifted_by : {I : Type 0} → Asks I → Place → Option ℕ → Meaning I → Meaning I
shifted_by a base first m = record {
  items = shifted_items a.line fault_line a.shifted base first m.items m.ending;
  ending = shifted_ending a.line fault_line shift_fault base first m.items m.ending;
}

abbrev pub with_held : {I : Type 0} → Option I → Meaning I → Meaning I
with_held o m = record { items = option_to_list o ++ m.items; ending = m.ending }

-- a layer as its constructor makes it: no line is noted, and nothing is held
abbrev pub layer_over : {I : Type 0} → Asks I → Layer → Meaning I → Meaning I
layer_over a Tokens m = without_gaps a m
layer_over a (Shift base) m = shifted_by a base None m
layer_over a LookAhead m = with_held None m

-- a pile of layers over a stream, the topmost first
abbrev pub pile_over : {I : Type 0} → Asks I → List Layer → Meaning I → Meaning I
pile_over a [] m = m
pile_over a (l ∷ ls) m = layer_over a l (pile_over a ls m)

-- a Shift is in the pile
unfoldable pub has_shift : List Layer → Bool
has_shift [] = false
has_shift (Tokens ∷ ls) = has_shift ls
has_shift (Shift base ∷ ls) = true
has_shift (LookAhead ∷ ls) = has_shift ls

-- what a reader means that stands at a view
abbrev pub reads : List Opening → Config → View → Meaning Piece
reads os s v = record { items = items_of os s v; ending = ending_of os s v }

-- what a pile means over a reader of the code
abbrev pub pile_of : List Layer → Reader → Meaning Piece
pile_of ls r = pile_over of_pieces ls (reads (openings_of r.settings) (config r) (view_of r))

-- a stream of these pieces and this ending means what the pile ls means over the reader r
abbrev pub IsPile : List Layer → Reader → List Piece → Ending ReadFault → Type 0
IsPile ls r is e = meant is e ≡ pile_of ls r

-- what the contract of a call allows on a stream that means m: this answer, and that it means n from there on
abbrev pub Tells : {I : Type 0} → Meaning I → PileCall → Result (Option I) ReadFault → Meaning I → Type 0
Tells m Takes r n = Next m.items m.ending r n.items n.ending
Tells m Looks r n = Look m.items m.ending r × (n.items ≡ m.items) × (n.ending ≡ m.ending)

-- answers that the contracts of the calls allow, one after the other, on a stream that means m
unfoldable pub AllTold : {I : Type 0} → Meaning I → List PileCall → List (Result (Option I) ReadFault) → Type 0
AllTold m [] [] = Unit {0}
AllTold m [] (r ∷ rs) = ⊥
AllTold m (c ∷ cs) [] = ⊥
AllTold {I} m (c ∷ cs) (r ∷ rs) = (n : Meaning I) × Tells m c r n × AllTold n cs rs

-- calls that code makes, and the answers that stand beside them
abbrev pub calls_in : {F : Type 0} → List (Turn F) → List PileCall
calls_in ts = map (λ t. t.call) ts

abbrev pub answers_in : {F : Type 0} → List (Turn F) → List (Option (Result (Option Piece) ReadFault))
answers_in ts = map (λ t. t.answer) ts

-- without the answers
abbrev pub unanswered : {F : Type 0} → Turn F → Turn F
unanswered t = record { call = t.call; finder = t.finder; answer = None }

-- calls on a stream that means m leave beside each an answer, one after the other, as their contracts allow
abbrev pub Answered : {F : Type 0} → Meaning Piece → List (Turn F) → List (Turn F) → Type 0
Answered m ts us = (rs : List (Result (Option Piece) ReadFault)) × (answers_in us ≡ map Some rs) × AllTold m (calls_in ts) rs

-- each of their finders may serve
abbrev pub AllServe : {F : Type 0} → (List Opening → Type 0) → (F → List Opening) → List (Turn F) → Type 0
AllServe serves openings ts = AllByRecursion (λ t. serves (openings t.finder)) ts

-- pieces with their texts

-- a piece with the bytes that its text range named in its template before any Shift
pub record Item : Type 0 where
  pub piece : Piece
  pub text : List ℕ

-- items know their pieces; a shift leaves the text
abbrev pub item_gap : Item → Bool
item_gap x = piece_gap x.piece

abbrev pub item_line : Item → ℕ
item_line x = piece_line x.piece

abbrev pub shift_item : Place → Option ℕ → Item → Item
shift_item base first x = record { piece = shift_piece base first x.piece; text = x.text }

abbrev pub of_items : Asks Item
of_items = record { gap = item_gap; line = item_line; shifted = shift_item }

-- a piece of the template t with the bytes of its text
abbrev pub item_in : List ℕ → Piece → Item
item_in t p = record { piece = p; text = take (p.text.end - p.text.start) (drop p.text.start t) }

-- what a reader of the template t means that stands at a view, each piece with its text
abbrev pub meaning_of : List Opening → Config → List ℕ → View → Meaning Item
meaning_of os s t v = record { items = map (item_in t) (items_of os s v); ending = ending_of os s v }

-- what a call on a pile tells, the piece with its text
abbrev pub Answer : Type 0
Answer = Result (Option Item) ReadFault

-- without the text
abbrev pub bare : Answer → Result (Option Piece) ReadFault
bare (Ok (Some x)) = Ok (Some x.piece)
bare (Ok None) = Ok None
bare (Err f) = Err f

-- the answers xs of calls on a pile over a reader that means m, each piece with its text
abbrev pub WithTexts : List Layer → Meaning Item → List PileCall → List (Result (Option Piece) ReadFault) → List Answer → Type 0
WithTexts ls m cs xs is = (map bare is ≡ xs) × AllTold (pile_over of_items ls m) cs is
