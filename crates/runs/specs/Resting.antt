-- No earlier text reaches past a resting point.
use Rattle.std.specs.Prelude.{◌≡◌, ℕ, ◌+◌, ◌<◌, Bool, true, false, List, [], ◌∷◌, drop, Some, None, Option, Ok, Err, Result}
use Rattle.finder.specs.Finding.{Opening}
use Rattle.places.specs.declared.Place.{Place}
use Rattle.places.specs.declared.Span.{Span}
use Rattle.places.specs.Places.{line_cap, offset_cap}
use Rattle.pieces.specs.declared.piece.Piece.{Piece}
use Rattle.pieces.specs.declared.fault.ReadFault.{ReadFault}
use Rattle.rules.specs.declared.LexerState.{LexerState}
use Rattle.rules.specs.Config.{Config}
use Rattle.reader.specs.Views.{View, unread}
use Rattle.reader.specs.Rests.{rests}
use Rattle.runs.specs.declared.pile.PileCall.{PileCall}
use Rattle.runs.specs.declared.Reply.{Reply}
use Rattle.runs.specs.declared.Reply.TheVariants.{Told, Rests}
use Rattle.runs.specs.Calls.{Asked, replies, behind_calls, AllLawful}
use Rattle.runs.specs.Piles.{Layer, pile_over, has_shift, of_pieces, reads, AllTold, Item, item_in, meaning_of, Answer, WithTexts}

-- agreeing

-- what is added to lines and offsets on the one side, and what on the other
pub record Amounts : Type 0 where
  pub line : ℕ
  pub other_line : ℕ
  pub offset : ℕ
  pub other_offset : ℕ

-- two lines below the cap differ by the amounts
abbrev pub LinesAgree : Amounts → ℕ → ℕ → Type 0
LinesAgree d m n = m < line_cap → n < line_cap → m + d.other_line ≡ n + d.line

-- two offsets below the cap differ by the amounts
abbrev pub OffsetsAgree : Amounts → ℕ → ℕ → Type 0
OffsetsAgree d m n = m < offset_cap → n < offset_cap → m + d.other_offset ≡ n + d.offset

-- two columns agree; with a Shift at lines below the cap only
abbrev pub ColumnsAgree : Bool → Place → Place → Type 0
ColumnsAgree false p q = p.column ≡ q.column
ColumnsAgree true p q = p.line < line_cap → q.line < line_cap → p.column ≡ q.column

abbrev pub PlacesAgree : Bool → Amounts → Place → Place → Type 0
PlacesAgree shifted d p q = LinesAgree d p.line q.line × OffsetsAgree d p.offset q.offset × ColumnsAgree shifted p q

abbrev pub SpansAgree : Bool → Amounts → Span → Span → Type 0
SpansAgree shifted d a b = PlacesAgree shifted d a.start b.start × PlacesAgree shifted d a.end b.end

-- kind, text and value are the same, and the places agree
abbrev pub ItemsAgree : Bool → Amounts → Item → Item → Type 0
ItemsAgree shifted d x y =
    (x.piece.kind ≡ y.piece.kind) × (x.text ≡ y.text) × (x.piece.value ≡ y.piece.value) × SpansAgree shifted d x.piece.span y.piece.span
    × OffsetsAgree d x.piece.text.start y.piece.text.start × OffsetsAgree d x.piece.text.end y.piece.text.end

-- the fault is the same, the place of a backslash in its text included
abbrev pub FaultsAgree : Bool → Amounts → ReadFault → ReadFault → Type 0
FaultsAgree shifted d f g = (f.kind ≡ g.kind) × SpansAgree shifted d f.span g.span

abbrev pub AnswersAgree : Bool → Amounts → Answer → Answer → Type 0
AnswersAgree shifted d (Ok (Some x)) (Ok (Some y)) = ItemsAgree shifted d x y
AnswersAgree shifted d (Ok (Some x)) (Ok None) = ⊥
AnswersAgree shifted d (Ok (Some x)) (Err g) = ⊥
AnswersAgree shifted d (Ok None) (Ok (Some y)) = ⊥
AnswersAgree shifted d (Ok None) (Ok None) = Unit {0}
AnswersAgree shifted d (Ok None) (Err g) = ⊥
AnswersAgree shifted d (Err f) (Ok (Some y)) = ⊥
AnswersAgree shifted d (Err f) (Ok None) = ⊥
AnswersAgree shifted d (Err f) (Err g) = FaultsAgree shifted d f g

-- equally long, and agreeing one by one
unfoldable pub AllAgree : {A : Type 0} → (A → A → Type 0) → List A → List A → Type 0
AllAgree R [] [] = Unit {0}
AllAgree R [] (y ∷ ys) = ⊥
AllAgree R (x ∷ xs) [] = ⊥
AllAgree R (x ∷ xs) (y ∷ ys) = R x y × AllAgree R xs ys

-- a reply, with the text of its piece in the template t
abbrev pub answer_in : List ℕ → Result (Option Piece) ReadFault → Answer
answer_in t (Ok (Some p)) = Ok (Some (item_in t p))
answer_in t (Ok None) = Ok None
answer_in t (Err f) = Err f

-- the replies of two readers, of the templates t and u
abbrev pub RepliesAgree : Amounts → List ℕ → List ℕ → Reply → Reply → Type 0
RepliesAgree d t u (Told a) (Told b) = AnswersAgree false d (answer_in t a) (answer_in u b)
RepliesAgree d t u (Told a) (Rests y) = ⊥
RepliesAgree d t u (Rests x) (Told b) = ⊥
RepliesAgree d t u (Rests x) (Rests y) = x ≡ y

-- a run: how its template was opened, the template, and the calls
pub record Run : Type 0 where
  pub state : LexerState
  pub template : List ℕ
  pub calls : List Asked

-- where it leaves the reader
abbrev pub behind_run : Config → Run → View
behind_run s r = behind_calls s (unread s r.state r.template) r.calls

-- two runs under the same settings, each by lawful finders, that come to resting points with the same bytes behind them, the cut included
pub record BothRest (os : List Opening) (s : Config) (r q : Run) : Type 0 where
  pub lawful : AllLawful os r.calls
  pub other_lawful : AllLawful os q.calls
  pub here : rests (behind_run s r) ≡ true
  pub other_here : rests (behind_run s q) ≡ true
  pub same : drop (behind_run s r).place.offset r.template ≡ drop (behind_run s q).place.offset q.template

-- from there on both tell the same: the readers; and any two streams that mean the same pile of layers over them, whichever list of next and look is called on both
abbrev pub Resting : List Opening → Config → Run → Run → Type 0
Resting os s r q =
    BothRest os s r q → (d : Amounts)
    × ((cs : List Asked) → AllLawful os cs → AllAgree (RepliesAgree d r.template q.template) (replies s (behind_run s r) cs) (replies s (behind_run s q) cs))
    × ((ls : List Layer) (cs : List PileCall) (xs ys : List (Result (Option Piece) ReadFault))
    → AllTold (pile_over of_pieces ls (reads os s (behind_run s r))) cs xs → AllTold (pile_over of_pieces ls (reads os s (behind_run s q))) cs ys
    → (is : List Answer) × (js : List Answer) × WithTexts ls (meaning_of os s r.template (behind_run s r)) cs xs is
    × WithTexts ls (meaning_of os s q.template (behind_run s q)) cs ys js × AllAgree (AnswersAgree (has_shift ls) d) is js)
