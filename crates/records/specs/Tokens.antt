-- The token that a record with its template gives.
use Rattle.std.specs.Prelude.{ℕ, List, Option, slice_range}
use Rattle.pieces.specs.declared.kind.Operator.{Operator}
use Rattle.pieces.specs.declared.kind.Kind.{Kind}
use Rattle.pieces.specs.declared.kind.Kind.TheVariants as kind
use Rattle.pieces.specs.declared.piece.Piece.{Piece}
use Rattle.records.specs.declared.token.Token.{Token}
use Rattle.records.specs.declared.token.Token.TheVariants as token

-- a token by its bytes
pub data Shown : Type 0 where
  text : List ℕ → Shown
  raw_text : List ℕ → Shown
  var_start : Shown
  var_end : Shown
  block_start : Shown
  block_end : Shown
  ident : List ℕ → Shown
  str : List ℕ → Shown
  string : List ℕ → Shown
  int : Option ℕ → Shown
  big : List ℕ → Shown
  float : List ℕ → Shown
  operator : Operator → Shown
  white : List ℕ → Shown
  comment : List ℕ → Shown
  line_comment : List ℕ → Shown
  raw_open : List ℕ → Shown
  raw_close : List ℕ → Shown
  cut : List ℕ → Shown

-- what a borrowed token shows: the bytes to which its part of the template points
abbrev pub shown : Token → Shown
shown (token.Text s) = text s.now
shown (token.RawText s) = raw_text s.now
shown token.VariableStart = var_start
shown token.VariableEnd = var_end
shown token.BlockStart = block_start
shown token.BlockEnd = block_end
shown (token.Ident s) = ident s.now
shown (token.Str s) = str s.now
shown (token.String s) = string s.now
shown (token.Int n) = int n
shown (token.Big s) = big s.now
shown (token.Float s) = float s.now
shown (token.Operator o) = operator o
shown (token.White s) = white s.now
shown (token.Comment s) = comment s.now
shown (token.LineComment s) = line_comment s.now
shown (token.RawOpen s) = raw_open s.now
shown (token.RawClose s) = raw_close s.now
shown (token.Cut s) = cut s.now

-- the token of a kind with these bytes and this value
abbrev pub token_of : Kind → List ℕ → Option ℕ → Shown
token_of kind.Text xs v = text xs
token_of kind.RawText xs v = raw_text xs
token_of kind.VariableStart xs v = var_start
token_of kind.VariableEnd xs v = var_end
token_of kind.BlockStart xs v = block_start
token_of kind.BlockEnd xs v = block_end
token_of kind.Ident xs v = ident xs
token_of kind.Str xs v = str xs
token_of kind.String xs v = string xs
token_of kind.Int xs v = int v
token_of kind.Big xs v = big xs
token_of kind.Float xs v = float xs
token_of (kind.Operator o) xs v = operator o
token_of kind.White xs v = white xs
token_of kind.Comment xs v = comment xs
token_of kind.LineComment xs v = line_comment xs
token_of kind.RawOpen xs v = raw_open xs
token_of kind.RawClose xs v = raw_close xs
token_of kind.Cut xs v = cut xs

-- the token of a record: of its kind, with the bytes that its text range names and its value
abbrev pub record_token : List ℕ → Piece → Shown
record_token xs p = token_of p.kind (slice_range xs p.text.start p.text.end) p.value
