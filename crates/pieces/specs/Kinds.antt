-- The names of pieces, and which are gaps.
use Rattle.std.specs.Prelude.{ℕ, Bool, true, false, List, codes}
use Rattle.pieces.specs.declared.kind.Operator.{Operator}
use Rattle.pieces.specs.declared.kind.Operator.TheVariants.{Plus, Minus, Mul, Div, FloorDiv, Pow, Mod, Dot, Comma, Colon, Tilde, Assign, Pipe, Eq, Ne, Gt, Gte, Lt, Lte, BracketOpen, BracketClose, ParenOpen, ParenClose, BraceOpen, BraceClose}
use Rattle.pieces.specs.declared.kind.Kind.{Kind}
use Rattle.pieces.specs.declared.kind.Kind.TheVariants.{Text, RawText, VariableStart, VariableEnd, BlockStart, BlockEnd, Ident, Str, String, Int, Big, Float, Operator as Operates, White, Comment, LineComment, RawOpen, RawClose, Cut}

-- an operator's own bytes
abbrev pub operator_text : Operator → List ℕ
operator_text Plus = codes "+"
operator_text Minus = codes "-"
operator_text Mul = codes "*"
operator_text Div = codes "/"
operator_text FloorDiv = codes "//"
operator_text Pow = codes "**"
operator_text Mod = codes "%"
operator_text Dot = codes "."
operator_text Comma = codes ","
operator_text Colon = codes ":"
operator_text Tilde = codes "~"
operator_text Assign = codes "="
operator_text Pipe = codes "|"
operator_text Eq = codes "=="
operator_text Ne = codes "!="
operator_text Gt = codes ">"
operator_text Gte = codes ">="
operator_text Lt = codes "<"
operator_text Lte = codes "<="
operator_text BracketOpen = codes "["
operator_text BracketClose = codes "]"
operator_text ParenOpen = codes "("
operator_text ParenClose = codes ")"
operator_text BraceOpen = codes "{"
operator_text BraceClose = codes "}"

-- the name of a kind; an operator is named by its own bytes
abbrev pub kind_name : Kind → List ℕ
kind_name Text = codes "text"
kind_name RawText = codes "raw-text"
kind_name VariableStart = codes "var-start"
kind_name VariableEnd = codes "var-end"
kind_name BlockStart = codes "block-start"
kind_name BlockEnd = codes "block-end"
kind_name Ident = codes "ident"
kind_name Str = codes "str"
kind_name String = codes "string"
kind_name Int = codes "int"
kind_name Big = codes "big"
kind_name Float = codes "float"
kind_name (Operates o) = operator_text o
kind_name White = codes "white"
kind_name Comment = codes "comment"
kind_name LineComment = codes "line-comment"
kind_name RawOpen = codes "raw-open"
kind_name RawClose = codes "raw-close"
kind_name Cut = codes "cut"

-- the kinds of gaps
abbrev pub is_gap : Kind → Bool
is_gap Text = false
is_gap RawText = false
is_gap VariableStart = false
is_gap VariableEnd = false
is_gap BlockStart = false
is_gap BlockEnd = false
is_gap Ident = false
is_gap Str = false
is_gap String = false
is_gap Int = false
is_gap Big = false
is_gap Float = false
is_gap (Operates o) = false
is_gap White = true
is_gap Comment = true
is_gap LineComment = true
is_gap RawOpen = true
is_gap RawClose = true
is_gap Cut = true
