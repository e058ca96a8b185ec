-- Reading inside tags.
use Rattle.std.specs.Prelude.{ℕ, zero, suc, ◌+◌, Bool, true, false, ◌&&◌, ◌||◌, List, [], ◌∷◌, length, drop, ℤ, pos, negsuc, ◌+ℤ◌, Some, None, Option, ◌==◌, Ok}
use Rattle.byte_search.specs.Search.{stands_at}
use Rattle.spaces.specs.Lines.{blank_run, line_end}
use Rattle.spaces.specs.Runs.{white_run}
use Rattle.pieces.specs.declared.kind.Operator.{Operator}
use Rattle.pieces.specs.declared.kind.Operator.TheVariants.{Plus, Minus, Mul, Div, FloorDiv, Pow, Mod, Dot, Comma, Colon, Tilde, Assign, Pipe, Eq, Ne, Gt, Gte, Lt, Lte, BracketOpen, BracketClose, ParenOpen, ParenClose, BraceOpen, BraceClose}
use Rattle.pieces.specs.declared.kind.Kind.TheVariants.{VariableEnd, BlockEnd, Ident, Operator as Operates, White}
use Rattle.pieces.specs.declared.fault.FaultKind.TheVariants.{NoToken}
use Rattle.pieces.specs.Kinds.{operator_text}
use Rattle.rules.specs.declared.BlockSentinel.{BlockSentinel}
use Rattle.rules.specs.declared.BlockSentinel.TheVariants.{Variable, Block, LineStatement, Expression}
use Rattle.rules.specs.declared.LexerState.{LexerState}
use Rattle.rules.specs.declared.LexerState.TheVariants.{Template, Inside, Over}
use Rattle.rules.specs.declared.Pending.{Pending}
use Rattle.rules.specs.declared.Pending.TheVariants.{Nothing, Trim, Tail}
use Rattle.rules.specs.declared.whitespace.Whitespace.{Whitespace}
use Rattle.rules.specs.declared.whitespace.Whitespace.TheVariants.{Default, Preserve, Remove}
use Rattle.rules.specs.Config.{Config, inline_white}
use Rattle.rules.specs.Bytes.{is_digit, leads_name, is_name_part, is_sign, sign_of, run}
use Rattle.rules.specs.Numbers.{number}
use Rattle.rules.specs.State.{plain, Verdict, fault}
use Rattle.rules.specs.Strings.{string}

-- Tail, with these bytes behind the end: `-` orders a trim; no sign with trim_blocks passes one CR, then one LF over, which is a line end

-- so many bytes are to be passed over, if any
abbrev pub tail_of : ℕ → Pending
tail_of zero = Nothing
tail_of (suc n) = Tail (suc n)

abbrev pub tail : Config → Whitespace → List ℕ → Pending
tail s Remove xs = Trim
tail s Preserve xs = Nothing
tail s Default xs = elim s.trim_blocks [ true ↦ tail_of (line_end xs) | false ↦ Nothing ]

-- operators: those of two bytes are tried first

abbrev pub operators : List Operator
operators =
    FloorDiv ∷ Pow ∷ Eq ∷ Ne ∷ Gte ∷ Lte ∷ Plus ∷ Minus ∷ Mul ∷ Div ∷ Mod ∷ Dot ∷ Comma ∷ Colon ∷ Tilde ∷ Pipe ∷ Assign ∷ Gt ∷ Lt ∷
    ParenOpen ∷ ParenClose ∷ BracketOpen ∷ BracketClose ∷ BraceOpen ∷ BraceClose ∷ []

-- the first of the operators whose bytes stand here
unfoldable pub first_standing : List Operator → List ℕ → Option Operator
first_standing [] xs = None
first_standing (o ∷ os) xs = elim (stands_at (operator_text o) xs) [ true ↦ Some o | false ↦ first_standing os xs ]

-- what an operator adds to the balance of brackets: an opener 1, a closer takes 1
abbrev pub weight : Operator → ℤ
weight ParenOpen = pos 1
weight BracketOpen = pos 1
weight BraceOpen = pos 1
weight ParenClose = negsuc 0
weight BracketClose = negsuc 0
weight BraceClose = negsuc 0
weight Plus = pos 0
weight Minus = pos 0
weight Mul = pos 0
weight Div = pos 0
weight FloorDiv = pos 0
weight Pow = pos 0
weight Mod = pos 0
weight Dot = pos 0
weight Comma = pos 0
weight Colon = pos 0
weight Tilde = pos 0
weight Assign = pos 0
weight Pipe = pos 0
weight Eq = pos 0
weight Ne = pos 0
weight Gt = pos 0
weight Gte = pos 0
weight Lt = pos 0
weight Lte = pos 0

-- a dot is right before this place
abbrev pub dot_behind : List ℕ → Bool
dot_behind [] = false
dot_behind (b ∷ bs) = b == 46

-- a string, a number or an identifier; else no token begins here
unfoldable pub literal : List ℕ → LexerState → ℕ → List ℕ → Verdict
literal behind m x xs =
    elim (x == 34 || x == 39) [
      | true ↦ string x m xs
      | false ↦
          elim (is_digit x) [
            | true ↦ number (dot_behind behind) m (x ∷ xs)
            | false ↦
                elim (leads_name x) [ true ↦ plain Ident (run is_name_part (x ∷ xs)) m Nothing | false ↦ fault NoToken 0 ]
          ]
    ]

-- an operator, else a literal
abbrev pub token_by : Option Operator → List ℕ → BlockSentinel → ℤ → ℕ → List ℕ → Verdict
token_by (Some o) behind k b x xs = plain (Operates o) (length (operator_text o)) (Inside k (b +ℤ weight o)) Nothing
token_by None behind k b x xs = literal behind (Inside k b) x xs

abbrev pub token : List ℕ → BlockSentinel → ℤ → ℕ → List ℕ → Verdict
token behind k b x xs = token_by (first_standing operators (x ∷ xs)) behind k b x xs

-- the ends of tags

-- what ends the tag; a line statement has no such end
abbrev pub end_of : Config → BlockSentinel → Option (List ℕ)
end_of s Variable = Some s.variable_end
end_of s Expression = Some s.variable_end
end_of s Block = Some s.block_end
end_of s LineStatement = None

-- `-` orders a trim behind a variable
abbrev pub trim_by : Whitespace → Pending
trim_by Remove = Trim
trim_by Preserve = Nothing
trim_by Default = Nothing

-- an end of n bytes with its sign: behind a block Tail follows, behind an expression nothing more;
-- a line statement has no such end (`end_of`), so its case is never reached
abbrev pub closing : Config → BlockSentinel → Whitespace → ℕ → List ℕ → Verdict
closing s Variable g n xs = plain VariableEnd n Template (trim_by g)
closing s Expression g n xs = plain VariableEnd n Over Nothing
closing s Block g n xs = plain BlockEnd n Template (tail s g (drop n xs))
closing s LineStatement g n xs = plain BlockEnd n Template Nothing

-- a sign and the end are tried first, then the end alone
abbrev pub closes : Config → BlockSentinel → List ℕ → ℕ → List ℕ → Option Verdict
closes s k e x xs =
    elim (is_sign x && stands_at e xs) [
      | true ↦ Some (closing s k (sign_of x) (suc (length e)) (x ∷ xs))
      | false ↦ elim (stands_at e (x ∷ xs)) [ true ↦ Some (closing s k Default (length e) (x ∷ xs)) | false ↦ None ]
    ]

-- the end of the tag, if it stands here
abbrev pub close_by : Config → BlockSentinel → Option (List ℕ) → ℕ → List ℕ → Option Verdict
close_by s k None x xs = None
close_by s k (Some e) x xs = closes s k e x xs

-- exactly 0
abbrev pub is_zero : ℤ → Bool
is_zero (pos zero) = true
is_zero (pos (suc n)) = false
is_zero (negsuc n) = false

-- at balance exactly 0 the end of the tag, if it stands here
unfoldable pub close : Config → BlockSentinel → ℤ → ℕ → List ℕ → Option Verdict
close s k b x xs = elim (is_zero b) [ true ↦ close_by s k (end_of s k) x xs | false ↦ None ]

-- the end of the tag, else a token
abbrev pub inside : Config → List ℕ → BlockSentinel → ℤ → ℕ → List ℕ → Verdict
inside s behind k b x xs = elim (close s k b x xs) [ Some v ↦ v | None ↦ token behind k b x xs ]

-- ASCII blanks are passed over
abbrev pub blanks : Config → List ℕ → BlockSentinel → ℤ → ℕ → List ℕ → ℕ → Verdict
blanks s behind k b x xs zero = inside s behind k b x xs
blanks s behind k b x xs (suc n) = plain White (suc n) (Inside k b) Nothing

-- n bytes of white space and the line end behind them, if there is one, together; none where neither a line end nor the template's end follows
abbrev pub line_rest : ℕ → List ℕ → Option ℕ
line_rest n [] = Some n
line_rest n (x ∷ xs) = elim (line_end (x ∷ xs)) [ zero ↦ None | suc k ↦ Some (n + suc k) ]

-- in a line statement at balance 0: how many bytes White_Space other than CR and LF and the line end behind it, if there is one, have together;
-- none where neither a line end nor the template's end follows
abbrev pub statement_end : Config → BlockSentinel → ℤ → List ℕ → Option ℕ
statement_end s Variable b xs = None
statement_end s Block b xs = None
statement_end s Expression b xs = None
statement_end s LineStatement b xs =
    elim (is_zero b) [ true ↦ line_rest (white_run (inline_white s) xs) (drop (white_run (inline_white s) xs) xs) | false ↦ None ]

-- the template's end: a line statement is closed there, and any other tag stays open
abbrev pub tag_end : BlockSentinel → Verdict
tag_end Variable = Ok None
tag_end Block = Ok None
tag_end Expression = Ok None
tag_end LineStatement = plain BlockEnd 0 Template Nothing

-- what comes inside a tag at a balance
unfoldable pub tag_verdict : Config → List ℕ → BlockSentinel → ℤ → List ℕ → Verdict
tag_verdict s behind k b [] = tag_end k
tag_verdict s behind k b (x ∷ xs) =
    elim (statement_end s k b (x ∷ xs)) [
      | Some n ↦ plain BlockEnd n Template Nothing
      | None ↦ blanks s behind k b x xs (blank_run (x ∷ xs))
    ]
