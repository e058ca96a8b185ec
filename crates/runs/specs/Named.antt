-- Nothing misnamed: no opening lies in plain text, the longest opening names what it begins, and every piece has its form and its value.
use Rattle.std.specs.Prelude.{◌≡◌, ℕ, zero, suc, ◌+◌, ◌-◌, ◌^◌, ◌<◌, ◌≤◌, ◌⊎◌, Bool, true, false, ◌||◌, List, [], ◌∷◌, length, take, drop, None, Some, Option, Ok, ◌==◌, slice_index}
use Rattle.std.specs.List.{ContainsAt as Has}
use Rattle.byte_search.specs.Search.{first_in, First, Stands}
use Rattle.decode.specs.Decoding.{decoded_len}
use Rattle.finder.specs.declared.StartMarker.{StartMarker}
use Rattle.finder.specs.declared.StartMarker.TheVariants.{Variable as VariableMarker, Block as BlockMarker, Comment as CommentMarker, LineStatement as StatementMarker, LineComment as LineCommentMarker}
use Rattle.finder.specs.Finding.{Opening, QualifiesAt}
use Rattle.spaces.specs.Runs.{AllPass, Longest}
use Rattle.spaces.specs.Lines.{LineEnd}
use Rattle.pieces.specs.declared.kind.Kind.{Kind}
use Rattle.pieces.specs.declared.kind.Kind.TheVariants.{Text, RawText, VariableStart, VariableEnd, BlockStart, BlockEnd, Ident, Str, String, Int, Big, Float, Operator as Operates, White, Comment, LineComment, RawOpen, RawClose, Cut}
use Rattle.pieces.specs.declared.kind.Operator.{Operator}
use Rattle.pieces.specs.Kinds.{operator_text}
use Rattle.rules.specs.Bytes.{sign_len, in_line, is_digit, leads_name, is_name_part, LongestRun}
use Rattle.rules.specs.Config.{Config, white, inline_white}
use Rattle.rules.specs.Reading.{left_len}
use Rattle.rules.specs.declared.EndRaw.{EndRaw}
use Rattle.rules.specs.declared.NumberState.{NumberState}
use Rattle.rules.specs.declared.NumberState.TheVariants.{RadixInteger, Integer, Fraction, ExponentDigits}
use Rattle.rules.specs.Numbers.{base_of}
use Rattle.rules.specs.Strings.{quote_end}
use Rattle.rules.specs.Tags.{operators, first_standing}
use Rattle.rules.specs.Texts.{Basic, basic_end, basic_tag, raw_name, opening_sign}
use Rattle.numbers.specs.Longest.{Longest as LongestNumber}
use Rattle.numbers.specs.Within.{EndsIn}
use Rattle.numbers.specs.Written.{Written}
use Rattle.raws.specs.Closers.{TagSpelt, CloserSpelt, Closes, FirstCloser}
use Rattle.runs.specs.Whole.{Spans, Along, pieces_of}
use Rattle.runs.specs.declared.Reply.{Reply}

-- no opening qualifies at a place of u from i to j
abbrev pub NoOpening : List Opening → List ℕ → ℕ → ℕ → Type 0
NoOpening os u i j = (k : ℕ) (o : Opening) → i ≤ k → k < j → Has os o → QualifiesAt o u k → ⊥

-- the opening qualifies at the place i of u, and none that is longer does
abbrev pub LongestAt : List Opening → List ℕ → ℕ → Opening → Type 0
LongestAt os u i o = Has os o × QualifiesAt o u i × ((p : Opening) → Has os p → QualifiesAt p u i → length p.bytes ≤ length o.bytes)

-- the longest opening that qualifies at the place i of u is of this kind; it has n bytes with its sign
abbrev pub OpensAt : List Opening → StartMarker → List ℕ → ℕ → ℕ → Type 0
OpensAt os m u i n = (o : Opening) × LongestAt os u i o × (o.marker ≡ m) × (n ≡ length o.bytes + sign_len (opening_sign m (drop (i + length o.bytes) u)))

-- the start of a variable: an opening with its sign
abbrev pub IsVariableStart : List Opening → List ℕ → ℕ → ℕ → Type 0
IsVariableStart os u i j = (n : ℕ) × OpensAt os VariableMarker u i n × (j ≡ i + n)

-- the start of a block that is no raw block, or of a line statement: an opening with its sign
abbrev pub IsBlockStart : List Opening → Config → List ℕ → ℕ → ℕ → Type 0
IsBlockStart os s u i j =
    (n : ℕ) × ((OpensAt os BlockMarker u i n × (basic_tag raw_name s.block_end (drop (i + n) u) ≡ None)) ⊎ OpensAt os StatementMarker u i n) × (j ≡ i + n)

-- the end of a tag: an optional sign, which is tried first, and the bytes of the end
abbrev pub IsEnd : List ℕ → List ℕ → ℕ → ℕ → Type 0
IsEnd end u i j = (r : Basic) × (basic_end end 0 (drop i u) ≡ Some r) × (j ≡ i + r.0)

-- the end of a line statement: White_Space other than CR and LF, as much as there is, and behind it one line end, or nothing
abbrev pub IsStatementEnd : Config → List ℕ → ℕ → ℕ → Type 0
IsStatementEnd s u i j =
    (a : ℕ) × Longest (inline_white s) (drop i u) a × (b : ℕ) × LineEnd (drop (i + a) u) b × (j ≡ i + a + b) × ((0 < b) ⊎ (j ≡ length u))

-- an identifier: a byte that leads one, and all the bytes behind it that one is made of
abbrev pub IsIdent : List ℕ → ℕ → ℕ → Type 0
IsIdent u i j = (n : ℕ) × (leads_name (slice_index (drop i u) 0) ≡ true) × LongestRun is_name_part (drop i u) n × (j ≡ i + n)

-- an operator: the first of them whose bytes stand there
abbrev pub IsOperator : Operator → List ℕ → ℕ → ℕ → Type 0
IsOperator o u i j = (first_standing operators (drop i u) ≡ Some o) × (j ≡ i + length (operator_text o))

-- a text of n bytes between quotes: a quote, and the next like it that is not escaped
abbrev pub IsQuoted : ℕ → List ℕ → ℕ → ℕ → Type 0
IsQuoted n u i j =
    let q : ℕ = slice_index (drop i u) 0 in
    ((q == 34 || q == 39) ≡ true) × (quote_end q false (drop (i + 1) u) ≡ Some n) × (j ≡ i + (n + 2))

-- a string without a backslash
abbrev pub IsStr : List ℕ → ℕ → ℕ → Type 0
IsStr u i j = (n : ℕ) × IsQuoted n u i j × (first_in (92 ∷ []) (take n (drop (i + 1) u)) ≡ None)

-- a string with one
abbrev pub IsString : List ℕ → ℕ → ℕ → Type 0
IsString u i j = (n : ℕ) × IsQuoted n u i j × (k : ℕ) × (first_in (92 ∷ []) (take n (drop (i + 1) u)) ≡ Some k)

-- a dot is right before the place i of u
abbrev pub is_dotted : List ℕ → ℕ → Bool
is_dotted u zero = false
is_dotted u (suc i) = slice_index u i == 46

-- how many bytes before the digits tell the base
abbrev pub prefix_len : ℕ → ℕ
prefix_len base = elim (base == 10) [ true ↦ 0 | false ↦ 2 ]

-- the part in which the digits begin
abbrev pub first_part : ℕ → NumberState
first_part base = elim (base == 10) [ true ↦ Integer | false ↦ RadixInteger ]

-- the bytes behind those that tell the base of the number at the place i of u
abbrev pub digits_at : List ℕ → ℕ → List ℕ
digits_at u i = drop (prefix_len (base_of (drop i u))) (drop i u)

-- a number: it begins with a digit, and its first two bytes decide the base; behind those that tell it come all the bytes that lead on from part to part.
-- They are n, the last is no `_`, and the number stops in the part p
pub record IsNumber (n : ℕ) (p : NumberState) (u : List ℕ) (i j : ℕ) : Type 0 where
  pub begins : is_digit (slice_index (drop i u) 0) ≡ true
  pub longest : LongestNumber (base_of (drop i u)) (is_dotted u i) (first_part (base_of (drop i u))) (digits_at u i) n p
  pub ends : EndsIn 95 (take n (digits_at u i)) → ⊥
  pub reaches : j ≡ i + (prefix_len (base_of (drop i u)) + n)

-- an integer of the value v: a number that stops in the part of an integer, and its digits write v
abbrev pub IsInteger : ℕ → List ℕ → ℕ → ℕ → Type 0
IsInteger v u i j =
    (n : ℕ) × (p : NumberState) × IsNumber n p u i j × ((p ≡ Integer) ⊎ (p ≡ RadixInteger)) × Written (base_of (drop i u)) (take n (digits_at u i)) (Some v)

-- an integer below 2^64
abbrev pub IsInt : List ℕ → ℕ → ℕ → Type 0
IsInt u i j = (v : ℕ) × IsInteger v u i j × (v < 2 ^ 64)

-- an integer from 2^64 on, below 2^128
abbrev pub IsBig : List ℕ → ℕ → ℕ → Type 0
IsBig u i j = (v : ℕ) × IsInteger v u i j × (2 ^ 64 ≤ v) × (v < 2 ^ 128)

-- a number that stops in a fraction or in the digits of an exponent
abbrev pub IsFloat : List ℕ → ℕ → ℕ → Type 0
IsFloat u i j = (n : ℕ) × (p : NumberState) × IsNumber n p u i j × ((p ≡ Fraction) ⊎ (p ≡ ExponentDigits))

-- a comment: an opening with its sign, a body, and the comment end, which stands nowhere before
abbrev pub IsComment : List Opening → Config → List ℕ → ℕ → ℕ → Type 0
IsComment os s u i j =
    (n : ℕ) × OpensAt os CommentMarker u i n
    × (d : ℕ) × First (Stands s.comment_end (drop (i + n) u)) (Some d) × (j ≡ i + n + d + length s.comment_end)

-- a line comment: an opening with its sign, the bytes before CR or LF, and one line end, if there is one
abbrev pub IsLineComment : List Opening → List ℕ → ℕ → ℕ → Type 0
IsLineComment os u i j =
    (n : ℕ) × OpensAt os LineCommentMarker u i n
    × (a : ℕ) × LongestRun in_line (drop (i + n) u) a × (b : ℕ) × LineEnd (drop (i + n + a) u) b × (j ≡ i + n + a + b)

-- the tag that begins a raw block: an opening with its sign, then blanks, `raw`, blanks, an optional sign and the block end
abbrev pub IsRawOpen : List Opening → Config → List ℕ → ℕ → ℕ → Type 0
IsRawOpen os s u i j =
    (n : ℕ) × OpensAt os BlockMarker u i n
    × (t : Basic) × (basic_tag raw_name s.block_end (drop (i + n) u) ≡ Some t) × TagSpelt raw_name s.block_end (drop (i + n) u) (Some t) × (j ≡ i + n + t.0)

-- the body of a raw block, which begins behind such a tag: all bytes before the first closing tag
abbrev pub IsRawText : List Opening → Config → List ℕ → ℕ → ℕ → Type 0
IsRawText os s u i j = (h : ℕ) × IsRawOpen os s u h i × (d : ℕ) × (r : EndRaw) × FirstCloser s (drop i u) (Some (d, r)) × (j ≡ i + d)

-- the closing tag behind such a body: the block start with a sign, then blanks, `endraw`, blanks, an optional sign and the block end
abbrev pub IsRawClose : List Opening → Config → List ℕ → ℕ → ℕ → Type 0
IsRawClose os s u i j = (h : ℕ) × IsRawText os s u h i × (r : EndRaw) × Closes s u i r × CloserSpelt s (drop i u) (Some r) × (j ≡ i + r.len)

-- the piece of this kind from i to j is what its kind says; u is what the cut leaves of the template t.
abbrev pub IsNamed : List Opening → Config → List ℕ → ℕ → ℕ → Kind → Type 0
IsNamed os s t i j Text = NoOpening os (take (left_len s t) t) i j
IsNamed os s t i j White = AllPass (white s) (take (j - i) (drop i t))
IsNamed os s t i j Comment = IsComment os s (take (left_len s t) t) i j
IsNamed os s t i j LineComment = IsLineComment os (take (left_len s t) t) i j
IsNamed os s t i j RawOpen = IsRawOpen os s (take (left_len s t) t) i j
IsNamed os s t i j RawClose = IsRawClose os s (take (left_len s t) t) i j
IsNamed os s t i j Cut = (i ≡ left_len s t) × (j ≡ length t)
IsNamed os s t i j RawText = IsRawText os s (take (left_len s t) t) i j
IsNamed os s t i j VariableStart = IsVariableStart os (take (left_len s t) t) i j
IsNamed os s t i j VariableEnd = IsEnd s.variable_end (take (left_len s t) t) i j
IsNamed os s t i j BlockStart = IsBlockStart os s (take (left_len s t) t) i j
IsNamed os s t i j BlockEnd = IsEnd s.block_end (take (left_len s t) t) i j ⊎ IsStatementEnd s (take (left_len s t) t) i j
IsNamed os s t i j Ident = IsIdent (take (left_len s t) t) i j
IsNamed os s t i j (Operates o) = IsOperator o (take (left_len s t) t) i j
IsNamed os s t i j Str = IsStr (take (left_len s t) t) i j
IsNamed os s t i j String = IsString (take (left_len s t) t) i j
IsNamed os s t i j Int = IsInt (take (left_len s t) t) i j
IsNamed os s t i j Big = IsBig (take (left_len s t) t) i j
IsNamed os s t i j Float = IsFloat (take (left_len s t) t) i j

-- the value of a piece of this kind from i to j of u: what the digits of an int write, the length that a string's text is decoded to, none of all others
abbrev pub HasValue : List ℕ → ℕ → ℕ → Kind → Option ℕ → Type 0
HasValue u i j Int o = (v : ℕ) × IsInteger v u i j × (o ≡ Some v)
HasValue u i j String o = (n : ℕ) × IsQuoted n u i j × (v : ℕ) × (decoded_len (take n (drop (i + 1) u)) ≡ Ok v) × (o ≡ Some v)
HasValue u i j k o = o ≡ None

-- the piece of this kind from i to j of u has a byte; only a raw text, and the end of a line statement at the end of u, may have none
abbrev pub HasBytes : Config → List ℕ → ℕ → ℕ → Kind → Type 0
HasBytes s u i j k = (i < j) ⊎ (k ≡ RawText) ⊎ ((k ≡ BlockEnd) × IsStatementEnd s u i j × (j ≡ length u))

-- the piece of this kind from i to j is what its kind says, has its value, and has a byte unless its kind may have none
abbrev pub IsPiece : List Opening → Config → List ℕ → ℕ → ℕ → Kind → Option ℕ → Type 0
IsPiece os s t i j k o = IsNamed os s t i j k × HasValue (take (left_len s t) t) i j k o × HasBytes s (take (left_len s t) t) i j k

-- every piece that is told lies where the one before it ended, is what its kind says, has its value, and has a byte unless its kind may have none
abbrev pub Named : List Opening → Config → List ℕ → List Reply → Type 0
Named os s t rs = (j : ℕ) × Along (λ i k p. Spans t i k p × IsPiece os s t i k p.kind p.value) 0 (pieces_of rs) j
