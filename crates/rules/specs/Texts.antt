-- Reading text.
use Rattle.std.specs.Prelude.{◌≡◌, ℕ, zero, suc, ◌+◌, ◌-◌, Bool, true, false, ◌&&◌, List, [], ◌∷◌, length, take, drop, pos, Some, None, codes, Option, ◌==◌, slice_index, Ok}
use Rattle.std.specs.List.{ContainsAt as Has}
use Rattle.byte_search.specs.Search.{stands_at, distance_to}
use Rattle.finder.specs.declared.StartMarker.{StartMarker}
use Rattle.finder.specs.declared.StartMarker.TheVariants.{Variable, Block, Comment, LineStatement, LineComment}
use Rattle.finder.specs.Finding.{Opening, Triple, found}
use Rattle.spaces.specs.Lines.{blank_run, line_end}
use Rattle.spaces.specs.Runs.{white_run, all_pass, kept}
use Rattle.pieces.specs.declared.kind.Kind.TheVariants.{Text, RawText, VariableStart, BlockStart, White, Comment as CommentGap, LineComment as LineCommentGap, RawOpen, RawClose}
use Rattle.pieces.specs.declared.fault.FaultKind.TheVariants.{UnendedComment, UnendedRaw, AfterExpression}
use Rattle.rules.specs.declared.BlockSentinel.TheVariants.{Variable as InVariable, Block as InBlock, LineStatement as InStatement}
use Rattle.rules.specs.declared.EndRaw.{EndRaw}
use Rattle.rules.specs.declared.LexerState.{LexerState}
use Rattle.rules.specs.declared.LexerState.TheVariants.{Template, Inside, Over}
use Rattle.rules.specs.declared.Pending.{Pending}
use Rattle.rules.specs.declared.Pending.TheVariants.{Nothing, Trim, Tail, Marker, RawBody, RawClose as Closing}
use Rattle.rules.specs.declared.whitespace.Whitespace.{Whitespace}
use Rattle.rules.specs.declared.whitespace.Whitespace.TheVariants.{Default, Preserve, Remove}
use Rattle.rules.specs.Config.{Config, white, inline_white}
use Rattle.rules.specs.Bytes.{is_sign, sign_of, sign_at, sign_len, in_line, run, pushes, line_before}
use Rattle.rules.specs.State.{Core, told, plain, Verdict, fault}
use Rattle.rules.specs.Tags.{tail, tag_verdict}

-- strips

-- only White_Space other than CR and LF lies back to a CR, an LF or the start
abbrev pub line_is_white : Config → List ℕ → Bool
line_is_white s behind = all_pass (inline_white s) (line_before behind [])

-- a strip is due before an opening with no sign, with these bytes read before it
abbrev pub due : Config → StartMarker → List ℕ → Bool
due s Variable behind = false
due s Block behind = s.lstrip_blocks && line_is_white s behind
due s Comment behind = s.lstrip_blocks && line_is_white s behind
due s LineStatement behind = elim s.lstrip_blocks [ true ↦ line_is_white s behind | false ↦ true ]
due s LineComment behind = elim s.lstrip_blocks [ true ↦ line_is_white s behind | false ↦ true ]

-- the k bytes that a strip would leave, if they are none or end in LF; else all
abbrev pub left_over : ℕ → List ℕ → ℕ
left_over zero xs = 0
left_over (suc k) xs = elim (slice_index xs k == 10) [ true ↦ suc k | false ↦ length xs ]

-- how many bytes of the text are left, whether a strip is due or not: a due one takes trailing White_Space other than CR and LF off
abbrev pub stripped : Bool → Config → List ℕ → ℕ
stripped true s xs = left_over (kept (inline_white s) xs) xs
stripped false s xs = length xs

-- how many bytes of the text xs are left before an opening with this sign, with these bytes read before the text:
-- `-` takes trailing White_Space off, and with no sign a strip may be due
unfoldable pub lead : Config → StartMarker → Whitespace → List ℕ → List ℕ → ℕ
lead s m Remove behind xs = kept (white s) xs
lead s m Preserve behind xs = length xs
lead s m Default behind xs = stripped (due s m (pushes xs behind)) s xs

-- tags `raw` and `endraw`

-- how many bytes such a tag has, and the sign before its end
abbrev pub Basic : Type 0
Basic = ℕ × Whitespace

-- behind n bytes an optional sign, which is tried first, and the end
abbrev pub basic_end : List ℕ → ℕ → List ℕ → Option Basic
basic_end end n [] = None
basic_end end n (x ∷ xs) =
    elim (is_sign x && stands_at end xs) [
      | true ↦ Some (n + suc (length end), sign_of x)
      | false ↦ elim (stands_at end (x ∷ xs)) [ true ↦ Some (n + length end, Default) | false ↦ None ]
    ]

-- blanks, the name, blanks, an optional sign and the end
unfoldable pub basic_tag : List ℕ → List ℕ → List ℕ → Option Basic
basic_tag name end xs =
    elim (stands_at name (drop (blank_run xs) xs)) [
      | true ↦
          let n : ℕ = blank_run xs + length name in
          let m : ℕ = n + blank_run (drop n xs) in
          basic_end end m (drop m xs)
      | false ↦ None
    ]

abbrev pub raw_name : List ℕ
raw_name = codes "raw"

abbrev pub endraw_name : List ℕ
endraw_name = codes "endraw"

-- a tag that closes a raw block, whose start has n bytes and this sign behind it
abbrev pub closer_by : ℕ → Whitespace → Option Basic → Option EndRaw
closer_by n g None = None
closer_by n g (Some t) = Some (record { len = n + (sign_len g + t.0); start_sign = g; end_sign = t.1 })

-- a block start, an optional sign, blanks, `endraw`, blanks, an optional sign and the block end stand here
unfoldable pub closer_at : Config → List ℕ → Option EndRaw
closer_at s xs =
    elim (stands_at s.block_start xs) [
      | true ↦
          let n : ℕ = length s.block_start in
          let g : Whitespace = sign_at (drop n xs) in
          closer_by n g (basic_tag endraw_name s.block_end (drop (n + sign_len g) xs))
      | false ↦ None
    ]

-- how far a closing tag is, and the tag
abbrev pub Far : Type 0
Far = ℕ × EndRaw

-- one byte further
abbrev pub away : Option Far → Option Far
away None = None
away (Some r) = Some (suc r.0, r.1)

-- the first place where one stands
unfoldable pub find_closer : Config → List ℕ → Option Far
find_closer s [] = None
find_closer s (x ∷ xs) = elim (closer_at s (x ∷ xs)) [ Some r ↦ Some (0, r) | None ↦ away (find_closer s xs) ]

-- how many leading bytes the text of a raw body loses: White_Space at `-`, one CR, then one LF by trim_blocks with no sign
abbrev pub raw_from : Config → Whitespace → List ℕ → ℕ
raw_from s Remove xs = white_run (white s) xs
raw_from s Preserve xs = 0
raw_from s Default xs = elim s.trim_blocks [ true ↦ line_end xs | false ↦ 0 ]

-- how many of the bytes left the text of a raw body keeps before a closing tag with this sign, with these bytes read before the tag:
-- trailing White_Space goes by `-`, and with no sign a strip may be due as before a block
abbrev pub raw_to : Config → Whitespace → List ℕ → List ℕ → ℕ
raw_to s Remove behind xs = kept (white s) xs
raw_to s Preserve behind xs = length xs
raw_to s Default behind xs = stripped (due s Block behind) s xs

-- the raw text, which spans the body; its text loses leading bytes first
abbrev pub raw_text_by : Config → Whitespace → List ℕ → List ℕ → EndRaw → Verdict
raw_text_by s g behind body r =
    let from : ℕ = raw_from s g body in
    told RawText (length body) from (from + raw_to s r.start_sign (pushes body behind) (drop from body)) None Template (Closing r.len r.end_sign)

-- the body of a raw block whose tag has this sign at its end
unfoldable pub raw_body : Config → Whitespace → List ℕ → List ℕ → Verdict
raw_body s g behind xs = elim (find_closer s xs) [ None ↦ fault UnendedRaw (length xs) | Some r ↦ raw_text_by s g behind (take r.0 xs) r.1 ]

-- openings

-- the closing sign of a comment: the last byte of its body of n bytes, and none of an empty one
abbrev pub closing_sign : ℕ → List ℕ → Whitespace
closing_sign zero xs = Default
closing_sign (suc n) xs = sign_of (slice_index xs n)

-- a comment whose opening has n bytes, with its first end so far behind it
abbrev pub comment_by : Config → ℕ → List ℕ → Option ℕ → Verdict
comment_by s n xs None = fault UnendedComment (length xs)
comment_by s n xs (Some d) =
    let m : ℕ = n + (d + length s.comment_end) in
    plain CommentGap m Template (tail s (closing_sign d (drop n xs)) (drop m xs))

-- a comment runs to its first end behind opening and sign
unfoldable pub comment : Config → ℕ → List ℕ → Verdict
comment s n xs = comment_by s n xs (distance_to s.comment_end (drop n xs))

-- a line comment takes the bytes before CR or LF and one line end
unfoldable pub line_comment_here : ℕ → List ℕ → Verdict
line_comment_here n xs =
    let m : ℕ = n + run in_line (drop n xs) in
    plain LineCommentGap (m + line_end (drop m xs)) Template Nothing

-- `raw` behind a block opening begins a raw block; else it is a start token
abbrev pub block_by : ℕ → Option Basic → Verdict
block_by n None = plain BlockStart n (Inside InBlock (pos 0)) Nothing
block_by n (Some t) = plain RawOpen (n + t.0) Template (RawBody t.1)

-- the opening with its sign, n bytes, stands here
unfoldable pub opened : Config → StartMarker → ℕ → List ℕ → Verdict
opened s Variable n xs = plain VariableStart n (Inside InVariable (pos 0)) Nothing
opened s Block n xs = block_by n (basic_tag raw_name s.block_end (drop n xs))
opened s Comment n xs = comment s n xs
opened s LineStatement n xs = plain BlockStart n (Inside InStatement (pos 0)) Nothing
opened s LineComment n xs = line_comment_here n xs

-- so much white space before the opening, if any, is passed over
abbrev pub gap_then : Config → ℕ → StartMarker → ℕ → List ℕ → Verdict
gap_then s zero m n xs = opened s m n xs
gap_then s (suc g) m n xs = plain White (suc g) Template (Marker m 0 n)

-- the text that is left before the opening, k of d bytes, if any
abbrev pub lead_then : Config → ℕ → ℕ → StartMarker → ℕ → List ℕ → Verdict
lead_then s zero d m n xs = gap_then s d m n xs
lead_then s (suc k) d m n xs = plain Text (suc k) Template (Marker m (d - suc k) n)

-- the sign behind an opening; a line statement has none
abbrev pub opening_sign : StartMarker → List ℕ → Whitespace
opening_sign Variable xs = sign_at xs
opening_sign Block xs = sign_at xs
opening_sign Comment xs = sign_at xs
opening_sign LineStatement xs = Default
opening_sign LineComment xs = sign_at xs

-- text runs to the opening that was found, with these bytes read before the text; with none it runs to the end
abbrev pub met : Config → List ℕ → List ℕ → Option Triple → Verdict
met s behind xs None = plain Text (length xs) Template Nothing
met s behind xs (Some t) =
    let g : Whitespace = opening_sign t.1 (drop (t.0 + t.2) xs) in
    lead_then s (lead s t.1 g behind (take t.0 xs)) t.0 t.1 (t.2 + sign_len g) xs

-- a find of so many bytes: one of none opens nothing
abbrev pub real_by : ℕ → Triple → Option Triple
real_by zero t = None
real_by (suc n) t = Some t

-- what a finder tells, but for a find of no bytes
abbrev pub real : Option Triple → Option Triple
real None = None
real (Some t) = real_by t.2 t

-- two lists have the same openings
abbrev pub Same : List Opening → List Opening → Type 0
Same os ps = (o : Opening) → (Has os o → Has ps o) × (Has ps o → Has os o)

-- no find of these openings is passed over
abbrev pub AllReal : List Opening → Type 0
AllReal os = (behind ahead : List ℕ) → real (found os behind ahead) ≡ found os behind ahead

-- text to the next of the openings
unfoldable pub text : List Opening → Config → List ℕ → List ℕ → Verdict
text os s behind [] = Ok None
text os s behind (x ∷ xs) = met s behind (x ∷ xs) (real (found os behind (x ∷ xs)))

-- a trim of n bytes was ordered
abbrev pub trimmed : List Opening → Config → List ℕ → List ℕ → ℕ → Verdict
trimmed os s behind xs zero = text os s behind xs
trimmed os s behind xs (suc n) = plain White (suc n) Template Nothing

-- what comes in text, by what waits
unfoldable pub text_verdict : List Opening → Config → List ℕ → List ℕ → Pending → Verdict
text_verdict os s behind xs Nothing = text os s behind xs
text_verdict os s behind xs Trim = trimmed os s behind xs (white_run (white s) xs)
text_verdict os s behind xs (Tail n) = plain White n Template Nothing
text_verdict os s behind xs (Marker m g n) = gap_then s g m n xs
text_verdict os s behind xs (RawBody g) = raw_body s g behind xs
text_verdict os s behind xs (Closing n g) = plain RawClose n Template (tail s g (drop n xs))

-- behind the end of an expression any byte is a fault
abbrev pub over_verdict : List ℕ → Verdict
over_verdict [] = Ok None
over_verdict (x ∷ xs) = fault AfterExpression 0

-- what comes next
abbrev pub verdict_by : List Opening → Config → List ℕ → List ℕ → LexerState → Pending → Verdict
verdict_by os s behind xs Template w = text_verdict os s behind xs w
verdict_by os s behind xs (Inside k b) w = tag_verdict s behind k b xs
verdict_by os s behind xs Over w = over_verdict xs

abbrev pub verdict : List Opening → Config → Core → Verdict
verdict os s c = verdict_by os s c.behind c.ahead c.state c.pending
