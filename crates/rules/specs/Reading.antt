-- One call of next, and whole readings.
use Rattle.std.specs.Prelude.{ℕ, zero, suc, ◌+◌, ◌*◌, true, false, List, [], ◌∷◌, length, take, drop, ℤ, pos, None, Option, ◌==◌, Some, Ok, Err}
use Rattle.finder.specs.Finding.{Opening}
use Rattle.pieces.specs.declared.kind.Kind.{Kind}
use Rattle.pieces.specs.declared.kind.Kind.TheVariants.{Cut}
use Rattle.pieces.specs.declared.fault.FaultKind.{FaultKind}
use Rattle.rules.specs.declared.BlockSentinel.{BlockSentinel}
use Rattle.rules.specs.declared.BlockSentinel.TheVariants.{Variable, Block, LineStatement, Expression}
use Rattle.rules.specs.declared.LexerState.{LexerState}
use Rattle.rules.specs.declared.LexerState.TheVariants.{Template, Inside, Over}
use Rattle.rules.specs.declared.Pending.{Pending}
use Rattle.rules.specs.declared.Pending.TheVariants.{Nothing, Trim, Tail, Marker, RawBody, RawClose}
use Rattle.rules.specs.Config.{Config}
use Rattle.rules.specs.Bytes.{pushes}
use Rattle.rules.specs.State.{Core, Verdict}
use Rattle.rules.specs.Texts.{verdict}

-- a piece by its own bytes: its text goes from one place in them to another
pub record Part : Type 0 where
  pub kind : Kind
  pub bytes : List ℕ
  pub from : ℕ
  pub to : ℕ
  pub value : Option ℕ

-- how a reading ends: finished; with a fault, and the bytes from here to where it is seen; or the calls asked for were too few
pub data Stop : Type 0 where
  Done : Stop
  Failing : FaultKind → List ℕ → Stop
  Unread : Stop

-- what one call tells: a piece and the state behind it, or how the reading ends
pub data Outcome : Type 0 where
  Gives : Part → Core → Outcome
  Stops : Stop → Outcome

-- with nothing left the cut is told, if there is one, and then that the reading is finished
abbrev pub finish : Core → List ℕ → Outcome
finish c [] = Stops Done
finish c (x ∷ xs) =
    Gives (record { kind = Cut; bytes = x ∷ xs; from = 0; to = length (x ∷ xs); value = None })
    (record { behind = pushes (x ∷ xs) c.behind; ahead = c.ahead; cut = []; state = c.state; pending = c.pending; cut_told = true })

-- a piece takes its bytes off those ahead
abbrev pub act : Core → Verdict → Outcome
act c (Ok (Some p)) =
    Gives (record { kind = p.kind; bytes = take p.len c.ahead; from = p.from; to = p.to; value = p.value })
    (record { behind = pushes (take p.len c.ahead) c.behind; ahead = drop p.len c.ahead; cut = c.cut; state = p.state; pending = p.pending; cut_told = c.cut_told })
act c (Ok None) = finish c c.cut
act c (Err f) = Stops (Failing f.kind (take f.distance c.ahead))

-- next
abbrev pub call : List Opening → Config → Core → Outcome
call os s c = act c (verdict os s c)

-- the pieces still to come and how the reading ends
pub record Parts : Type 0 where
  pub parts : List Part
  pub stop : Stop

-- one piece more in front
abbrev pub first : Part → Parts → Parts
first p r = record { parts = p ∷ r.parts; stop = r.stop }

-- no piece is to come
abbrev pub only : Stop → Parts
only e = record { parts = []; stop = e }

-- what a call tells, and then what the rest tells
abbrev pub go_on : (Core → Parts) → Outcome → Parts
go_on go (Gives p d) = first p (go d)
go_on go (Stops e) = only e

-- what so many calls tell
unfoldable pub reading : ℕ → List Opening → Config → Core → Parts
reading zero os s c = only Unread
reading (suc n) os s c = elim (call os s c) [ Gives p d ↦ first p (reading n os s d) | Stops e ↦ only e ]

-- a piece has a byte, but for a raw text, which its closing tag follows, and a line statement's end at the template's end

-- how many pieces without a byte may come before the next byte is taken, by what waits: one, a raw text
abbrev pub wait_rank : Pending → ℕ
wait_rank Nothing = 0
wait_rank Trim = 0
wait_rank (Tail n) = 0
wait_rank (Marker m g n) = 0
wait_rank (RawBody g) = 1
wait_rank (RawClose n g) = 0

-- the same by what opened the tag: one, the end of a line statement
abbrev pub tag_rank : BlockSentinel → ℕ
tag_rank Variable = 0
tag_rank Block = 0
tag_rank LineStatement = 1
tag_rank Expression = 0

-- the same by where the reading stands
abbrev pub rank : LexerState → Pending → ℕ
rank Template w = wait_rank w
rank (Inside k b) w = tag_rank k
rank Over w = 0

-- how many pieces the cut gives: one, if it has bytes and they are not told yet
abbrev pub cut_rank : List ℕ → ℕ
cut_rank [] = 0
cut_rank (x ∷ xs) = 1

-- at most so many pieces are to come: for each byte ahead the one that has it and one without a byte behind that; one without a byte
-- before all these; and the cut
abbrev pub measure : Core → ℕ
measure c = 2 * length c.ahead + rank c.state c.pending + cut_rank c.cut

-- what a reading means: the pieces still to come and how it ends
unfoldable pub meaning : List Opening → Config → Core → Parts
meaning os s c = reading (suc (measure c)) os s c

-- opening

-- without one final byte b
unfoldable pub chop : ℕ → List ℕ → List ℕ
chop b [] = []
chop b (x ∷ []) = elim (x == b) [ true ↦ [] | false ↦ x ∷ [] ]
chop b (x ∷ (y ∷ ys)) = x ∷ chop b (y ∷ ys)

-- how many bytes are left after the cut: one final LF, then one final CR go, unless trailing line ends are kept
abbrev pub left_len : Config → List ℕ → ℕ
left_len s t = elim s.keep_trailing [ true ↦ length t | false ↦ length (chop 13 (chop 10 t)) ]

-- the state at the start of a template, or of an expression
abbrev pub starting : Config → LexerState → List ℕ → Core
starting s m t = record { behind = []; ahead = take (left_len s t) t; cut = drop (left_len s t) t; state = m; pending = Nothing; cut_told = false }

-- an expression starts inside a variable
abbrev pub in_expression : LexerState
in_expression = Inside Expression (pos 0)

-- the balance of brackets that a reader tells: it is kept where the text goes on
abbrev pub balance_at : ℤ → LexerState → ℤ
balance_at b Template = b
balance_at b (Inside k a) = a
balance_at b Over = b
