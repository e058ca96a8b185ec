-- What every verdict has: its bytes are ahead, its text lies among them, and the reading goes forward; and which numbers its faults have.
use Rattle.std.specs.Prelude.{◌≡◌, ℕ, suc, ◌+◌, ◌*◌, ◌<◌, ◌≤◌, ℤ, pos, negsuc, Some, None, Ok, Err}
use Rattle.escape.specs.declared.fault.DecodeFault.{DecodeFault}
use Rattle.escape.specs.Faults.{number_of as decode_number}
use Rattle.pieces.specs.declared.fault.FaultKind.{FaultKind}
use Rattle.pieces.specs.declared.fault.FaultKind.TheVariants.{Escape}
use Rattle.pieces.specs.Faults.{number_of}
use Rattle.rules.specs.declared.LexerState.{LexerState}
use Rattle.rules.specs.declared.LexerState.TheVariants.{Template, Inside, Over}
use Rattle.rules.specs.declared.Pending.{Pending}
use Rattle.rules.specs.declared.Pending.TheVariants.{Nothing, Trim, Tail, Marker, RawBody, RawClose}
use Rattle.rules.specs.declared.Step.{Step}
use Rattle.rules.specs.Reading.{rank}
use Rattle.rules.specs.State.{Verdict}

-- how many of the bytes ahead belong to what waits
abbrev pub held : Pending → ℕ
held Nothing = 0
held Trim = 0
held (Tail n) = n
held (Marker m g n) = g + n
held (RawBody g) = 0
held (RawClose n g) = n

-- how many bytes the line end, opening or closing tag that waits has; in the other cases, where what waits need have none, 1,
-- so that "more than none" asks nothing there
abbrev pub least : Pending → ℕ
least Nothing = 1
least Trim = 1
least (Tail n) = n
least (Marker m g n) = n
least (RawBody g) = 1
least (RawClose n g) = n

-- how far a balance is from 0
abbrev pub magnitude : ℤ → ℕ
magnitude (pos n) = n
magnitude (negsuc n) = suc n

-- how far the brackets of a tag are from being balanced
abbrev pub level : LexerState → ℕ
level Template = 0
level (Inside k b) = magnitude b
level Over = 0

-- a piece and what waits behind it are ahead; a line end, opening or closing tag that waits has a byte; the text lies in the piece;
-- the piece has a byte or leads to where fewer pieces can follow; it takes the balance at most `len` further from 0
pub record Forward (n : ℕ) (m : LexerState) (w : Pending) (p : Step) : Type 0 where
  pub ahead : p.len + held p.pending ≤ n
  pub lively : 0 < least p.pending
  pub ordered : p.from ≤ p.to
  pub inside : p.to ≤ p.len
  pub falls : rank p.state p.pending < 2 * p.len + rank m w
  pub level : level p.state ≤ level m + p.len

-- a verdict on n bytes ahead
abbrev pub Fits : ℕ → LexerState → Pending → Verdict → Type 0
Fits n m w (Ok (Some p)) = Forward n m w p
Fits n m w (Ok None) = n ≡ 0
Fits n m w (Err f) = f.distance ≤ n

-- what is wrong has a number from 7 to 15; of the decoder's refusals it is the bad escape alone, 15: never 6, since a template is UTF-8 and so are its strings
pub record Numbered (k : FaultKind) : Type 0 where
  pub least : 7 ≤ number_of k
  pub most : number_of k ≤ 15
  pub bad : (f : DecodeFault) → k ≡ Escape f → decode_number f ≡ 15
