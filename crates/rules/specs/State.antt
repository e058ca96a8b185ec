-- The state of a reading, and the pieces that the rules tell.
-- As names, `behind` is the bytes that were read before a place, the newest first, and `ahead` those to come.
-- In prose we say "before" of what was read and "behind" of what follows: a sign behind an opening comes after it.
use Rattle.std.specs.Prelude.{ℕ, Bool, List, None, Option, Some, Ok, Err, Result}
use Rattle.pieces.specs.declared.fault.FaultKind.{FaultKind}
use Rattle.pieces.specs.declared.kind.Kind.{Kind}
use Rattle.rules.specs.declared.LexerState.{LexerState}
use Rattle.rules.specs.declared.Fault.{Fault}
use Rattle.rules.specs.declared.Pending.{Pending}
use Rattle.rules.specs.declared.Step.{Step}

-- the bytes read since the last LF, the newest first; those to come, but for the cut; the cut bytes until they are told;
-- where the reading stands, and what waits; and whether the cut was told
pub record Core : Type 0 where
  pub behind : List ℕ
  pub ahead : List ℕ
  pub cut : List ℕ
  pub state : LexerState
  pub pending : Pending
  pub cut_told : Bool

-- what the rules say of the bytes ahead: a piece, that none are left, or what is wrong
abbrev pub Verdict : Type 0
Verdict = Result (Option Step) Fault

-- a piece or what is wrong, as a verdict
abbrev pub verdict_of : Result Step Fault → Verdict
verdict_of (Ok p) = Ok (Some p)
verdict_of (Err f) = Err f

-- this is wrong, which is seen so many bytes ahead
abbrev pub fault : FaultKind → ℕ → Verdict
fault k d = Err (record { kind = k; distance = d })

-- a piece of n bytes, of which those between two places are its text, and its value
abbrev pub told : Kind → ℕ → ℕ → ℕ → Option ℕ → LexerState → Pending → Verdict
told k n a b v m w = Ok (Some (record { kind = k; len = n; from = a; to = b; value = v; state = m; pending = w }))

-- a piece that is all text, with no value
abbrev pub plain : Kind → ℕ → LexerState → Pending → Verdict
plain k n m w = told k n 0 n None m w
