-- What a number of some bytes is told as.
use Rattle.std.specs.Prelude.{ℕ, Ok, Err, Option, Result}
use Rattle.pieces.specs.declared.fault.FaultKind.{FaultKind}
use Rattle.pieces.specs.declared.kind.Kind.{Kind}
use Rattle.rules.specs.declared.LexerState.{LexerState}
use Rattle.rules.specs.declared.Pending.TheVariants.{Nothing}
use Rattle.rules.specs.State.{told, Verdict, fault}

-- a piece of n bytes that are all text, or a fault that is seen behind them
abbrev pub told_as : ℕ → LexerState → Result (Kind × Option ℕ) FaultKind → Verdict
told_as n m (Ok t) = told t.0 n 0 n t.1 m Nothing
told_as n m (Err k) = fault k n
