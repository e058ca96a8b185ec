-- Identifiers as tokens.
use Rattle.std.specs.Prelude.{ℕ, zero, suc, List}
use Rattle.pieces.specs.declared.kind.Kind.TheVariants.{Ident}
use Rattle.pieces.specs.declared.fault.FaultKind.TheVariants.{NoToken}
use Rattle.rules.specs.declared.LexerState.{LexerState}
use Rattle.rules.specs.declared.Pending.TheVariants.{Nothing}
use Rattle.rules.specs.State.{plain, Verdict, fault}
use Rattle.words.specs.Names.{ident_len}

-- the identifier at the front, or that no token begins there
abbrev pub named : LexerState → List ℕ → Verdict
named m xs = elim (ident_len xs) [ zero ↦ fault NoToken 0 | suc n ↦ plain Ident (suc n) m Nothing ]
