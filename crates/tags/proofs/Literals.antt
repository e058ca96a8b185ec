-- What stands where no operator, string or number does, from the first byte.
use Rattle.std.proofs.Common.{◌≡◌, ℕ, ◌<◌, true, false, List, [], ◌∷◌, length, get_or, drop, ⊎_elim, arith}
use Rattle.std.proofs.lemmas.Grind.{common_steps}
use Rattle.std.proofs.lemmas.Bool.{cases_Bool, or_left}
use Rattle.pieces.specs.declared.kind.Kind.TheVariants.{Ident}
use Rattle.pieces.specs.declared.fault.FaultKind.TheVariants.{NoToken}
use Rattle.rules.specs.declared.LexerState.{LexerState}
use Rattle.rules.specs.declared.Pending.TheVariants.{Nothing}
use Rattle.rules.specs.Bytes.{is_digit, leads_name, is_name_part, run}
use Rattle.rules.specs.State.{plain, fault}
use Rattle.tags.specs.Names.{named}
use Rattle.rules.proofs.Runs.{run_yes}

pub named_at : (m : LexerState) (xs : List ℕ) → 0 < length xs → named m xs ≡ elim (leads_name (get_or xs 0 0)) [ true ↦ plain Ident (run is_name_part (get_or xs 0 0 ∷ drop 1 xs)) m Nothing | false ↦ fault NoToken 0 ]
named_at m [] h = absurd (omega arith)
named_at m (x ∷ xs) h =
    ⊎_elim (λ e. let r = run_yes is_name_part x xs (or_left (leads_name x) (is_digit x) e) in grind (arith, common_steps)) (λ e. grind (arith, common_steps))
    (cases_Bool (leads_name x))
