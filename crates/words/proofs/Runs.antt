-- The bytes of a name.
use Rattle.std.proofs.Common.{◌≡◌, ℕ, true, false, List, [], ◌∷◌, get_or, Some, sym, ap, ◌∙◌, subst}
use Rattle.std.specs.List.{prefix_len}
use Rattle.std.proofs.lemmas.Bool.{true≢false}
use Rattle.rules.specs.Bytes.{leads_name, is_digit, is_name_part, run, LongestRun}
use Rattle.std.proofs.lemmas.Bool.{or_left}
use Rattle.rules.proofs.Runs.{run_is, run_yes, longest_run}
use Rattle.words.specs.Names.{ident_len, some_len, FirstName}

-- where a name is led, all that may stand in it is the name
pub name_value : (xs : List ℕ) (n : ℕ) → leads_name (get_or xs 0 0) ≡ true → n ≡ prefix_len is_name_part xs → Some n ≡ some_len (ident_len xs)
name_value [] n e f = absurd (true≢false (sym e))
name_value (x ∷ xs) n e f =
    ap Some (f ∙ run_is is_name_part (x ∷ xs)) ∙ ap Some (run_yes is_name_part x xs (or_left (leads_name x) (is_digit x) e))
    ∙ ap some_len (sym (run_yes is_name_part x xs (or_left (leads_name x) (is_digit x) e))) ∙ ap some_len (sym (ap (λ b. elim b [ true ↦ run is_name_part (x ∷ xs) | false ↦ 0 ]) e))

pub name_longest : (xs : List ℕ) (n : ℕ) → leads_name (get_or xs 0 0) ≡ true → n ≡ prefix_len is_name_part xs → FirstName xs (Some n)
name_longest xs n e f = (e, subst (LongestRun is_name_part xs) (sym f) (longest_run is_name_part xs))
