-- What opening answers.
use Rattle.std.specs.Prelude.{◌≡◌, ℕ, ◌-◌, ◌<◌, Bool, true, false, ◌⊎◌, List, [], ◌∷◌, ◌++◌, length, Some, None, Ok, Err, Result, ◌==◌, nat_le, slice_index}
use Rattle.utf8.specs.Utf8.{prefix}
use Rattle.syntax.specs.declared.settings.Settings.{Settings}
use Rattle.rules.specs.declared.LexerState.{LexerState}
use Rattle.rules.specs.Config.{config_of}
use Rattle.reader.specs.declared.reader.Reader.{Reader}
use Rattle.reader.specs.Faults.{Told}
use Rattle.reader.specs.Views.{view_of, unread}

-- what opening tells where so many bytes are allowed: with 5 that the template has more, then with 6 and the length of its well-formed prefix
-- that it is not UTF-8
abbrev pub open_told : ℕ → List ℕ → Result Unit Told
open_told most t = elim (nat_le (length t) most) [
  | true ↦ elim (prefix t == length t) [
    | true ↦ Ok tt
    | false ↦ Err (record { number = 6; byte = Some (prefix t) })
  ]
  | false ↦ Err (record { number = 5; byte = None })
]

-- xs ends in the byte b
abbrev pub EndsIn : ℕ → List ℕ → Type 0
EndsIn b xs = (0 < length xs) × (slice_index xs (length xs - 1) ≡ b)

-- xs without one final byte b: that byte is gone, or xs does not end in it
abbrev pub Without : ℕ → List ℕ → List ℕ → Type 0
Without b xs ys = (xs ≡ ys ++ b ∷ []) ⊎ ((ys ≡ xs) × (EndsIn b xs → ⊥))

-- what the cut leaves of a template: all of it where trailing line ends are kept, else it without one final LF, then one final CR
abbrev pub Leaves : Bool → List ℕ → List ℕ → Type 0
Leaves true t u = u ≡ t
Leaves false t u = (v : List ℕ) × Without 10 t v × Without 13 v u

-- a reader of the template t under the settings st that starts in the state m: nothing is read, and what the cut leaves lies ahead
pub record Opened (st : Settings) (m : LexerState) (t : List ℕ) (r : Reader) : Type 0 where
  pub settings : r.settings ≡ st
  pub template : r.reading.template.now ≡ t
  pub view : view_of r ≡ unread (config_of st) m t
  pub leaves : Leaves (config_of st).keep_trailing t (view_of r).core.ahead
