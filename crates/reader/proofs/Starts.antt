-- A reader of which nothing is read.
use Rattle.std.proofs.Common.{◌≡◌, ℕ, false, List, pos, None, sym, ap}
use Rattle.places.specs.Places.{beyond, first_place, capped}
use Rattle.places.proofs.Advances.{beyond_none}
use Rattle.rules.specs.declared.LexerState.{LexerState}
use Rattle.rules.specs.declared.Pending.TheVariants.{Nothing}
use Rattle.rules.specs.At.{core_at, place_at}
use Rattle.rules.specs.Bytes.{pushes}
use Rattle.rules.specs.Config.{Config}
use Rattle.rules.specs.Reading.{left_len}
use Rattle.reader.specs.Views.{View, unread}

-- it stands at the first place
pub start_here : (t : List ℕ) → first_place ≡ capped (place_at t 0)
start_here t = ap capped (sym (beyond_none first_place))

-- and is what the rules start from
pub start_view : (s : Config) (m : LexerState) (t : List ℕ) (n : ℕ) → n ≡ left_len s t → ◌≡◌ {A = View} (record { core = core_at t n 0 m Nothing false; place = place_at t 0; balance = pos 0; told = None }) (unread s m t)
unfolding beyond pushes
start_view s m t n e = ap (λ k. record { core = core_at t k 0 m Nothing false; place = place_at t 0; balance = pos 0; told = None }) e
