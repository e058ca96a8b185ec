-- What lies at a place of a source.
use Rattle.std.specs.Prelude.{◌≡◌, ℕ, List, reverse, take, drop}
use Rattle.finders.specs.declared.spot.Spot.{Spot}

-- the bytes before the place, the newest first
abbrev pub behind : Spot → List ℕ
behind s = reverse (take s.at s.source.now)

-- the bytes from the place on
abbrev pub ahead : Spot → List ℕ
ahead s = drop s.at s.source.now

-- the place is the same
abbrev pub Stays : Spot → Spot → Type 0
Stays old new = (new.source.now ≡ old.source.now) × (new.at ≡ old.at)
