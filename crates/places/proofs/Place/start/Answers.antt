use Rattle.std.proofs.Common.{refl}
use Rattle.places.proofs.Advances.{told_none}
use Rattle.places.proofs.Place.start.Goals as goal

pub returns : goal.returns
returns c = record { value = refl; told = told_none }
