-- What shifting makes of a list.
use Rattle.std.proofs.Common.{ℕ, ◌<◌, List, Option, map}
use Rattle.std.proofs.lemmas.List.{get_or-map, length-map}
use Rattle.places.specs.declared.Place.{Place}
use Rattle.layers.specs.Layers.{Shifts}

-- in words, whether a line is noted already or not: as many items, each the one below at its place, shifted
pub items_shifts : {I : Type 0} (shifted : Place → Option ℕ → I → I) (base : Place) (first : Option ℕ) (xs : List I) → Shifts shifted base first xs (map (shifted base first) xs)
items_shifts shifted base first xs = record { many = length-map xs (shifted base first); each = λ k d e h. get_or-map (shifted base first) xs k e d h }
