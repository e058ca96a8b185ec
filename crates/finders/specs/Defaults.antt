-- The default openings.
use Rattle.std.specs.Prelude.{ℕ, List, [], ◌∷◌, length, Some, None, Option}
use Rattle.finder.specs.declared.StartMarker.{StartMarker}
use Rattle.finder.specs.declared.StartMarker.TheVariants.{Variable, Block, Comment}
use Rattle.finder.specs.Finding.{Opening}

-- {{ {% {#
abbrev pub default_openings : List Opening
default_openings =
    record { marker = Variable; bytes = 0x7B ∷ 0x7B ∷ [] }
    ∷ record { marker = Block; bytes = 0x7B ∷ 0x25 ∷ [] }
    ∷ record { marker = Comment; bytes = 0x7B ∷ 0x23 ∷ [] }
    ∷ []

-- what an opening opens, and how many bytes it has
abbrev pub opened : Option Opening → Option (StartMarker × ℕ)
opened None = None
opened (Some o) = Some (o.marker, length o.bytes)

-- the same of openings of two bytes
abbrev pub pair : Option StartMarker → Option (StartMarker × ℕ)
pair None = None
pair (Some m) = Some (m, 2)
