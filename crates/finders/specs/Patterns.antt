-- What patterns hold.
use Rattle.std.specs.Prelude.{ℕ, List, map, take, slice_index}
use Rattle.finder.specs.Finding.{Opening}
use Rattle.syntax.specs.Delims.{bytes_of}
use Rattle.finders.specs.declared.pattern.Pattern.{Pattern}

-- the opening of a pattern
abbrev pub opening_of : Pattern → Opening
opening_of p = record { marker = p.marker; bytes = bytes_of p.delimiter }

-- the openings of the first patterns
abbrev pub openings_of_first : ℕ → List Pattern → List Opening
openings_of_first n ps = map opening_of (take n ps)

-- the first byte of a pattern
abbrev pub lead_of : Pattern → ℕ
lead_of p = slice_index (bytes_of p.delimiter) 0
