-- Which records are taken: ranges inside the template, and records that rise.
use Rattle.std.specs.Prelude.{◌≡◌, ℕ, ◌<◌, ◌≤◌, Bool, true, false, ◌&&◌, List, length, Some, None, Ok, Err, Option, Result, nat_le, slice_index_or}
use Rattle.std.specs.List.{list_all}
use Rattle.pieces.specs.declared.piece.Piece.{Piece}
use Rattle.pieces.specs.Ranges.{begins, ends}
use Rattle.ranged.specs.Ranges.{first_too_early, Told as Rises}
use Rattle.records.specs.Faults.{Told, bad_range, too_early}

-- from a up to, and without, b is a range of a template of n bytes
abbrev pub fits : ℕ → ℕ → ℕ → Bool
fits n a b = nat_le a b && nat_le b n

-- both ranges of a record are: its span's offsets and its text range
abbrev pub is_good : ℕ → Piece → Bool
is_good n p = fits n (begins p) (ends p) && fits n p.text.start p.text.end

-- those of all records are
abbrev pub all_good : ℕ → List Piece → Bool
all_good n ps = list_all (is_good n) ps

-- what taking tells of the order of records: with 18 the first that is too early
abbrev pub early_told : Option ℕ → Result Unit Told
early_told None = Ok tt
early_told (Some i) = Err (too_early i)

-- what taking records of a template of n bytes tells: with 17 that a range is bad, and where none is what is told of the order
abbrev pub take_told : ℕ → List Piece → Result Unit Told
take_told n ps = elim (all_good n ps) [ true ↦ early_told (first_too_early begins ends ps) | false ↦ Err bad_range ]

-- in words

-- no range of the record runs backwards or leaves the template
abbrev pub Good : ℕ → Piece → Type 0
Good n p = (begins p ≤ ends p) × (ends p ≤ n) × (p.text.start ≤ p.text.end) × (p.text.end ≤ n)

abbrev pub EachGood : ℕ → List Piece → Type 0
EachGood n ps = (k : ℕ) (d : Piece) → k < length ps → Good n (slice_index_or ps k d)

-- some record has a bad range
abbrev pub SomeBad : ℕ → List Piece → Type 0
SomeBad n ps = (k : ℕ) × (k < length ps) × ((d : Piece) → Good n (slice_index_or ps k d) → ⊥)

-- what an answer means: done, that all ranges are good and the records rise; 17 with no index, that some range is bad; 18 with an index, that all are good
-- and this record is the first that is too early
abbrev pub Means : ℕ → List Piece → Result Unit Told → Type 0
Means n ps (Ok u) = EachGood n ps × Rises begins ends ps None
Means n ps (Err t) = elim t.index [
  | None ↦ (t.number ≡ 17) × SomeBad n ps
  | Some i ↦ (t.number ≡ 18) × EachGood n ps × Rises begins ends ps (Some i)
]
