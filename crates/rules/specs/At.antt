-- A reading at a place of a template.
use Rattle.std.specs.Prelude.{ℕ, Bool, List, length, take, drop, None}
use Rattle.places.specs.declared.Place.{Place}
use Rattle.places.specs.Places.{beyond, first_place}
use Rattle.pieces.specs.declared.kind.Kind.TheVariants.{Cut}
use Rattle.rules.specs.declared.LexerState.{LexerState}
use Rattle.rules.specs.declared.Pending.{Pending}
use Rattle.rules.specs.declared.Step.{Step}
use Rattle.rules.specs.Bytes.{behind_at}
use Rattle.rules.specs.Reading.{Part}
use Rattle.rules.specs.State.{Core}

-- the state at the place i of the template t, of which the first n bytes are left after the cut; once the cut was told, all are
abbrev pub core_at : List ℕ → ℕ → ℕ → LexerState → Pending → Bool → Core
core_at t n i m w e = record { behind = behind_at t i; ahead = drop i (take n t); cut = drop n t; state = m; pending = w; cut_told = e }

-- the line, column and offset of the place i, without a cap
abbrev pub place_at : List ℕ → ℕ → Place
place_at t i = beyond (take i t) first_place

-- a piece that begins there
abbrev pub part_at : List ℕ → ℕ → Step → Part
part_at t i p = record { kind = p.kind; bytes = take p.len (drop i t); from = p.from; to = p.to; value = p.value }

-- the bytes that are cut, as a piece
abbrev pub cut_part : List ℕ → ℕ → Part
cut_part t n = record { kind = Cut; bytes = drop n t; from = 0; to = length (drop n t); value = None }
