-- Resting points.
use Rattle.std.specs.Prelude.{◌≡◌, ℕ, ◌-◌, ◌<◌, Bool, true, false, not, ◌&&◌, ◌⊎◌, List, Some, None, Option, Ok, Err, slice_index}
use Rattle.stream.specs.Told.{Ending}
use Rattle.pieces.specs.declared.fault.ReadFault.{ReadFault}
use Rattle.syntax.specs.Building.{is_empty}
use Rattle.rules.specs.declared.LexerState.{LexerState}
use Rattle.rules.specs.declared.LexerState.TheVariants.{Template, Inside, Over}
use Rattle.rules.specs.declared.Pending.{Pending}
use Rattle.rules.specs.declared.Pending.TheVariants.{Nothing, Trim, Tail, Marker, RawBody, RawClose}
use Rattle.reader.specs.declared.reader.Reader.{Reader}
use Rattle.reader.specs.Views.{View}

-- the reading stands in text
abbrev pub in_text : LexerState → Bool
in_text Template = true
in_text (Inside k b) = false
in_text Over = false

-- no opening, trim, raw body, closing tag or byte of a line end waits
abbrev pub nothing_waits : Pending → Bool
nothing_waits Nothing = true
nothing_waits Trim = false
nothing_waits (Tail n) = false
nothing_waits (Marker m g n) = false
nothing_waits (RawBody g) = false
nothing_waits (RawClose n g) = false

-- a fault was told
abbrev pub failed : Option (Ending ReadFault) → Bool
failed None = false
failed (Some (Ok u)) = false
failed (Some (Err f)) = true

-- a resting point: in text, with nothing waiting, no fault and no cut told, and no byte behind since the last LF
abbrev pub rests : View → Bool
rests v = in_text v.core.state && nothing_waits v.core.pending && not (failed v.told) && not v.core.cut_told && is_empty v.core.behind

-- the place i of t is byte 0, or right behind an LF
abbrev pub AtFront : List ℕ → ℕ → Type 0
AtFront t i = (i ≡ 0) ⊎ ((0 < i) × (slice_index t (i - 1) ≡ 10))

-- in words: in text, with nothing waiting, no fault and no cut told, at byte 0 or right behind an LF
pub record AtRest (r : Reader) : Type 0 where
  pub text : r.reading.state ≡ Template
  pub idle : r.reading.pending ≡ Nothing
  pub sound : failed r.reading.told ≡ false
  pub whole : r.reading.cut_told ≡ false
  pub front : AtFront r.reading.template.now r.reading.offset
