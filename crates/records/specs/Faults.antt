-- The numbers, indices and names of refusals of records.
use Rattle.std.specs.Prelude.{ℕ, List, ◌++◌, Some, None, Ok, Err, codes, Option, Result}
use Rattle.std.specs.Fmt.{decimal}
use Rattle.records.specs.declared.fault.RecordFault.{RecordFault}
use Rattle.records.specs.declared.fault.RecordFault.TheVariants.{BadRange, TooEarly}

-- a refusal as it is told: its number, and the index of the record where it has one
pub record Told : Type 0 where
  pub number : ℕ
  pub index : Option ℕ

-- 17: a range leaves the template or runs backwards
abbrev pub bad_range : Told
bad_range = record { number = 17; index = None }

-- 18: the record at this index begins before the one right before it ended
abbrev pub too_early : ℕ → Told
too_early i = record { number = 18; index = Some i }

-- each refusal with its number and its index
abbrev pub told : RecordFault → Told
told BadRange = bad_range
told (TooEarly i) = too_early i

-- an answer as it is told: done, or a refusal
abbrev pub tells : {A : Type 0} → Result A RecordFault → Result Unit Told
tells (Ok a) = Ok tt
tells (Err f) = Err (told f)

-- the name that goes with the number
abbrev pub name_of : RecordFault → List ℕ
name_of BadRange = codes "bad range"
name_of (TooEarly i) = codes "records do not rise"

-- a refusal as it is shown: its name, and where one record is too early, the record
abbrev pub fault_text : RecordFault → List ℕ
fault_text BadRange = name_of BadRange
fault_text (TooEarly i) = name_of (TooEarly i) ++ codes " at record " ++ decimal i
