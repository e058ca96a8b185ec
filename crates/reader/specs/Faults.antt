-- The numbers and bytes of refusals of opening.
use Rattle.std.specs.Prelude.{ℕ, List, Some, None, Ok, Err, codes, Option, Result}
use Rattle.utf8.specs.Utf8.{not_utf8_text}
use Rattle.reader.specs.declared.fault.OpenFault.{OpenFault}
use Rattle.reader.specs.declared.fault.OpenFault.TheVariants.{TooLong, NotUtf8}

-- a refusal as it is told: its number, and the byte where it has one
pub record Told : Type 0 where
  pub number : ℕ
  pub byte : Option ℕ

-- each refusal with its number and its byte: 5, too many bytes; 6, not UTF-8 from this byte on
abbrev pub told : OpenFault → Told
told TooLong = record { number = 5; byte = None }
told (NotUtf8 f) = record { number = 6; byte = Some f.byte }

-- an answer as it is told: done, or a refusal
abbrev pub tells : {A : Type 0} → Result A OpenFault → Result Unit Told
tells (Ok a) = Ok tt
tells (Err f) = Err (told f)

-- the name that goes with the number
abbrev pub fault_name : OpenFault → List ℕ
fault_name TooLong = codes "too long"
fault_name (NotUtf8 f) = codes "not UTF-8"

-- the refusal as it is shown
abbrev pub fault_text : OpenFault → List ℕ
fault_text TooLong = codes "too long"
fault_text (NotUtf8 f) = not_utf8_text f
