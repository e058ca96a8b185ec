-- The numbers and places of refusals.
use Rattle.std.specs.Prelude.{ℕ, List, codes, ◌++◌, decimal}
use Rattle.escape.specs.declared.fault.DecodeFault.{DecodeFault}
use Rattle.escape.specs.declared.fault.DecodeFault.TheVariants.{NotUtf8, Escape, TooShort}

-- 6: not UTF-8; 15: an escape is bad; 16: the destination is too short
abbrev pub number_of : DecodeFault → ℕ
number_of (NotUtf8 f) = 6
number_of (Escape f) = 15
number_of (TooShort n) = 16

-- the length of the well-formed prefix; the backslash in the text; the bytes needed
abbrev pub place_of : DecodeFault → ℕ
place_of (NotUtf8 f) = f.byte
place_of (Escape f) = f.backslash
place_of (TooShort n) = n

-- the name that goes with the number
abbrev pub name_of : DecodeFault → List ℕ
name_of (NotUtf8 f) = codes "not UTF-8"
name_of (Escape f) = codes "bad escape"
name_of (TooShort n) = codes "destination too short"

-- a refusal as it is shown: its name and place
abbrev pub fault_text : DecodeFault → List ℕ
fault_text (NotUtf8 f) = codes "not UTF-8 at byte " ++ decimal f.byte
fault_text (Escape f) = codes "bad escape at byte " ++ decimal f.backslash
fault_text (TooShort n) = codes "destination too short, " ++ decimal n ++ codes " bytes needed"
