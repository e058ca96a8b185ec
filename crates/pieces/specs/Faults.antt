-- The numbers and names of reading faults.
use Rattle.std.specs.Prelude.{ℕ, List, ◌++◌, Some, None, codes, Option}
use Rattle.std.specs.Fmt.{decimal}
use Rattle.escape.specs.Faults.{place_of, name_of}
use Rattle.escape.specs.Faults.{number_of as decode_number}
use Rattle.pieces.specs.declared.fault.FaultKind.{FaultKind}
use Rattle.pieces.specs.declared.fault.ReadFault.{ReadFault}
use Rattle.pieces.specs.declared.fault.FaultKind.TheVariants.{UnendedComment, UnendedRaw, UnendedString, NoToken, TrailingUnderscore, NoExponent, BadInteger, AfterExpression, Escape}

-- 7, 8, 9: a comment, a raw block, a string has no end; 10: no token begins here; 11: a number ends in `_`; 12: an exponent has no digit;
-- 13: an integer is bad; 14: bytes follow an expression's end; the decoder's fault keeps its number, which for a bad escape is 15
abbrev pub number_of : FaultKind → ℕ
number_of UnendedComment = 7
number_of UnendedRaw = 8
number_of UnendedString = 9
number_of NoToken = 10
number_of TrailingUnderscore = 11
number_of NoExponent = 12
number_of BadInteger = 13
number_of AfterExpression = 14
number_of (Escape f) = decode_number f

-- the name that goes with it
abbrev pub fault_name : FaultKind → List ℕ
fault_name UnendedComment = codes "comment without end"
fault_name UnendedRaw = codes "raw block without end"
fault_name UnendedString = codes "string without end"
fault_name NoToken = codes "no token begins here"
fault_name TrailingUnderscore = codes "number ends in an underscore"
fault_name NoExponent = codes "exponent without digit"
fault_name BadInteger = codes "bad integer"
fault_name AfterExpression = codes "bytes behind the end of the expression"
fault_name (Escape f) = name_of f

-- where in the string's text the decoder's fault lies
abbrev pub backslash_of : FaultKind → Option ℕ
backslash_of UnendedComment = None
backslash_of UnendedRaw = None
backslash_of UnendedString = None
backslash_of NoToken = None
backslash_of TrailingUnderscore = None
backslash_of NoExponent = None
backslash_of BadInteger = None
backslash_of AfterExpression = None
backslash_of (Escape f) = Some (place_of f)

-- a fault as it is shown: its name, and the line and column where it begins
abbrev pub fault_text : ReadFault → List ℕ
fault_text f = fault_name f.kind ++ codes " at line " ++ decimal f.span.start.line ++ codes ", column " ++ decimal f.span.start.column
