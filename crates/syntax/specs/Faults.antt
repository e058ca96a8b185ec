-- The numbers and places of refusals.
use Rattle.std.specs.Prelude.{ℕ, List, ◌++◌, Some, None, Ok, Err, codes, Option, Result}
use Rattle.syntax.specs.declared.name.DelimiterName.{DelimiterName}
use Rattle.syntax.specs.Names.{name_of}
use Rattle.utf8.specs.Utf8.{not_utf8_text}
use Rattle.syntax.specs.declared.fault.SyntaxFault.{SyntaxFault}
use Rattle.syntax.specs.declared.fault.SyntaxFault.TheVariants.{TooLong, NotUtf8, Empty, Equal}

-- a refusal as it is told: its number, which delimiter, and the byte where it has one
pub record Told : Type 0 where
  pub number : ℕ
  pub name : DelimiterName
  pub place : Option ℕ

-- each refusal with its number and its places
abbrev pub told : SyntaxFault → Told
told (TooLong n) = record { number = 1; name = n; place = None }
told (NotUtf8 n f) = record { number = 2; name = n; place = Some f.byte }
told (Empty n) = record { number = 3; name = n; place = None }
told (Equal n) = record { number = 4; name = n; place = None }

-- an answer as it is told: done, or a refusal
abbrev pub tells : {A : Type 0} → Result A SyntaxFault → Result Unit Told
tells (Ok a) = Ok tt
tells (Err f) = Err (told f)

-- a refusal as it is shown
abbrev pub fault_text : SyntaxFault → List ℕ
fault_text (TooLong n) = name_of n ++ codes " has over 16 bytes"
fault_text (NotUtf8 n f) = name_of n ++ codes " is " ++ not_utf8_text f
fault_text (Empty n) = name_of n ++ codes " is empty"
fault_text (Equal n) = name_of n ++ codes " equals an earlier opening"
