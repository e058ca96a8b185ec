-- What a draft holds, and what setting a delimiter tells.
use Rattle.std.specs.Prelude.{ℕ, ◌<◌, ◌≤◌, true, false, List, [], ◌∷◌, length, Some, None, Ok, Err, IsUtf8, Result, ◌==◌, nat_le}
use Rattle.std.specs.Str.{IsValidUpTo}
use Rattle.utf8.specs.Utf8.{prefix}
use Rattle.syntax.specs.declared.name.DelimiterName.{DelimiterName}
use Rattle.syntax.specs.declared.name.DelimiterName.TheVariants.{BlockStart, BlockEnd, VariableStart, VariableEnd, CommentStart, CommentEnd, LineStatementPrefix, LineCommentPrefix}
use Rattle.syntax.specs.declared.fault.SyntaxFault.{SyntaxFault}
use Rattle.syntax.specs.declared.fault.SyntaxFault.TheVariants.{TooLong, NotUtf8, Empty, Equal}
use Rattle.syntax.specs.declared.whitespace.WhitespaceConfig.{WhitespaceConfig}
use Rattle.syntax.specs.declared.draft.Draft.{Draft}
use Rattle.syntax.specs.Faults.{Told}
use Rattle.syntax.specs.Names.{same_name}
use Rattle.syntax.specs.Building.{Table, table_of}

-- the delimiters of a draft
abbrev pub delim_of : Draft → Table
delim_of d n = table_of d.delims n

-- {% %} {{ }} {# #} and two empty ones
abbrev pub defaults : Table
defaults BlockStart = 0x7B ∷ 0x25 ∷ []
defaults BlockEnd = 0x25 ∷ 0x7D ∷ []
defaults VariableStart = 0x7B ∷ 0x7B ∷ []
defaults VariableEnd = 0x7D ∷ 0x7D ∷ []
defaults CommentStart = 0x7B ∷ 0x23 ∷ []
defaults CommentEnd = 0x23 ∷ 0x7D ∷ []
defaults LineStatementPrefix = []
defaults LineCommentPrefix = []

-- every flag off
abbrev pub all_off : WhitespaceConfig
all_off = record { keep_trailing_newline = false; lstrip_blocks = false; trim_blocks = false }

-- what setting a delimiter tells: with 1 that it has over 16 bytes, then with 2 that it is not UTF-8
abbrev pub set_told : DelimiterName → List ℕ → Result Unit Told
set_told n bytes = elim (nat_le (length bytes) 16) [
  | true ↦ elim (prefix bytes == length bytes) [
    | true ↦ Ok tt
    | false ↦ Err (record { number = 2; name = n; place = Some (prefix bytes) })
  ]
  | false ↦ Err (record { number = 1; name = n; place = None })
]

-- the table with one entry replaced
abbrev pub replaced : Table → DelimiterName → List ℕ → Table
replaced t which bytes n = elim (same_name n which) [ true ↦ bytes | false ↦ t n ]

-- the table after an answer: with the entry replaced where it is done, else as it was
abbrev pub after_set : Result Unit SyntaxFault → Table → DelimiterName → List ℕ → Table
after_set (Ok u) t which bytes n = replaced t which bytes n
after_set (Err f) t which bytes n = t n

-- what setting a delimiter finds: UTF-8 of at most 16 bytes; or over 16 bytes; or, with no more, where the bytes stop to be UTF-8
abbrev pub SetFound : List ℕ → Result Unit SyntaxFault → Type 0
SetFound bytes (Ok u) = (length bytes ≤ 16) × IsUtf8 bytes
SetFound bytes (Err (TooLong n)) = 16 < length bytes
SetFound bytes (Err (NotUtf8 n f)) = (length bytes ≤ 16) × (IsUtf8 bytes → ⊥) × IsValidUpTo bytes f.byte
SetFound bytes (Err (Empty n)) = ⊥
SetFound bytes (Err (Equal n)) = ⊥
