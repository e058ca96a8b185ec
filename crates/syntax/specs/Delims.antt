-- What a delimiter holds.
use Rattle.std.specs.Prelude.{ℕ, List, take}
use Rattle.syntax.specs.declared.delimiter.Delimiter.{Delimiter}

-- the bytes of a delimiter
abbrev pub bytes_of : Delimiter → List ℕ
bytes_of d = take d.len d.bytes
