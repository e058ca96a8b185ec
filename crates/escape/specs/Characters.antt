-- How the characters of a text end.
use Rattle.std.specs.Prelude.{ℕ, ◌+◌, true, false, List, length, Ok, Err, ◌==◌}
use Rattle.stream.specs.Told.{Ending}
use Rattle.utf8.specs.declared.NotUtf8.{NotUtf8}
use Rattle.utf8.specs.Utf8.{prefix}

-- the bytes xs, which begin at `at`: their characters finish, or fail where the well-formed prefix ends
abbrev pub closed : ℕ → List ℕ → Ending NotUtf8
closed at xs = elim (prefix xs == length xs) [ true ↦ Ok tt | false ↦ Err (record { byte = at + prefix xs }) ]
