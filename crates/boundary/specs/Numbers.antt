-- Answers as numbers.
use Rattle.std.specs.Prelude.{ℕ}
use Rattle.decode.specs.Decoding.{Told, Done, Refused}

-- 0, or the refusal's number
abbrev pub number : Told ℕ → ℕ
number (Done n) = 0
number (Refused n p) = n

-- the number of bytes, or the refusal's place
abbrev pub worth : Told ℕ → ℕ
worth (Done n) = n
worth (Refused n p) = p
