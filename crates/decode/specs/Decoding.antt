-- What decoding a string text answers.
use Rattle.std.specs.Prelude.{ℕ, ◌≤◌, true, false, List, ◌++◌, length, drop, Ok, Err, IsUtf8, Result, ◌==◌, nat_le}
use Rattle.std.proofs.Math.Utf8.{encodes}
use Rattle.stream.specs.Told.{Ending}
use Rattle.utf8.specs.Utf8.{characters, prefix}
use Rattle.escape.specs.declared.fault.DecodeFault.{DecodeFault}
use Rattle.escape.specs.declared.fault.DecodeFault.TheVariants.{NotUtf8}
use Rattle.escape.specs.Characters.{closed}
use Rattle.escape.specs.Escapes.{Unescaped, unescaped}
use Rattle.escape.specs.Faults.{number_of, place_of}

-- an answer: done, or refused with a number and a place
pub data Told (A : Type 0) : Type 0 where
  Done : A → Told A
  Refused : ℕ → ℕ → Told A

-- a result of the code as an answer
abbrev pub told : {A : Type 0} → Result A DecodeFault → Told A
told (Ok x) = Done x
told (Err f) = Refused (number_of f) (place_of f)

-- what the characters of a text mean
abbrev pub unescapes : List ℕ → Unescaped
unescapes xs = unescaped (characters 0 xs) (closed 0 xs)

-- code points that finish are done, and their UTF-8 is the answer; those that fail are refused
abbrev pub answer : List ℕ → Ending DecodeFault → Told (List ℕ)
answer cs (Ok x) = Done (encodes cs)
answer cs (Err f) = Refused (number_of f) (place_of f)

-- the same of what characters mean
abbrev pub answer_of : Unescaped → Told (List ℕ)
answer_of u = answer u.points u.ending

-- the bytes that a text means: refused with 6 and the length of the well-formed prefix where it is not UTF-8,
-- then with 15 and the backslash where an escape is bad
abbrev pub decode : List ℕ → Told (List ℕ)
decode xs = elim (prefix xs == length xs) [ true ↦ answer_of (unescapes xs) | false ↦ Refused 6 (prefix xs) ]

-- how many bytes that is
abbrev pub length_told : Told (List ℕ) → Told ℕ
length_told (Done bs) = Done (length bs)
length_told (Refused n p) = Refused n p

-- how many bytes a text becomes, or why it is refused
abbrev pub length_of : Unescaped → Result ℕ DecodeFault
length_of u = elim u.ending [ Ok x ↦ Ok (length (encodes u.points)) | Err f ↦ Err f ]

-- the same of any bytes, of which those that are not UTF-8 are refused first
abbrev pub decoded_len : List ℕ → Result ℕ DecodeFault
decoded_len xs = elim (prefix xs == length xs) [ true ↦ length_of (unescapes xs) | false ↦ Err (NotUtf8 (record { byte = prefix xs })) ]

-- the answer where they are to go into this much room: refused with 16 and the bytes needed where it is too short
abbrev pub written : Told (List ℕ) → ℕ → Told ℕ
written (Done bs) room = elim (nat_le (length bs) room) [ true ↦ Done (length bs) | false ↦ Refused 16 (length bs) ]
written (Refused n p) room = Refused n p

-- what a destination holds then: the bytes at the front and the rest as it was, or all of it as it was
abbrev pub overwritten : Told (List ℕ) → List ℕ → List ℕ
overwritten (Done bs) ds = elim (nat_le (length bs) (length ds)) [ true ↦ bs ++ drop (length bs) ds | false ↦ ds ]
overwritten (Refused n p) ds = ds

-- what is decoded is UTF-8 and no longer than its text
abbrev pub IsText : Told (List ℕ) → List ℕ → Type 0
IsText (Done bs) xs = IsUtf8 bs × (length bs ≤ length xs)
IsText (Refused n p) xs = Unit {0}
