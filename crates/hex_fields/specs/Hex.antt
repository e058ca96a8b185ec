-- Bytes in hexadecimal.
use Rattle.std.specs.Prelude.{◌≡◌, ℕ, ◌+◌, ◌*◌, ◌/◌, ◌%◌, ◌⊎◌, true, List, [], ◌∷◌, ◌++◌, Some, None, Ok, Err, vec_items, Option, Result, Vec, ◌≢◌}
use Rattle.std.specs.List.{flat_map}
use Rattle.std.specs.Fmt.{digit_glyph}
use Rattle.std.specs.declared.alloc.Global.{Global}
use Rattle.escape.specs.Escapes.{hex_value}
use Rattle.hex_fields.specs.declared.HexError.{HexError}
use Rattle.hex_fields.specs.declared.HexError.TheVariants.{NotHex, NoMemory}

-- a byte in print: its two digits, of which those from ten on are A to F
abbrev pub byte_text : ℕ → List ℕ
byte_text b = digit_glyph true (b / 16) ∷ digit_glyph true (b % 16) ∷ []

-- bytes in print: two digits each, and a space between two
abbrev pub hex_text : List ℕ → List ℕ
hex_text [] = []
hex_text (b ∷ bs) = byte_text b ++ flat_map (λ c. 32 ∷ byte_text c) bs

-- the byte that two digits write, none where one is no digit
abbrev pub byte_of : Option ℕ → Option ℕ → Option ℕ
byte_of None l = None
byte_of (Some h) None = None
byte_of (Some h) (Some l) = Some (h * 16 + l)

-- a byte before others
abbrev pub before : Option ℕ → Option (List ℕ) → Option (List ℕ)
before None bs = None
before (Some b) None = None
before (Some b) (Some bs) = Some (b ∷ bs)

-- the bytes that digits write, none where a character is no digit or one is too many
unfoldable pub unhex : List ℕ → Option (List ℕ)
unhex [] = Some []
unhex (h ∷ []) = None
unhex (h ∷ (l ∷ xs)) = before (byte_of (hex_value h) (hex_value l)) (unhex xs)

-- what reading digits answers
abbrev pub Read : Result (Vec ℕ Global) HexError → List ℕ → Type 0
Read (Ok v) xs = unhex xs ≡ Some (vec_items v)
Read (Err NotHex) xs = unhex xs ≡ None
Read (Err NoMemory) xs = Unit {0}

-- what reading a field answers: a dash stands for no bytes
abbrev pub ReadField : Result (Vec ℕ Global) HexError → List ℕ → Type 0
ReadField (Ok v) xs = ((xs ≡ 45 ∷ []) × (vec_items v ≡ [])) ⊎ ((xs ≢ 45 ∷ []) × (unhex xs ≡ Some (vec_items v)))
ReadField (Err NotHex) xs = (xs ≢ 45 ∷ []) × (unhex xs ≡ None)
ReadField (Err NoMemory) xs = xs ≡ 45 ∷ [] → ⊥
