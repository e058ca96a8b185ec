-- What the characters of a string text mean.
-- An escape is a backslash and what the character behind it asks for: RFC 8259, section 7, has the quotation mark, `\`, `/`, b, f, n, r, t and u;
-- the Python reference, "String and Bytes literals", has the apostrophe, x and octal. A digit is 0 to 9 or a letter: a sign is none.
use Rattle.std.specs.Prelude.{ℕ, zero, suc, ◌+◌, ◌-◌, ◌*◌, Bool, true, false, ◌&&◌, List, [], ◌∷◌, drop, Some, None, Option, Ok, Err, ◌==◌, nat_le}
use Rattle.stream.specs.Told.{Ending}
use Rattle.utf8.specs.declared.NotUtf8.{NotUtf8 as Illformed}
use Rattle.escape.specs.declared.fault.DecodeFault.{DecodeFault}
use Rattle.escape.specs.declared.fault.DecodeFault.TheVariants.{NotUtf8, Escape}

-- a character of a text: its byte offset and its code point
abbrev pub Indexed : Type 0
Indexed = ℕ × ℕ

-- from low to high
abbrev pub within : ℕ → ℕ → ℕ → Bool
within low high c = nat_le low c && nat_le c high

-- what an escape gives: a code point, and how many characters behind the backslash it takes; or it is bad
pub data Given : Type 0 where
  Gives : ℕ → ℕ → Given
  Bad : Given

-- a character behind the backslash, and the code point that the two mean
abbrev pub Pair : Type 0
Pair = ℕ × ℕ

-- the escapes of one character: " \ / ' are themselves, b f n r t are 08 0C 0A 0D 09
abbrev pub simple : List Pair
simple = (34, 34) ∷ (92, 92) ∷ (47, 47) ∷ (39, 39) ∷ (98, 8) ∷ (102, 12) ∷ (110, 10) ∷ (114, 13) ∷ (116, 9) ∷ []

-- what the list has for a character
unfoldable pub meant : List Pair → ℕ → Option ℕ
meant [] d = None
meant (p ∷ ps) d = elim (d == p.0) [ true ↦ Some p.1 | false ↦ meant ps d ]

-- the value of a hexadecimal digit: 0 to 9, A to F, a to f
unfoldable pub hex_value : ℕ → Option ℕ
hex_value c =
    elim (within 48 57 c) [
      | true ↦ Some (c - 48)
      | false ↦
          elim (within 65 70 c) [
            | true ↦ Some (c - 55)
            | false ↦
                elim (within 97 102 c) [ true ↦ Some (c - 87) | false ↦ None ]
          ]
    ]

-- the number that n hexadecimal digits write behind those of acc; none where a digit is missing
unfoldable pub hex_from : ℕ → ℕ → List Indexed → Option ℕ
hex_from zero acc cs = Some acc
hex_from (suc n) acc [] = None
hex_from (suc n) acc (c ∷ cs) = elim (hex_value c.1) [ Some d ↦ hex_from n (acc * 16 + d) cs | None ↦ None ]

-- 0 to 7
abbrev pub is_octal : ℕ → Bool
is_octal c = within 48 55 c

-- the number that up to n octal digits write behind those of acc, where used were taken already; above 255 it is bad
unfoldable pub octal_from : ℕ → ℕ → ℕ → List Indexed → Given
octal_from zero acc used cs = elim (nat_le acc 255) [ true ↦ Gives acc used | false ↦ Bad ]
octal_from (suc n) acc used [] = elim (nat_le acc 255) [ true ↦ Gives acc used | false ↦ Bad ]
octal_from (suc n) acc used (c ∷ cs) =
    elim (is_octal c.1) [
      | true ↦ octal_from n (acc * 8 + (c.1 - 48)) (suc used) cs
      | false ↦ elim (nat_le acc 255) [ true ↦ Gives acc used | false ↦ Bad ]
    ]

-- a high surrogate
abbrev pub is_high : ℕ → Bool
is_high v = within 0xD800 0xDBFF v

-- a low surrogate
abbrev pub is_low : ℕ → Bool
is_low v = within 0xDC00 0xDFFF v

-- the code point of two surrogates
abbrev pub joined : ℕ → ℕ → ℕ
joined high low = 0x10000 + (high - 0xD800) * 0x400 + (low - 0xDC00)

-- four digits behind a high surrogate's partner: they are a low one's, or the high one is bad
abbrev pub low_half : ℕ → Option ℕ → Given
low_half high None = Bad
low_half high (Some low) = elim (is_low low) [ true ↦ Gives (joined high low) 11 | false ↦ Bad ]

-- the first character is this one
abbrev pub begins : ℕ → List Indexed → Bool
begins d [] = false
begins d (c ∷ cs) = c.1 == d

-- behind a high surrogate: directly a low one's \u, or the high one is bad
abbrev pub partner : ℕ → List Indexed → Given
partner high cs = elim (begins 92 cs) [ true ↦ elim (begins 117 (drop 1 cs)) [ true ↦ low_half high (hex_from 4 0 (drop 2 cs)) | false ↦ Bad ] | false ↦ Bad ]

-- four digits behind \u, and what follows them: a lone low surrogate is bad
abbrev pub unicode : Option ℕ → List Indexed → Given
unicode None cs = Bad
unicode (Some v) cs = elim (is_high v) [ true ↦ partner v cs | false ↦ elim (is_low v) [ true ↦ Bad | false ↦ Gives v 5 ] ]

-- two digits behind \x
abbrev pub byte_escape : Option ℕ → Given
byte_escape None = Bad
byte_escape (Some v) = Gives v 3

-- an escape of more characters, or none: then the backslash stays
abbrev pub longer : ℕ → List Indexed → Given
longer d cs =
    elim (d == 117) [
      | true ↦ unicode (hex_from 4 0 cs) (drop 4 cs)
      | false ↦
          elim (d == 120) [
            | true ↦ byte_escape (hex_from 2 0 cs)
            | false ↦
                elim (is_octal d) [ true ↦ octal_from 2 (d - 48) 1 cs | false ↦ Gives 92 0 ]
          ]
    ]

-- the character behind a backslash decides
abbrev pub decides : Option ℕ → ℕ → List Indexed → Given
decides (Some v) d cs = Gives v 1
decides None d cs = longer d cs

-- the escape whose backslash stands right before these characters; a backslash that ends the text is bad
abbrev pub escape : List Indexed → Given
escape [] = Bad
escape (d ∷ cs) = decides (meant simple d.1) d.1 cs

-- what characters mean: code points, and how they end
pub record Unescaped : Type 0 where
  pub points : List ℕ
  pub ending : Ending DecodeFault

-- one code point more in front
abbrev pub first : ℕ → Unescaped → Unescaped
first c u = record { points = c ∷ u.points; ending = u.ending }

-- no code points, and this ending
abbrev pub ends : Ending DecodeFault → Unescaped
ends e = record { points = []; ending = e }

-- characters that are not UTF-8 to the end give that fault at their end
abbrev pub passed : Ending Illformed → Ending DecodeFault
passed (Ok x) = Ok x
passed (Err f) = Err (NotUtf8 f)

-- the characters, of which an escape still takes k
unfoldable pub unescaped_from : ℕ → List Indexed → Ending Illformed → Unescaped
unescaped_from k [] e = ends (passed e)
unescaped_from (suc k) (c ∷ cs) e = unescaped_from k cs e
unescaped_from zero (c ∷ cs) e =
    elim (c.1 == 92) [
      | true ↦ elim (escape cs) [ Gives v n ↦ first v (unescaped_from n cs e) | Bad ↦ ends (Err (Escape (record { backslash = c.0 }))) ]
      | false ↦ first c.1 (unescaped_from zero cs e)
    ]

-- what characters mean that end so
abbrev pub unescaped : List Indexed → Ending Illformed → Unescaped
unescaped cs e = unescaped_from 0 cs e
