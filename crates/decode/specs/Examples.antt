-- Worked examples of decoding.
use Rattle.std.specs.Prelude.{◌≡◌, ℕ, List, [], ◌∷◌, codes}
use Rattle.std.specs.List.{AllByRecursion}
use Rattle.decode.specs.Decoding.{Told, Done, Refused, decode}

-- a text and its answer
pub record Example : Type 0 where
  pub text : List ℕ
  pub answer : Told (List ℕ)

-- a text that is decoded to these bytes
abbrev pub means : List ℕ → List ℕ → Example
means xs bs = record { text = xs; answer = Done bs }

-- a text that is refused with this number and place
abbrev pub refused : List ℕ → ℕ → ℕ → Example
refused xs n p = record { text = xs; answer = Refused n p }

-- the examples
abbrev pub examples : List Example
examples =
    means [] [] ∷
    means (codes "Left bank") (codes "Left bank") ∷
    -- one for each simple escape
    means (codes "\\\"\\\\\\/\\'\\b\\f\\n\\r\\t") (34 ∷ 92 ∷ 47 ∷ 39 ∷ 8 ∷ 12 ∷ 10 ∷ 13 ∷ 9 ∷ []) ∷
    -- a code point in each width of UTF-8
    means (codes "\\x41\\u00e9\\u20ac\\ud83d\\ude00") (0x41 ∷ 0xC3 ∷ 0xA9 ∷ 0xE2 ∷ 0x82 ∷ 0xAC ∷ 0xF0 ∷ 0x9F ∷ 0x98 ∷ 0x80 ∷ []) ∷
    means (codes "\\ud83d\\ude00") (0xF0 ∷ 0x9F ∷ 0x98 ∷ 0x80 ∷ []) ∷
    -- octal digits: at most three, and what follows stays
    means (codes "\\7\\377\\0018") (7 ∷ 0xC3 ∷ 0xBF ∷ 1 ∷ 56 ∷ []) ∷
    refused (codes "\\400") 15 0 ∷
    refused (codes "\\x+4") 15 0 ∷
    refused (codes "\\u+041") 15 0 ∷
    -- another character keeps the backslash
    means (codes "\\q") (codes "\\q") ∷
    -- surrogates
    refused (codes "a\\ud83d") 15 1 ∷
    refused (codes "\\ud83d\\u0041") 15 0 ∷
    refused (codes "\\ude00") 15 0 ∷
    -- a backslash at the end
    refused (codes "ab\\") 15 2 ∷
    -- what is not UTF-8 is told first
    refused (92 ∷ 0xC3 ∷ 92 ∷ []) 6 1 ∷
    []

-- each text has its answer
abbrev pub ExamplesHold : Type 0
ExamplesHold = AllByRecursion (λ e. decode e.text ≡ e.answer) examples
