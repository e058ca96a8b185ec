-- What a decoder means, and what its steps take.
use Rattle.std.specs.Prelude.{◌≡◌, ℕ, suc, ◌+◌, ◌-◌, ◌*◌, ◌<◌, ◌≤◌, List, [], ◌∷◌, ◌++◌, length, drop, Some, None, Option, Err, Result}
use Rattle.std.specs.Option.{option_to_list}
use Rattle.stream.specs.Told.{Ending, Next}
use Rattle.utf8.specs.declared.NotUtf8.{NotUtf8}
use Rattle.escape.specs.declared.fault.BadEscape.{BadEscape}
use Rattle.escape.specs.declared.fault.DecodeFault.{DecodeFault}
use Rattle.escape.specs.declared.fault.DecodeFault.TheVariants.{Escape}
use Rattle.escape.specs.declared.source.Source.{Source}
use Rattle.escape.specs.declared.unescaper.Unescaper.{Unescaper}
use Rattle.utf8.specs.Utf8.{characters}
use Rattle.escape.specs.Characters.{closed}
use Rattle.escape.specs.Escapes.{Indexed, hex_from, octal_from, Given, Gives, Bad, Unescaped, unescaped, ends}

-- the characters still to come
unfoldable pub coming : Source → List Indexed
coming s = option_to_list s.chars.held ++ characters s.chars.below.at (drop s.chars.below.at s.chars.below.text.now)

-- how the characters end
unfoldable pub closing : Source → Ending NotUtf8
closing s = closed s.chars.below.at (drop s.chars.below.at s.chars.below.text.now)

-- falls with every character taken
unfoldable pub left : Source → ℕ
left s = length (option_to_list s.chars.held) + (length s.chars.below.text.now - s.chars.below.at)

-- the first of them, if there is one
abbrev pub ahead : List Indexed → Option ℕ
ahead [] = None
ahead (c ∷ cs) = Some c.1

-- the same of a decoder
abbrev pub room : Unescaper → ℕ
room u = left u.source

-- after a bad escape nothing but that fault; else what the characters still to come mean
abbrev pub meaning : Option BadEscape → List Indexed → Ending NotUtf8 → Unescaped
meaning (Some f) cs e = ends (Err (Escape f))
meaning None cs e = unescaped cs e

-- what a decoder means
abbrev pub means : Unescaper → Unescaped
means u = meaning u.fault (coming u.source) (closing u.source)

-- next on a stream of this meaning tells this answer and leaves a stream of that meaning
abbrev pub Tells : Unescaped → Result (Option ℕ) DecodeFault → Unescaped → Type 0
Tells m r n = Next m.points m.ending r n.points n.ending

-- an escape read off cs, which leaves ds: it is bad, or it gives a code point and takes its characters
abbrev pub Took : Option ℕ → Given → List Indexed → List Indexed → Type 0
Took None g cs ds = g ≡ Bad
Took (Some v) g cs ds = (n : ℕ) × (g ≡ Gives v n) × (ds ≡ drop n cs)

-- at most one more octal digit behind those of a value, read off cs, which leaves ds: the value with k digits more, or it is too large
abbrev pub MoreOctal : Option ℕ → ℕ → List Indexed → List Indexed → Type 0
MoreOctal None v cs ds = (n used : ℕ) → octal_from (suc n) v used cs ≡ Bad
MoreOctal (Some w) v cs ds = (k : ℕ) × ((n used : ℕ) → octal_from (suc n) v used cs ≡ octal_from n w (used + k) ds) × (w < 256) × (ds ≡ drop k cs) × (k ≤ 1)

-- a hexadecimal digit taken off cs, which leaves ds: one more digit of any number
abbrev pub HexDigit : Option ℕ → List Indexed → List Indexed → Type 0
HexDigit None cs ds = (n acc : ℕ) → hex_from (suc n) acc cs ≡ None
HexDigit (Some d) cs ds = ((n acc : ℕ) → hex_from (suc n) acc cs ≡ hex_from n (acc * 16 + d) ds) × (d < 16)

-- two of them
abbrev pub HexPair : Option ℕ → List Indexed → List Indexed → Type 0
HexPair None cs ds = (n acc : ℕ) → hex_from (suc (suc n)) acc cs ≡ None
HexPair (Some v) cs ds = ((n acc : ℕ) → hex_from (suc (suc n)) acc cs ≡ hex_from n (acc * 256 + v) ds) × (v < 256) × (ds ≡ drop 2 cs)

-- a step that only takes characters
pub record Onward (s t : Source) : Type 0 where
  pub closes : closing t ≡ closing s
  pub fewer : left t ≤ left s
