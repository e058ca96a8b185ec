-- One step of each definition of the escapes.
use Rattle.std.proofs.Common.{◌≡◌, ℕ, zero, suc, ◌+◌, ◌-◌, ◌*◌, ◌<◌, ◌≤◌, true, false, leb, List, [], ◌∷◌, drop, Some, None, Option, sym, ap, ◌∙◌, subst, add-one, add-zero, arith}
use lib.Utf8.{scalar, low_scalar}
use Rattle.std.proofs.lemmas.List.{drop-drop}
use Rattle.std.proofs.lemmas.Bool.{le-leb, lt-leb}
use Rattle.std.proofs.lemmas.Bool.Decides.{nat_tests}
use Rattle.std.specs.Char.{digit_value}
use Rattle.std.specs.Option.{SomeIff}
use Rattle.escape.specs.Escapes.{Indexed, hex_value, hex_from, is_octal, octal_from, Given, Gives, Bad, byte_escape}
use Rattle.escape.specs.Meaning.{ahead, HexPair, Took, MoreOctal}

-- what `to_digit` tells is the value of the digit
pub hex_digit : (c : ℕ) → digit_value c < 16 → hex_value c ≡ Some (digit_value c)
unfolding hex_value
hex_digit c h = grind (arith, nat_tests)

pub hex_none : (c : ℕ) → 16 ≤ digit_value c → hex_value c ≡ None
unfolding hex_value
hex_none c h = grind (arith, nat_tests)

pub quad_none : (cs ds : List Indexed) → HexPair None cs ds → None ≡ hex_from 4 0 cs
quad_none cs ds h = sym (h 2 0)

pub quad_half : (high : ℕ) (cs ds es : List Indexed) → HexPair (Some high) cs ds → HexPair None ds es → None ≡ hex_from 4 0 cs
quad_half high cs ds es h l = sym (h.0 2 0 ∙ l 0 (0 * 256 + high))

pub quad : (high low : ℕ) (cs ds es : List Indexed) → HexPair (Some high) cs ds → HexPair (Some low) ds es → Some (high * 256 + low) ≡ hex_from 4 0 cs
unfolding hex_from
quad high low cs ds es h l =
    let z : high * 256 + low ≡ (0 * 256 + high) * 256 + low = omega arith in
    ap Some z ∙ sym (h.0 2 0 ∙ l.0 0 (0 * 256 + high))

-- a code point that is a scalar value is told as it is
told_scalar : (r : Option ℕ) (v : ℕ) → scalar v ≡ true → SomeIff r (scalar v ≡ true) v → r ≡ Some v
told_scalar None v e t = absurd (t e)
told_scalar (Some x) v e t = ap Some t.1

-- an escape that gives v
took : (r : Option ℕ) (v n : ℕ) (g : Given) (cs ds : List Indexed) → r ≡ Some v → g ≡ Gives v n → ds ≡ drop n cs → Took r g cs ds
took r v n g cs ds e h d = subst (λ o. Took o g cs ds) (sym e) (n, h, d)

pub byte_told : (r : Option ℕ) (v : ℕ) (cs ds es : List Indexed) → ds ≡ drop 1 cs → HexPair (Some v) ds es → SomeIff r (scalar v ≡ true) v → Took r (byte_escape (hex_from 2 0 (drop 1 cs))) cs es
unfolding hex_from
byte_told r v cs ds es d h t =
    let z : 0 * 256 + v ≡ v = omega arith in
    let e : hex_from 2 0 (drop 1 cs) ≡ Some v = ap (hex_from 2 0) (sym d) ∙ h.0 0 0 ∙ ap Some z in
    took r v 3 (byte_escape (hex_from 2 0 (drop 1 cs))) cs es (told_scalar r v (low_scalar v (omega (arith, h.1))) t) (ap byte_escape e) (h.2 ∙ ap (drop 2) d ∙ drop-drop 2 1 cs)

-- octal digits

octal_test : (c : ℕ) → 48 ≤ c → c ≤ 55 → is_octal c ≡ true
octal_test c h l = grind (arith, nat_tests)

octal_more : (n v used : ℕ) (c : Indexed) (cs : List Indexed) → is_octal c.1 ≡ true → octal_from (suc n) v used (c ∷ cs) ≡ octal_from n (v * 8 + (c.1 - 48)) (suc used) cs
unfolding octal_from
octal_more n v used c cs e = ap (λ t. elim t [ true ↦ octal_from n (v * 8 + (c.1 - 48)) (suc used) cs | false ↦ elim (leb v 255) [ true ↦ Gives v used | false ↦ Bad ] ]) e

-- a value above 255 stays above it
octal_over : (n v used : ℕ) (cs : List Indexed) → 255 < v → octal_from n v used cs ≡ Bad
unfolding octal_from
octal_over zero v used cs h = ap (λ t. elim t [ true ↦ Gives v used | false ↦ Bad ]) (lt-leb v 255 h)
octal_over (suc n) v used [] h = ap (λ t. elim t [ true ↦ Gives v used | false ↦ Bad ]) (lt-leb v 255 h)
octal_over (suc n) v used (c ∷ cs) h =
    elim (is_octal c.1) as (λ b. elim b [ true ↦ octal_from n (v * 8 + (c.1 - 48)) (suc used) cs | false ↦ elim (leb v 255) [ true ↦ Gives v used | false ↦ Bad ] ] ≡ Bad) [
      | true ↦ octal_over n (v * 8 + (c.1 - 48)) (suc used) cs (omega arith)
      | false ↦ ap (λ t. elim t [ true ↦ Gives v used | false ↦ Bad ]) (lt-leb v 255 h)
    ]

-- the first character is no octal digit, or there is none
abbrev pub NoOctal : List Indexed → Type 0
NoOctal [] = Unit {0}
NoOctal (c ∷ cs) = is_octal c.1 ≡ false

octal_stop : (n v used : ℕ) (cs : List Indexed) → v < 256 → NoOctal cs → octal_from n v used cs ≡ Gives v used
unfolding octal_from
octal_stop zero v used cs h o = ap (λ t. elim t [ true ↦ Gives v used | false ↦ Bad ]) (le-leb v 255 (omega arith))
octal_stop (suc n) v used [] h o = ap (λ t. elim t [ true ↦ Gives v used | false ↦ Bad ]) (le-leb v 255 (omega arith))
octal_stop (suc n) v used (c ∷ cs) h o =
    ap (λ t. elim t [ true ↦ octal_from n (v * 8 + (c.1 - 48)) (suc used) cs | false ↦ elim (leb v 255) [ true ↦ Gives v used | false ↦ Bad ] ]) o
    ∙ ap (λ t. elim t [ true ↦ Gives v used | false ↦ Bad ]) (le-leb v 255 (omega arith))

-- what is seen ahead decides

pub more_digit : (cs ds : List Indexed) (c v : ℕ) → Some c ≡ ahead cs → 48 ≤ c → c ≤ 55 → v ≤ 31 → ds ≡ drop 1 cs → MoreOctal (Some (v * 8 + (c - 48))) v cs ds
more_digit [] ds c v e l h k d = cc
more_digit (x ∷ cs) ds c v e l h k d =
    let i : x.1 ≡ c = cc in (
      1,
      λ n used. octal_more n v used x cs (ap is_octal i ∙ octal_test c l h) ∙ ap (λ t. octal_from n (v * 8 + (t - 48)) (suc used) cs) i ∙ ap (octal_from n (v * 8 + (c - 48)) (suc used)) (sym d) ∙ ap (λ k. octal_from n (v * 8 + (c - 48)) k ds) (sym (add-one used)),
      omega arith,
      d,
      omega arith,
    )

pub more_over : (cs ds : List Indexed) (c v : ℕ) → Some c ≡ ahead cs → 48 ≤ c → c ≤ 55 → 31 < v → MoreOctal None v cs ds
more_over [] ds c v e l h k = cc
more_over (x ∷ cs) ds c v e l h k = let i : x.1 ≡ c = cc in λ n used.
    octal_more n v used x cs (ap is_octal i ∙ octal_test c l h) ∙ octal_over n (v * 8 + (x.1 - 48)) (suc used) cs (omega arith)

octal_below : (c : ℕ) → c < 48 → is_octal c ≡ false
octal_below c h = grind (arith, nat_tests)

octal_above : (c : ℕ) → 55 < c → is_octal c ≡ false
octal_above c h = grind (arith, nat_tests)

more_stop : (cs ds : List Indexed) (v : ℕ) → NoOctal cs → v < 256 → ds ≡ cs → MoreOctal (Some v) v cs ds
more_stop cs ds v o h d = (
  0,
  λ n used. octal_stop (suc n) v used cs h o ∙ sym (octal_stop n v used cs h o) ∙ ap (octal_from n v used) (sym d) ∙ ap (λ k. octal_from n v k ds) (sym (add-zero used)),
  h,
  d,
  omega arith,
)

no_octal : (cs : List Indexed) (c : ℕ) → Some c ≡ ahead cs → is_octal c ≡ false → NoOctal cs
no_octal [] c e h = tt
no_octal (x ∷ cs) c e h = let i : x.1 ≡ c = cc in ap is_octal i ∙ h

pub more_below : (cs ds : List Indexed) (c v : ℕ) → Some c ≡ ahead cs → c < 48 → v < 256 → ds ≡ cs → MoreOctal (Some v) v cs ds
more_below cs ds c v e l h d = more_stop cs ds v (no_octal cs c e (octal_below c l)) h d

pub more_above : (cs ds : List Indexed) (c v : ℕ) → Some c ≡ ahead cs → 55 < c → v < 256 → ds ≡ cs → MoreOctal (Some v) v cs ds
more_above cs ds c v e l h d = more_stop cs ds v (no_octal cs c e (octal_above c l)) h d

pub more_none : (cs ds : List Indexed) (v : ℕ) → None ≡ ahead cs → v < 256 → ds ≡ cs → MoreOctal (Some v) v cs ds
more_none [] ds v e h d = more_stop [] ds v tt h d
more_none (x ∷ cs) ds v e h d = cc

-- up to three octal digits: the first is taken, and then each that stands there
module _ (v : ℕ) (cs ds es fs : List Indexed) (d : ds ≡ drop 1 cs) where
  pub octal_three : (r : Option ℕ) (w x : ℕ) → MoreOctal (Some w) v ds es → MoreOctal (Some x) w es fs → SomeIff r (scalar x ≡ true) x → Took r (octal_from 2 v 1 (drop 1 cs)) cs fs
  unfolding octal_from
  octal_three r w x h k t =
      let n = 1 + h.0 + k.0 in
      let g : octal_from 2 v 1 (drop 1 cs) ≡ Gives x n =
      ap (octal_from 2 v 1) (sym d) ∙ h.1 1 1 ∙ k.1 0 (1 + h.0) ∙ ap (λ b. elim b [ true ↦ Gives x n | false ↦ Bad ]) (le-leb x 255 (omega (arith, k.2))) in
      let e : fs ≡ drop n cs = k.3 ∙ ap (drop k.0) (h.3 ∙ ap (drop h.0) d ∙ drop-drop h.0 1 cs) ∙ drop-drop k.0 (1 + h.0) cs in
      took r x n (octal_from 2 v 1 (drop 1 cs)) cs fs (told_scalar r x (low_scalar x (omega (arith, k.2))) t) g e
