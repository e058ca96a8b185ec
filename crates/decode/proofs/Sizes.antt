-- What is decoded is no longer than its text.
use Rattle.std.proofs.Common.{◌≡◌, ℕ, zero, suc, ◌+◌, ◌-◌, ◌*◌, ◌<◌, ◌≤◌, Bool, true, false, eqb, leb, List, [], ◌∷◌, map, length, drop, Some, None, Err, IsUtf8, Option, refl, ap, subst, arith}
use lib.Utf8.{scalar, scalars, encode, encodes, low_scalar}
use Rattle.std.proofs.lemmas.List.{length-append, length-drop, length-take}
use Rattle.std.proofs.lemmas.Bool.{leb-true, and_from, and_parts}
use Rattle.std.proofs.lemmas.Str.{length-encode, len_utf8_bounds}
use Rattle.std.proofs.lemmas.Bool.Decides.{nat_tests}
use Rattle.std.specs.Char.{len_utf8}
use Rattle.std.specs.List.{AllByRecursion}
use Rattle.stream.specs.Told.{Ending}
use Rattle.utf8.specs.declared.NotUtf8.{NotUtf8 as Illformed}
use Rattle.utf8.specs.Utf8.{characters, prefix}
use Rattle.utf8.proofs.Laws.{characters_scalars, prefix_front}
use Rattle.escape.specs.declared.fault.DecodeFault.{DecodeFault}
use Rattle.escape.specs.declared.fault.DecodeFault.TheVariants.{Escape}
use Rattle.escape.specs.Escapes.{Indexed, Pair, Given, Gives, Bad, meant, simple, hex_value, hex_from, is_octal, octal_from, is_high, is_low, joined, begins, low_half, partner, unicode, byte_escape, decides, escape, Unescaped, first, ends, passed, unescaped_from, unescaped}

-- an escape that gives v and takes n of cs: v is a scalar value, and its UTF-8 is no longer than the escape
abbrev pub Fits : List Indexed → Given → Type 0
Fits cs (Gives v n) = (scalar v ≡ true) × (length (encode v) ≤ suc n) × (n ≤ length cs)
Fits cs Bad = Unit {0}

narrow : (v n : ℕ) → v < 128 → length (encode v) ≤ suc n
narrow v n h = omega (arith, length-encode v, width_one)
  where
    width_one : len_utf8 v ≡ 1
    width_one = grind (arith, nat_tests)

two_bytes : (v n : ℕ) → v < 2048 → 1 ≤ n → length (encode v) ≤ suc n
two_bytes v n h l = omega (arith, length-encode v, width_two)
  where
    width_two : len_utf8 v ≤ 2
    width_two = grind (arith, nat_tests)

any_bytes : (v n : ℕ) → 3 ≤ n → length (encode v) ≤ suc n
any_bytes v n h = omega (arith, length-encode v, (len_utf8_bounds v).1)

-- the simple ones are ASCII
meant_by : (b : Bool) (x v : ℕ) (o : Option ℕ) → x < 128 → (o ≡ Some v → v < 128) → elim b [ true ↦ Some x | false ↦ o ] ≡ Some v → v < 128
meant_by true x v o h k e = let q : x ≡ v = cc in omega arith
meant_by false x v o h k e = k e

meant_small : (ps : List Pair) (d v : ℕ) → AllByRecursion (λ p. p.1 < 128) ps → meant ps d ≡ Some v → v < 128
unfolding meant
meant_small [] d v a e = let z : ◌≡◌ {A = ℕ} 0 1 = cc in absurd (omega arith)
meant_small (p ∷ ps) d v a e = meant_by (eqb d p.0) p.1 v (meant ps d) a.0 (meant_small ps d v a.1) e

simple_fits : (d v : ℕ) (cs : List Indexed) → meant simple d ≡ Some v → 1 ≤ length cs → Fits cs (Gives v 1)
simple_fits d v cs e l =
    let h : v < 128 = meant_small simple d v (omega arith) e in
    (low_scalar v (omega arith), narrow v 1 h, l)

-- hexadecimal digits

hex_small : (c d : ℕ) → hex_value c ≡ Some d → d < 16
unfolding hex_value
hex_small c d e = grind (arith, nat_tests)

-- m times 16 for each digit
scaled : ℕ → ℕ → ℕ
scaled zero m = m
scaled (suc n) m = scaled n (m * 16)

-- n digits are there, and the number is below m times 16 for each
Number : ℕ → ℕ → List Indexed → Option ℕ → Type 0
Number n m cs None = Unit {0}
Number n m cs (Some v) = (n ≤ length cs) × (v < scaled n m)

number_more : (n m : ℕ) (c : Indexed) (cs : List Indexed) (o : Option ℕ) → Number n (m * 16) cs o → Number (suc n) m (c ∷ cs) o
unfolding Number scaled
number_more n m c cs None h = tt
number_more n m c cs (Some v) h = (omega (arith, h.0), h.1)

hex_number : (n acc m : ℕ) (cs : List Indexed) → acc < m → Number n m cs (hex_from n acc cs)
unfolding Number scaled hex_from
hex_number zero acc m cs h = (omega arith, h)
hex_number (suc n) acc m [] h = tt
hex_number (suc n) acc m (c ∷ cs) h = by (hex_value c.1) refl (λ d k. hex_number n (acc * 16 + d) (m * 16) cs k)
  where
    by : (o : Option ℕ) → hex_value c.1 ≡ o → ((d : ℕ) → acc * 16 + d < m * 16 → Number n (m * 16) cs (hex_from n (acc * 16 + d) cs)) → Number (suc n) m (c ∷ cs) (elim o [ Some d ↦ hex_from n (acc * 16 + d) cs | None ↦ None ])
    by None e k = tt
    by (Some d) e k = number_more n m c cs (hex_from n (acc * 16 + d) cs) (k d (omega (arith, hex_small c.1 d e)))

hex_below : (n top v : ℕ) (cs : List Indexed) → scaled n 1 ≡ top → hex_from n 0 cs ≡ Some v → (n ≤ length cs) × (v < top)
unfolding Number
hex_below n top v cs t e =
    let h : Number n 1 cs (Some v) = subst (Number n 1 cs) e (hex_number n 0 1 cs (omega arith)) in
    (h.0, subst (λ x. v < x) t h.1)

-- x and two digits stand behind the backslash
byte_fits : (d : Indexed) (cs : List Indexed) (o : Option ℕ) → hex_from 2 0 cs ≡ o → Fits (d ∷ cs) (byte_escape o)
unfolding scaled
byte_fits d cs None e = tt
byte_fits d cs (Some v) e =
    let h = hex_below 2 256 v cs refl e in
    (low_scalar v (omega (arith, h.1)), two_bytes v 3 (omega (arith, h.1)) (omega arith), omega (arith, h.0))

-- surrogates

low_fits : (high v : ℕ) (ds : List Indexed) → is_high high ≡ true → 11 ≤ length ds → (b : Bool) → is_low v ≡ b → Fits ds (elim b [ true ↦ Gives (joined high v) 11 | false ↦ Bad ])
low_fits high v ds h l true e = (grind (arith, nat_tests), any_bytes (joined high v) 11 (omega arith), l)
low_fits high v ds h l false e = tt

half_fits : (high : ℕ) (cs ds : List Indexed) (o : Option ℕ) → is_high high ≡ true → (4 ≤ length cs → 11 ≤ length ds) → hex_from 4 0 cs ≡ o → Fits ds (low_half high o)
unfolding scaled
half_fits high cs ds None h l e = tt
half_fits high cs ds (Some v) h l e = low_fits high v ds h (l (hex_below 4 65536 v cs refl e).0) (is_low v) refl

partner_fits : (high : ℕ) (cs ds : List Indexed) → is_high high ≡ true → 5 + length cs ≤ length ds → (a b : Bool) → begins 92 cs ≡ a → begins 117 (drop 1 cs) ≡ b
    → Fits ds (elim a [ true ↦ elim b [ true ↦ low_half high (hex_from 4 0 (drop 2 cs)) | false ↦ Bad ] | false ↦ Bad ])
partner_fits high cs ds h l true true e f = half_fits high (drop 2 cs) ds (hex_from 4 0 (drop 2 cs)) h (λ k. omega (arith, length-drop 2 cs, k)) refl
partner_fits high cs ds h l true false e f = tt
partner_fits high cs ds h l false b e f = tt

lone_fits : (v : ℕ) (ds : List Indexed) → v < 65536 → is_high v ≡ false → 5 ≤ length ds → (b : Bool) → is_low v ≡ b → Fits ds (elim b [ true ↦ Bad | false ↦ Gives v 5 ])
lone_fits v ds h k l true e = tt
lone_fits v ds h k l false e = (grind (arith, nat_tests), any_bytes v 5 (omega arith), l)

pair_fits : (v : ℕ) (cs ds : List Indexed) → v < 65536 → 5 + length cs ≤ length ds → (b : Bool) → is_high v ≡ b → Fits ds (elim b [ true ↦ partner v cs | false ↦ elim (is_low v) [ true ↦ Bad | false ↦ Gives v 5 ] ])
pair_fits v cs ds h l true e = partner_fits v cs ds e l (begins 92 cs) (begins 117 (drop 1 cs)) refl refl
pair_fits v cs ds h l false e = lone_fits v ds h e (omega arith) (is_low v) refl

-- u and four digits stand behind the backslash
unicode_fits : (d : Indexed) (cs : List Indexed) (o : Option ℕ) → hex_from 4 0 cs ≡ o → Fits (d ∷ cs) (unicode o (drop 4 cs))
unfolding scaled
unicode_fits d cs None e = tt
unicode_fits d cs (Some v) e =
    let h = hex_below 4 65536 v cs refl e in
    pair_fits v (drop 4 cs) (d ∷ cs) h.1 (omega (arith, h.0, length-drop 4 cs)) (is_high v) refl

-- octal digits

Octals : ℕ → List Indexed → Given → Type 0
Octals used cs (Gives v n) = (v < 256) × (used ≤ n) × (n ≤ used + length cs)
Octals used cs Bad = Unit {0}

octals_end : (v used : ℕ) (cs : List Indexed) (b : Bool) → leb v 255 ≡ b → Octals used cs (elim b [ true ↦ Gives v used | false ↦ Bad ])
unfolding Octals
octals_end v used cs true e = (omega (arith, leb-true v 255 e), omega arith, omega arith)
octals_end v used cs false e = tt

octals_more : (used : ℕ) (c : Indexed) (cs : List Indexed) (g : Given) → Octals (suc used) cs g → Octals used (c ∷ cs) g
unfolding Octals
octals_more used c cs (Gives v n) h = (h.0, omega (arith, h.1), omega (arith, h.2))
octals_more used c cs Bad h = tt

octals : (n v used : ℕ) (cs : List Indexed) → Octals used cs (octal_from n v used cs)
unfolding octal_from
octals zero v used cs = octals_end v used cs (leb v 255) refl
octals (suc n) v used [] = octals_end v used [] (leb v 255) refl
octals (suc n) v used (c ∷ cs) =
    elim (is_octal c.1) as (λ b. Octals used (c ∷ cs) (elim b [ true ↦ octal_from n (v * 8 + (c.1 - 48)) (suc used) cs | false ↦ elim (leb v 255) [ true ↦ Gives v used | false ↦ Bad ] ])) [
      | true ↦ octals_more used c cs (octal_from n (v * 8 + (c.1 - 48)) (suc used) cs) (octals n (v * 8 + (c.1 - 48)) (suc used) cs)
      | false ↦ octals_end v used (c ∷ cs) (leb v 255) refl
    ]

octal_fits : (d : Indexed) (cs : List Indexed) (g : Given) → Octals 1 cs g → Fits (d ∷ cs) g
unfolding Octals
octal_fits d cs (Gives v n) h = (low_scalar v (omega (arith, h.0)), two_bytes v n (omega (arith, h.0)) h.1, omega (arith, h.2))
octal_fits d cs Bad h = tt

-- each escape fits
longer_fits : (d : Indexed) (cs : List Indexed) (a b o : Bool) → Fits (d ∷ cs) (elim a [
  | true ↦ unicode (hex_from 4 0 cs) (drop 4 cs)
  | false ↦
      elim b [
        | true ↦ byte_escape (hex_from 2 0 cs)
        | false ↦
            elim o [ true ↦ octal_from 2 (d.1 - 48) 1 cs | false ↦ Gives 92 0 ]
      ]
])
longer_fits d cs true b o = unicode_fits d cs (hex_from 4 0 cs) refl
longer_fits d cs false true o = byte_fits d cs (hex_from 2 0 cs) refl
longer_fits d cs false false true = octal_fits d cs (octal_from 2 (d.1 - 48) 1 cs) (octals 2 (d.1 - 48) 1 cs)
longer_fits d cs false false false = (refl, narrow 92 0 (omega arith), omega arith)

decides_fits : (d : Indexed) (cs : List Indexed) (o : Option ℕ) → meant simple d.1 ≡ o → Fits (d ∷ cs) (decides o d.1 cs)
decides_fits d cs (Some v) e = simple_fits d.1 v (d ∷ cs) e (omega arith)
decides_fits d cs None e = longer_fits d cs (eqb d.1 117) (eqb d.1 120) (is_octal d.1)

pub escape_fits : (cs : List Indexed) → Fits cs (escape cs)
escape_fits [] = tt
escape_fits (d ∷ cs) = decides_fits d cs (meant simple d.1) refl

-- the whole text

-- the bytes of characters
size : List Indexed → ℕ
size cs = length (encodes (map (λ p. p.1) cs))

size_more : (c : Indexed) (cs : List Indexed) → size (c ∷ cs) ≡ length (encode c.1) + size cs
unfolding size
size_more c cs = length-append (encode c.1) (encodes (map (λ p. p.1) cs))

encode_some : (c : ℕ) → 1 ≤ length (encode c)
encode_some c = omega (arith, length-encode c, (len_utf8_bounds c).0)

-- each character has a byte at least
size_drop : (n : ℕ) (cs : List Indexed) → n ≤ length cs → n + size (drop n cs) ≤ size cs
size_drop zero cs h = omega arith
size_drop (suc n) [] h = absurd (omega arith)
size_drop (suc n) (c ∷ cs) h = omega (arith, size_more c cs, encode_some c.1, size_drop n cs (omega arith))

-- code points that take no more bytes than these, all of them scalar values
record Small (u : Unescaped) (n : ℕ) : Type 0 where
  few : length (encodes u.points) ≤ n
  fine : scalars u.points ≡ true

small_more : (v n m k : ℕ) (u : Unescaped) → scalar v ≡ true → length (encode v) ≤ m → m + n ≤ k → Small u n → Small (first v u) k
small_more v n m k u s w l h = record {
  few = omega (arith, length-append (encode v) (encodes u.points), h.few);
  fine = and_from (scalar v) (scalars u.points) s h.fine;
}

ends_small : (f : Ending DecodeFault) (n : ℕ) → Small (ends f) n
ends_small f n = record { few = omega arith; fine = refl }

behind_small : (c : Indexed) (cs : List Indexed) (e : Ending Illformed) (g : Given) → Fits cs g → ((n : ℕ) → Small (unescaped_from n cs e) (size (drop n cs)))
    → Small (elim g [ Gives v n ↦ first v (unescaped_from n cs e) | Bad ↦ ends (Err (Escape (record { backslash = c.0 }))) ]) (size (c ∷ cs))
behind_small c cs e (Gives v n) h k =
    small_more v (size (drop n cs)) (suc n) (size (c ∷ cs)) (unescaped_from n cs e) h.0 h.1 (omega (arith, size_more c cs, encode_some c.1, size_drop n cs h.2)) (k n)
behind_small c cs e Bad h k = ends_small (Err (Escape (record { backslash = c.0 }))) (size (c ∷ cs))

unescaped_small : (k : ℕ) (cs : List Indexed) (e : Ending Illformed) → scalars (map (λ p. p.1) cs) ≡ true → Small (unescaped_from k cs e) (size (drop k cs))
unfolding unescaped_from
unescaped_small zero [] e s = ends_small (passed e) (size [])
unescaped_small (suc k) [] e s = ends_small (passed e) (size [])
unescaped_small (suc k) (c ∷ cs) e s = unescaped_small k cs e (and_parts (scalar c.1) (scalars (map (λ p. p.1) cs)) s).1
unescaped_small zero (c ∷ cs) e s =
    let p = and_parts (scalar c.1) (scalars (map (λ p. p.1) cs)) s in
    elim (eqb c.1 92) as (λ b. Small (elim b [
      | true ↦ elim (escape cs) [ Gives v n ↦ first v (unescaped_from n cs e) | Bad ↦ ends (Err (Escape (record { backslash = c.0 }))) ]
      | false ↦ first c.1 (unescaped_from zero cs e)
    ]) (size (c ∷ cs))) [
      | true ↦ behind_small c cs e (escape cs) (escape_fits cs) (λ n. unescaped_small n cs e p.1)
      | false ↦ small_more c.1 (size cs) (length (encode c.1)) (size (c ∷ cs)) (unescaped_from zero cs e) p.0 (omega arith) (omega (arith, size_more c cs)) (unescaped_small zero cs e p.1)
    ]

-- what the characters of a text mean is no longer than the text, and UTF-8
pub decoded_few : (xs : List ℕ) (e : Ending Illformed) → length (encodes (unescaped (characters 0 xs) e).points) ≤ length xs
unfolding size
decoded_few xs e =
    let h = (unescaped_small 0 (characters 0 xs) e (characters_scalars 0 xs)).few in
    omega (arith, h, ap length (prefix_front 0 xs), length-take (prefix xs) xs)

pub decoded_utf8 : (xs : List ℕ) (e : Ending Illformed) → IsUtf8 (encodes (unescaped (characters 0 xs) e).points)
decoded_utf8 xs e = ((unescaped (characters 0 xs) e).points, ((unescaped_small 0 (characters 0 xs) e (characters_scalars 0 xs)).fine, refl))
