-- Numbers.
use Rattle.std.specs.Prelude.{ℕ, suc, ◌+◌, ◌*◌, ◌^◌, Bool, true, false, not, ◌&&◌, ◌||◌, List, [], ◌∷◌, take, drop, Some, None, Option, ◌==◌, nat_lt}
use Rattle.pieces.specs.declared.kind.Kind.TheVariants.{Int, Big, Float}
use Rattle.pieces.specs.declared.fault.FaultKind.TheVariants.{TrailingUnderscore, NoExponent, BadInteger}
use Rattle.escape.specs.Escapes.{hex_value}
use Rattle.rules.specs.declared.LexerState.{LexerState}
use Rattle.rules.specs.declared.Pending.TheVariants.{Nothing}
use Rattle.rules.specs.declared.NumberState.{NumberState}
use Rattle.rules.specs.declared.NumberState.TheVariants.{RadixInteger, Integer, Fraction, Exponent, ExponentSign, ExponentDigits}
use Rattle.rules.specs.Bytes.{within, is_digit, is_sign, leads_name, last_is}
use Rattle.rules.specs.State.{told, plain, Verdict, fault}

-- the byte is one of two: a letter in either case
abbrev pub either : ℕ → ℕ → ℕ → Bool
either a b x = x == a || x == b

-- the base that a letter behind 0 decides: b or B, o or O, x or X
abbrev pub base_by : ℕ → ℕ
base_by y = elim (either 98 66 y) [ true ↦ 2 | false ↦ elim (either 111 79 y) [ true ↦ 8 | false ↦ elim (either 120 88 y) [ true ↦ 16 | false ↦ 10 ] ] ]

-- the base that the first two bytes decide
abbrev pub base_of : List ℕ → ℕ
base_of [] = 10
base_of (x ∷ []) = 10
base_of (x ∷ (y ∷ ys)) = elim (x == 48) [ true ↦ base_by y | false ↦ 10 ]

-- e or E
abbrev pub is_e : ℕ → Bool
is_e x = either 101 69 x

-- a sign or a digit is first
abbrev pub sign_or_digit : List ℕ → Bool
sign_or_digit [] = false
sign_or_digit (x ∷ xs) = is_sign x || is_digit x

-- an identifier is first, and it is not e or E with a sign or a digit
abbrev pub member_ahead : List ℕ → Bool
member_ahead [] = false
member_ahead (x ∷ xs) = leads_name x && not (is_e x && sign_or_digit xs)

-- digits and `_` leave the part of the number as it is; what else comes stops it
abbrev pub stays : NumberState → ℕ → Option NumberState
stays p x = elim (is_digit x || x == 95) [ true ↦ Some p | false ↦ None ]

-- behind a part of a number, the byte x with xs behind it leads to this part, or stops the number:
-- the letters of base 16 stay; a dot begins a fraction unless a dot is right before the number or a member follows; e leads to the exponent,
-- which a sign or a digit leads on
abbrev pub turn : ℕ → Bool → NumberState → ℕ → List ℕ → Option NumberState
turn base dotted RadixInteger x xs = elim (base == 16 && (within 97 102 x || within 65 70 x)) [ true ↦ Some RadixInteger | false ↦ stays RadixInteger x ]
turn base dotted Integer x xs =
    elim (x == 46) [
      | true ↦ elim (dotted || member_ahead xs) [ true ↦ None | false ↦ Some Fraction ]
      | false ↦ elim (is_e x) [ true ↦ Some Exponent | false ↦ stays Integer x ]
    ]
turn base dotted Fraction x xs = elim (is_e x) [ true ↦ Some Exponent | false ↦ stays Fraction x ]
turn base dotted Exponent x xs = elim (is_sign x) [ true ↦ Some ExponentSign | false ↦ elim (is_digit x) [ true ↦ Some ExponentDigits | false ↦ stays Exponent x ] ]
turn base dotted ExponentSign x xs = elim (is_digit x) [ true ↦ Some ExponentDigits | false ↦ stays ExponentSign x ]
turn base dotted ExponentDigits x xs = stays ExponentDigits x

-- how many bytes a number has, and the part in which it stops
abbrev pub Scanned : Type 0
Scanned = ℕ × NumberState

-- one byte more
abbrev pub longer : Scanned → Scanned
longer s = (suc s.0, s.1)

-- the number from a part on
unfoldable pub scan : ℕ → Bool → NumberState → List ℕ → Scanned
scan base dotted p [] = (0, p)
scan base dotted p (x ∷ xs) = elim (turn base dotted p x xs) [ None ↦ (0, p) | Some q ↦ longer (scan base dotted q xs) ]

-- a digit of a base
abbrev pub digit_of : ℕ → ℕ → Option ℕ
digit_of base x = elim (hex_value x) [ None ↦ None | Some d ↦ elim (nat_lt d base) [ true ↦ Some d | false ↦ None ] ]

-- the value of digits behind those of acc, underscores dropped; none where one is not of the base
unfoldable pub value_from : ℕ → ℕ → List ℕ → Option ℕ
value_from base acc [] = Some acc
value_from base acc (x ∷ xs) =
    elim (x == 95) [
      | true ↦ value_from base acc xs
      | false ↦ elim (digit_of base x) [ None ↦ None | Some d ↦ value_from base (acc * base + d) xs ]
    ]

-- the value of digits; of no bytes there is none
abbrev pub value_of : ℕ → List ℕ → Option ℕ
value_of base [] = None
value_of base (x ∷ xs) = value_from base 0 (x ∷ xs)

-- an integer of n bytes: below 2^64 it is `int`, below 2^128 `big`, else it is bad
abbrev pub integer : ℕ → LexerState → Option ℕ → Verdict
integer n m None = fault BadInteger n
integer n m (Some v) =
    elim (nat_lt v (2 ^ 64)) [
      | true ↦ told Int n 0 n (Some v) m Nothing
      | false ↦ elim (nat_lt v (2 ^ 128)) [ true ↦ plain Big n m Nothing | false ↦ fault BadInteger n ]
    ]

-- a number of n bytes, with these digits, that stops in this part
abbrev pub number_by : NumberState → ℕ → ℕ → LexerState → List ℕ → Verdict
number_by RadixInteger base n m xs = integer n m (value_of base xs)
number_by Integer base n m xs = integer n m (value_of base xs)
number_by Fraction base n m xs = plain Float n m Nothing
number_by Exponent base n m xs = fault NoExponent n
number_by ExponentSign base n m xs = fault NoExponent n
number_by ExponentDigits base n m xs = plain Float n m Nothing

-- what was scanned behind a prefix of so many bytes: it may not end in `_`
abbrev pub scanned : ℕ → ℕ → LexerState → List ℕ → Scanned → Verdict
scanned base skip m xs s =
    elim (last_is 95 (take s.0 xs)) [
      | true ↦ fault TrailingUnderscore (skip + s.0)
      | false ↦ number_by s.1 base (skip + s.0) m (take s.0 xs)
    ]

-- the number that stands here, where a dot is right before it or not
unfoldable pub number : Bool → LexerState → List ℕ → Verdict
number dotted m xs =
    elim (base_of xs == 10) [
      | true ↦ scanned 10 0 m xs (scan 10 dotted Integer xs)
      | false ↦ scanned (base_of xs) 2 m (drop 2 xs) (scan (base_of xs) dotted RadixInteger (drop 2 xs))
    ]
