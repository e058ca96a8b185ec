-- The verdicts of numbers.
use Rattle.std.proofs.Common.{◌≡◌, ℕ, ◌+◌, ◌-◌, ◌^◌, ◌<◌, ◌≤◌, Bool, true, false, ltb, List, [], ◌∷◌, length, get_or, take, drop, Some, None, Ok, Err, Option, sym, refl, ap, ◌∙◌, subst, arith}
use Rattle.std.proofs.lemmas.List.{length-drop, take_rest}
use Rattle.std.proofs.lemmas.Bool.{true≢false}
use Rattle.std.proofs.lemmas.Bool.Decides.{nat_tests}
use Rattle.pieces.specs.declared.fault.FaultKind.TheVariants.{BadInteger, TrailingUnderscore}
use Rattle.pieces.specs.declared.kind.Kind.TheVariants.{Int, Big}
use Rattle.rules.specs.declared.LexerState.{LexerState}
use Rattle.rules.specs.declared.NumberState.{NumberState}
use Rattle.rules.specs.declared.NumberState.TheVariants.{RadixInteger, Integer, Fraction, Exponent, ExponentSign, ExponentDigits}
use Rattle.rules.specs.declared.Pending.TheVariants.{Nothing}
use Rattle.rules.specs.Bytes.{is_digit, last_is}
use Rattle.rules.specs.State.{told, plain, Verdict, fault}
use Rattle.rules.specs.Numbers.{base_of, turn, scan, Scanned, value_of, integer, number_by, scanned}
use Rattle.numbers.specs.Within.{Within}
use Rattle.numbers.proofs.Scans.{longest_at, scan_on}

-- a verdict on n bytes
abbrev Sized : ℕ → LexerState → Verdict → Type 0
Sized n m (Ok (Some s)) = (s.len ≡ n) × (s.from ≡ 0) × (s.to ≡ n) × (s.state ≡ m) × (s.pending ≡ Nothing)
Sized n m (Ok None) = ⊥
Sized n m (Err f) = f.distance ≡ n

integer_sized : (n : ℕ) (m : LexerState) (o : Option ℕ) → Sized n m (integer n m o)
integer_sized n m None = refl
integer_sized n m (Some v) =
    elim (ltb v (2 ^ 64)) as (λ t. Sized n m (elim t as (λ x. Verdict) [ true ↦ told Int n 0 n (Some v) m Nothing | false ↦ elim (ltb v (2 ^ 128)) [ true ↦ plain Big n m Nothing | false ↦ fault BadInteger n ] ])) [
      | true ↦ (refl, refl, refl, refl, refl)
      | false ↦ elim (ltb v (2 ^ 128)) as (λ t. Sized n m (elim t as (λ x. Verdict) [ true ↦ plain Big n m Nothing | false ↦ fault BadInteger n ])) [ true ↦ (refl, refl, refl, refl, refl) | false ↦ refl ]
    ]

by_sized : (p : NumberState) (base n : ℕ) (m : LexerState) (xs : List ℕ) → Sized n m (number_by p base n m xs)
by_sized RadixInteger base n m xs = integer_sized n m (value_of base xs)
by_sized Integer base n m xs = integer_sized n m (value_of base xs)
by_sized Fraction base n m xs = (refl, refl, refl, refl, refl)
by_sized Exponent base n m xs = refl
by_sized ExponentSign base n m xs = refl
by_sized ExponentDigits base n m xs = (refl, refl, refl, refl, refl)

scanned_sized : (base skip : ℕ) (m : LexerState) (xs : List ℕ) (s : Scanned) → Sized (skip + s.0) m (scanned base skip m xs s)
scanned_sized base skip m xs s =
    elim (last_is 95 (take s.0 xs)) as
    (λ t. Sized (skip + s.0) m (elim t as (λ x. Verdict) [ true ↦ fault TrailingUnderscore (skip + s.0) | false ↦ number_by s.1 base (skip + s.0) m (take s.0 xs) ])) [
      | true ↦ refl
      | false ↦ by_sized s.1 base (skip + s.0) m (take s.0 xs)
    ]

sized_within : (m : LexerState) (xs : List ℕ) (n : ℕ) (v : Verdict) → n ≤ length xs → (is_digit (get_or xs 0 0) ≡ true → 0 < n) → Sized n m v → Within m xs v
sized_within m xs n (Ok (Some s)) l d t =
    record { some = λ e. subst (λ k. 0 < k) (sym t.0) (d e); inside = subst (λ k. k ≤ length xs) (sym t.0) l; begins = t.1; ends = t.2 ∙ sym t.0; stays = t.3; idle = t.4 }
sized_within m xs n (Ok None) l d t = t
sized_within m xs n (Err f) l d t = subst (λ j. j ≤ length xs) (sym t) l

-- a number of base 10 takes a first digit
digit_turns : (base x : ℕ) (dotted : Bool) (xs : List ℕ) → is_digit x ≡ true → turn base dotted Integer x xs ≡ Some Integer
digit_turns base x dotted xs e = grind (arith, nat_tests)

some_digit : (base : ℕ) (dotted : Bool) (xs : List ℕ) → is_digit (get_or xs 0 0) ≡ true → 0 < (scan base dotted Integer xs).0
some_digit base dotted [] e = absurd (true≢false (sym e))
some_digit base dotted (x ∷ xs) e = let s = scan_on base dotted Integer Integer x xs (digit_turns base x dotted xs e) in subst (λ t. 0 < t.0) (sym s) (omega arith)

-- a prefix has two bytes
two : (xs : List ℕ) → (base_of xs ≡ 10 → ⊥) → 2 ≤ length xs
two [] n = absurd (n refl)
two (x ∷ []) n = absurd (n refl)
two (x ∷ (y ∷ ys)) n = omega arith

module _ (dotted : Bool) (m : LexerState) (xs : List ℕ) where
  -- a number of base 10
  pub decimal_within : (r : Verdict) → r ≡ scanned 10 0 m xs (scan 10 dotted Integer xs) → Within m xs r
  decimal_within r f =
      let s = scan 10 dotted Integer xs in
      let l = (longest_at 10 dotted Integer xs s refl).0 in
      let z : 0 + s.0 ≤ length xs = omega arith in
      subst (Within m xs) (sym f) (sized_within m xs (0 + s.0) _ z (λ d. let w = some_digit 10 dotted xs d in omega arith) (scanned_sized 10 0 m xs s))

  -- a number of another base, which its first two bytes tell
  pub radix_within : (base : ℕ) → base ≡ base_of xs → (base ≡ 10 → ⊥) → (r : Verdict)
      → r ≡ scanned base 2 m (take (length xs - 2) (drop 2 xs)) (scan base dotted RadixInteger (take (length xs - 2) (drop 2 xs))) → Within m xs r
  radix_within base e n r f =
      let ys : List ℕ = take (length xs - 2) (drop 2 xs) in
      let s = scan base dotted RadixInteger ys in
      let l = (longest_at base dotted RadixInteger ys s refl).0 in
      let d = ap length (take_rest xs 2) ∙ length-drop 2 xs in
      let t = two xs (λ h. n (e ∙ h)) in
      let z : 2 + s.0 ≤ length xs = omega arith in
      subst (Within m xs) (sym f) (sized_within m xs (2 + s.0) _ z (λ d. omega arith) (scanned_sized base 2 m ys s))
