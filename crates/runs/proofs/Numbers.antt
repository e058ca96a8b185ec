-- No number is misnamed.
use Rattle.std.proofs.Common.{◌≡◌, ℕ, ◌+◌, ◌^◌, ◌<◌, ◌≤◌, Bool, true, false, eqb, ltb, List, [], ◌∷◌, length, get_or, take, drop, Some, None, Option, ◌⊎◌, sym, refl, ap, ◌∙◌, subst, inl, inr, arith}
use Rattle.std.proofs.lemmas.List.{length-take}
use Rattle.std.proofs.lemmas.Bool.{both_ways, eqb-true, ltb-true, ltb-false}
use Rattle.std.proofs.lemmas.Bool.Decides.{nat_tests}
use Rattle.finder.specs.Finding.{Opening}
use Rattle.pieces.specs.declared.kind.Kind.TheVariants.{Int, Big}
use Rattle.pieces.specs.declared.fault.FaultKind.TheVariants.{TrailingUnderscore, BadInteger}
use Rattle.rules.specs.declared.LexerState.{LexerState}
use Rattle.rules.specs.declared.NumberState.{NumberState}
use Rattle.rules.specs.declared.NumberState.TheVariants.{RadixInteger, Integer, Fraction, Exponent, ExponentSign, ExponentDigits}
use Rattle.rules.specs.declared.Pending.TheVariants.{Nothing}
use Rattle.rules.specs.Bytes.{is_digit, behind_at, last_is}
use Rattle.rules.specs.Config.{Config}
use Rattle.rules.specs.Numbers.{base_of, scan, Scanned, value_of, integer, number_by, scanned, number}
use Rattle.rules.specs.Reading.{left_len}
use Rattle.rules.specs.State.{told, plain, Verdict, fault}
use Rattle.rules.specs.Tags.{dot_behind}
use Rattle.numbers.specs.Written.{below128, Written}
use Rattle.numbers.proofs.Digits.{below_one, written_at}
use Rattle.numbers.proofs.Lasts.{last_decides}
use Rattle.numbers.proofs.Scans.{longest_at}
use Rattle.runs.specs.Named.{is_dotted, prefix_len, first_part, digits_at, IsNumber, IsInteger}
use Rattle.runs.proofs.Behind.{left_behind}
use Rattle.runs.proofs.Gaps.{Holds}
use Rattle.runs.proofs.Words.{dot_stands}

-- no base is larger than 16
base_le : (xs : List ℕ) → base_of xs ≤ 16
base_le [] = omega arith
base_le (x ∷ []) = omega arith
base_le (x ∷ (y ∷ ys)) = grind (arith, nat_tests)

module _ (os : List Opening) (s : Config) (t : List ℕ) (i : ℕ) where
  abbrev H : Verdict → Type 0
  H v = Holds os s t i v

  -- what the cut leaves
  abbrev left : List ℕ
  left = take (left_len s t) t

  -- the base of the number here
  abbrev base : ℕ
  base = base_of (drop i left)

  -- the bytes behind those that tell it
  abbrev ys : List ℕ
  ys = digits_at left i

  module _ (m : LexerState) where
    -- n bytes of them are the digits of a number that stops in the part p
    module _ (n : ℕ) (p : NumberState) (f : IsNumber n p left i (i + (prefix_len base + n))) where
      abbrev digits : List ℕ
      digits = take n ys

      abbrev len : ℕ
      len = prefix_len base + n

      writes : (v : ℕ) → value_of base digits ≡ Some v → v < 2 ^ 128 → Written base digits (Some v)
      writes v e h = written_at base digits (Some v) (below_one v h ∙ ap below128 (sym e)) (base_le (drop i left))

      module _ (k : (p ≡ Integer) ⊎ (p ≡ RadixInteger)) where
        integer_by : (v : ℕ) → value_of base digits ≡ Some v → (b c : Bool) → ltb v (2 ^ 64) ≡ b → ltb v (2 ^ 128) ≡ c
            → H (elim b [ true ↦ told Int len 0 len (Some v) m Nothing | false ↦ elim c [ true ↦ plain Big len m Nothing | false ↦ fault BadInteger len ] ])
        integer_by v e true c g h =
            let l = ltb-true v (2 ^ 64) g in
            let w : IsInteger v left i (i + len) = (n, p, f, k, writes v e (omega arith)) in
            (tt, ((v, w, l), (v, w, refl)), tt)
        integer_by v e false true g h =
            let l = ltb-true v (2 ^ 128) h in
            (tt, ((v, (n, p, f, k, writes v e l), ltb-false v (2 ^ 64) g, l), refl), tt)
        integer_by v e false false g h = tt

        integer_holds : (o : Option ℕ) → value_of base digits ≡ o → H (integer len m o)
        integer_holds None e = tt
        integer_holds (Some v) e = integer_by v e (ltb v (2 ^ 64)) (ltb v (2 ^ 128)) refl refl

    number_by_holds : (n : ℕ) (p : NumberState) → IsNumber n p left i (i + (prefix_len base + n)) → H (number_by p base (prefix_len base + n) m (take n ys))
    number_by_holds n RadixInteger f = integer_holds n RadixInteger f (inr refl) (value_of base (take n ys)) refl
    number_by_holds n Integer f = integer_holds n Integer f (inl refl) (value_of base (take n ys)) refl
    number_by_holds n Fraction f = (tt, ((n, Fraction, f, inl refl), refl), tt)
    number_by_holds n Exponent f = tt
    number_by_holds n ExponentSign f = tt
    number_by_holds n ExponentDigits f = (tt, ((n, ExponentDigits, f, inr refl), refl), tt)

    -- a number of some base behind k bytes that tell it, whose digits begin in the part p
    abbrev told_in : ℕ → ℕ → NumberState → Verdict
    told_in b k p = scanned b k m (drop k (drop i left)) (scan b (is_dotted left i) p (drop k (drop i left)))

    number_in : (b : Bool) → eqb base 10 ≡ b
        → elim b as (λ _. Verdict) [ true ↦ told_in 10 0 Integer | false ↦ told_in base 2 RadixInteger ]
        ≡ told_in base (elim b [ true ↦ 0 | false ↦ 2 ]) (elim b [ true ↦ Integer | false ↦ RadixInteger ])
    number_in true e = ap (λ b. told_in b 0 Integer) (sym (eqb-true base 10 e))
    number_in false e = refl

    number_is : number (is_dotted left i) m (drop i left) ≡ told_in base (prefix_len base) (first_part base)
    unfolding number
    number_is = number_in (eqb base 10) refl

    abbrev r : Scanned
    r = scan base (is_dotted left i) (first_part base) ys

    scanned_holds : is_digit (get_or (drop i left) 0 0) ≡ true → (b : Bool) → last_is 95 (take r.0 ys) ≡ b
        → H (elim b [ true ↦ fault TrailingUnderscore (prefix_len base + r.0) | false ↦ number_by r.1 base (prefix_len base + r.0) m (take r.0 ys) ])
    scanned_holds d true e = tt
    scanned_holds d false e = number_by_holds r.0 r.1 (record {
      begins = d;
      longest = longest_at base (is_dotted left i) (first_part base) ys r refl;
      ends = λ h. both_ways (last_is 95 (take r.0 ys)) e ((last_decides 95 (take r.0 ys) (last_is 95 (take r.0 ys)) refl).1 h);
      reaches = refl;
    })

  -- the dot that a number looks back to stands right before it
  dotted : i ≤ length left → dot_behind (behind_at t i) ≡ is_dotted left i
  dotted h = ap dot_behind (sym (left_behind t (left_len s t) i (omega (arith, length-take (left_len s t) t)))) ∙ dot_stands left i h

  -- a number is what its kind says
  pub number_holds : i ≤ length left → (m : LexerState) → is_digit (get_or (drop i left) 0 0) ≡ true → H (number (dot_behind (behind_at t i)) m (drop i left))
  number_holds h m d = subst H (sym (ap (λ b. number b m (drop i left)) (dotted h) ∙ number_is m)) (scanned_holds m d (last_is 95 (take (r m).0 ys)) refl)
