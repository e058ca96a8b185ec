-- The values of digits.
use Rattle.std.proofs.Common.{◌≡◌, ℕ, zero, suc, ◌+◌, ◌*◌, ◌^◌, ◌<◌, ◌≤◌, true, false, cond, not, ltb, List, [], ◌∷◌, length, get_or, drop, Some, None, Option, sym, refl, ap, ◌∙◌, subst, inl, inr, ⊎_elim, lt_of_lt_of_le, le-mul_of_pos_right, arith}
use Rattle.std.proofs.lemmas.List.{drop_more, drop_all}
use Rattle.std.proofs.lemmas.Bool.{cases_eq, cases_lt, eq-eqb, ne_eqb, lt-ltb, le-ltb}
use Rattle.std.proofs.lemmas.Bool.Decides.{nat_tests}
use Rattle.std.proofs.lemmas.Grind.{common_steps}
use Rattle.std.specs.Option.{SomeIff}
use Rattle.std.specs.Str.Parse.{digits_value_after}
use Rattle.std.specs.Char.{digit_value}
use Rattle.escape.specs.Escapes.{hex_value}
use Rattle.escape.proofs.Steps.{hex_digit, hex_none}
use Rattle.rules.specs.Numbers.{digit_of, value_from, value_of}
use Rattle.numbers.specs.Written.{below128, Readable, bare, Written}

not_below : (a b : ℕ) → (a < b → ⊥) → b ≤ a
not_below a b h = omega arith

pub hex_told : (r : Option ℕ) (x : ℕ) → SomeIff r (digit_value x < 16) (digit_value x) → hex_value x ≡ r
hex_told None x t = hex_none x (not_below (digit_value x) 16 t)
hex_told (Some d) x t = hex_digit x t.0 ∙ ap Some (sym t.1)

-- one byte of a value
module _ (base acc x : ℕ) (xs : List ℕ) where
  value_underscore : x ≡ 95 → value_from base acc (x ∷ xs) ≡ value_from base acc xs
  unfolding value_from
  value_underscore e =
      ap (λ t. elim t [ true ↦ value_from base acc xs | false ↦ elim (digit_of base x) [ None ↦ None | Some d ↦ value_from base (acc * base + d) xs ] ]) (eq-eqb x 95 e)

  value_other : (x ≡ 95 → ⊥) → (o : Option ℕ) → digit_of base x ≡ o → value_from base acc (x ∷ xs) ≡ elim o [ None ↦ None | Some d ↦ value_from base (acc * base + d) xs ]
  unfolding value_from
  value_other n o e =
      ap (λ t. elim t [ true ↦ value_from base acc xs | false ↦ elim (digit_of base x) [ None ↦ None | Some d ↦ value_from base (acc * base + d) xs ] ]) (ne_eqb x 95 n)
      ∙ ap (λ t. elim t [ None ↦ None | Some d ↦ value_from base (acc * base + d) xs ]) e

-- a walk along the digits that has come to `i` with a value
abbrev pub Walked : ℕ → List ℕ → ℕ → ℕ → Type 0
Walked base s i acc = value_from base 0 s ≡ value_from base acc (drop i s)

pub below_one : (v : ℕ) → v < 2 ^ 128 → Some v ≡ below128 (Some v)
below_one v h = sym (ap (λ t. elim t [ true ↦ Some v | false ↦ None ]) (lt-ltb v (2 ^ 128) h))

-- a value that is too large stays so
over_by : (base acc x : ℕ) (xs : List ℕ) → ((n : ℕ) → 2 ^ 128 ≤ n → below128 (value_from base n xs) ≡ None) → 0 < base → 2 ^ 128 ≤ acc → (x ≡ 95 → ⊥) → (o : Option ℕ) → digit_of base x ≡ o → below128 (value_from base acc (x ∷ xs)) ≡ None
over_by base acc x xs each b h n None e = ap below128 (value_other base acc x xs n None e)
over_by base acc x xs each b h n (Some d) e = ap below128 (value_other base acc x xs n (Some d) e) ∙ each (acc * base + d) (omega (arith, le-mul_of_pos_right acc b))

over : (base : ℕ) → 0 < base → (xs : List ℕ) (acc : ℕ) → 2 ^ 128 ≤ acc → below128 (value_from base acc xs) ≡ None
unfolding value_from
over base b [] acc h = ap (λ t. elim t as (λ x. Option ℕ) [ true ↦ Some acc | false ↦ None ]) (le-ltb acc (2 ^ 128) h)
over base b (x ∷ xs) acc h =
    ⊎_elim (λ e. ap below128 (value_underscore base acc x xs e) ∙ over base b xs acc h)
    (λ n. over_by base acc x xs (over base b xs) b h n (digit_of base x) refl)
    (cases_eq x 95)

-- a base that has a digit
positive_by : (base d : ℕ) (o : Option ℕ) → elim o as (λ x. Option ℕ) [ None ↦ None | Some n ↦ elim (ltb n base) [ true ↦ Some n | false ↦ None ] ] ≡ Some d → 0 < base
positive_by base d None e = grind (arith, common_steps)
positive_by base d (Some n) e = grind (arith, common_steps, nat_tests)

positive : (base x d : ℕ) → digit_of base x ≡ Some d → 0 < base
positive base x d e = positive_by base d (hex_value x) e

value_some : (base : ℕ) (s : List ℕ) → 0 < length s → value_of base s ≡ value_from base 0 s
value_some base [] h = absurd (omega arith)
value_some base (x ∷ xs) h = refl

-- steps of a walk
module _ (base : ℕ) (s : List ℕ) (i acc : ℕ) (h : i < length s) (w : Walked base s i acc) where
  here : (x : ℕ) → x ≡ get_or s i 0 → value_from base 0 s ≡ value_from base acc (x ∷ drop (i + 1) s)
  here x e = w ∙ ap (value_from base acc) (drop_more s i 0 h ∙ ap (λ y. y ∷ drop (i + 1) s) (sym e))

  pub walked_underscore : get_or s i 0 ≡ 95 → Walked base s (i + 1) acc
  walked_underscore e = here (get_or s i 0) refl ∙ value_underscore base acc (get_or s i 0) (drop (i + 1) s) e

  walked_digit : (get_or s i 0 ≡ 95 → ⊥) → (o : Option ℕ) → o ≡ digit_of base (get_or s i 0) → value_from base 0 s ≡ elim o as (λ x. Option ℕ) [ None ↦ None | Some d ↦ value_from base (acc * base + d) (drop (i + 1) s) ]
  walked_digit n o e = here (get_or s i 0) refl ∙ value_other base acc (get_or s i 0) (drop (i + 1) s) n o (sym e)

  pub walked_bad : (get_or s i 0 ≡ 95 → ⊥) → None ≡ digit_of base (get_or s i 0) → None ≡ below128 (value_of base s)
  walked_bad n e = sym (ap below128 (value_some base s (omega arith) ∙ walked_digit n None e))

  pub walked_over : (d : ℕ) → (get_or s i 0 ≡ 95 → ⊥) → Some d ≡ digit_of base (get_or s i 0) → (acc * base + d < 2 ^ 128 → ⊥) → None ≡ below128 (value_of base s)
  walked_over d n e l =
      let b = positive base (get_or s i 0) d (sym e) in
      sym (ap below128 (value_some base s (omega arith) ∙ walked_digit n (Some d) e) ∙ over base b (drop (i + 1) s) (acc * base + d) (omega arith))

  pub walked_more : (d v : ℕ) → (get_or s i 0 ≡ 95 → ⊥) → Some d ≡ digit_of base (get_or s i 0) → v ≡ acc * base + d → Walked base s (i + 1) v
  walked_more d v n e f = walked_digit n (Some d) e ∙ ap (λ m. value_from base m (drop (i + 1) s)) (sym f)

pub walked_all : (base : ℕ) (s : List ℕ) (i acc : ℕ) → 0 < length s → length s ≤ i → acc < 2 ^ 128 → Walked base s i acc → Some acc ≡ below128 (value_of base s)
unfolding value_from
walked_all base s i acc h l b w = sym (ap below128 (value_some base s h ∙ w ∙ ap (value_from base acc) (drop_all i s l)) ∙ sym (below_one acc b))

-- what the value is: each byte is `_` or a digit, and the value is what they write; or one byte is neither
abbrev Told : ℕ → ℕ → List ℕ → Option ℕ → Type 0
Told base acc xs None = (k : ℕ) × (k < length xs) × (Readable base (get_or xs k 0) → ⊥)
Told base acc xs (Some v) = ((k : ℕ) → k < length xs → Readable base (get_or xs k 0)) × (v ≡ digits_value_after base acc (bare xs))

-- one readable byte in front
told_more : (base acc more x : ℕ) (xs : List ℕ) (o : Option ℕ) → Readable base x → digits_value_after base acc (bare (x ∷ xs)) ≡ digits_value_after base more (bare xs) → Told base more xs o → Told base acc (x ∷ xs) o
told_more base acc more x xs None r e t = (suc t.0, omega (arith, t.1), t.2)
told_more base acc more x xs (Some v) r e t = (each, t.1 ∙ sym e)
  where
    each : (k : ℕ) → k < length (x ∷ xs) → Readable base (get_or (x ∷ xs) k 0)
    each zero h = r
    each (suc k) h = t.0 k (omega arith)

bare_underscore : (x : ℕ) (xs : List ℕ) → x ≡ 95 → bare (x ∷ xs) ≡ bare xs
bare_underscore x xs e = ap (λ t. cond (not t) (x ∷ bare xs) (bare xs)) (eq-eqb x 95 e)

bare_other : (x : ℕ) (xs : List ℕ) → (x ≡ 95 → ⊥) → bare (x ∷ xs) ≡ x ∷ bare xs
bare_other x xs n = ap (λ t. cond (not t) (x ∷ bare xs) (bare xs)) (ne_eqb x 95 n)

digit_yes : (base x : ℕ) → base ≤ 16 → digit_value x < base → digit_of base x ≡ Some (digit_value x)
digit_yes base x b h = let e = hex_digit x (lt_of_lt_of_le h b) in grind (arith, common_steps, nat_tests)

digit_no : (base x : ℕ) → base ≤ digit_value x → digit_of base x ≡ None
digit_no base x h = ⊎_elim (λ l. let e = hex_digit x l in grind (arith, common_steps, nat_tests)) (λ l. let e = hex_none x l in grind (arith, common_steps)) (cases_lt (digit_value x) 16)

told : (base : ℕ) → base ≤ 16 → (xs : List ℕ) (acc : ℕ) → Told base acc xs (value_from base acc xs)
unfolding value_from
told base b [] acc = ((λ k h. absurd (omega arith)), refl)
told base b (x ∷ xs) acc =
    ⊎_elim
    (λ e. subst (Told base acc (x ∷ xs)) (sym (value_underscore base acc x xs e)) (told_more base acc acc x xs (value_from base acc xs) (inl e) (ap (digits_value_after base acc) (bare_underscore x xs e)) (told base b xs acc)))
    (λ n.
    ⊎_elim
    (λ h.
    subst (Told base acc (x ∷ xs)) (sym (value_other base acc x xs n (Some (digit_value x)) (digit_yes base x b h)))
    (told_more base acc (acc * base + digit_value x) x xs (value_from base (acc * base + digit_value x) xs) (inr h) (ap (digits_value_after base acc) (bare_other x xs n)) (told base b xs (acc * base + digit_value x))))
    (λ h. subst (Told base acc (x ∷ xs)) (sym (value_other base acc x xs n None (digit_no base x h))) (0, omega arith, ⊎_elim n (λ l. omega arith)))
    (cases_lt (digit_value x) base))
    (cases_eq x 95)

written_by : (base : ℕ) (xs : List ℕ) (o : Option ℕ) → 0 < length xs → Told base 0 xs o → Written base xs (below128 o)
written_by base xs None h t = inr (inl t)
written_by base xs (Some v) h t =
    ⊎_elim (λ l. subst (Written base xs) (below_one v l) (h, t.0, t.1, l))
    (λ l. subst (Written base xs) (sym (ap (λ t. elim t as (λ x. Option ℕ) [ true ↦ Some v | false ↦ None ]) (le-ltb v (2 ^ 128) l))) (inr (inr (subst (λ n. 2 ^ 128 ≤ n) t.1 l))))
    (cases_lt v (2 ^ 128))

written : (base : ℕ) (xs : List ℕ) → base ≤ 16 → Written base xs (below128 (value_of base xs))
written base [] b = inl refl
written base (x ∷ xs) b = written_by base (x ∷ xs) (value_from base 0 (x ∷ xs)) (omega arith) (told base b (x ∷ xs) 0)

pub written_at : (base : ℕ) (xs : List ℕ) (r : Option ℕ) → r ≡ below128 (value_of base xs) → base ≤ 16 → Written base xs r
written_at base xs r e b = subst (Written base xs) (sym e) (written base xs b)
