-- The bytes behind a place, and the line that they begin.
use Rattle.std.proofs.Common.{◌≡◌, ℕ, zero, suc, ◌+◌, ◌<◌, ◌≤◌, true, false, List, [], ◌∷◌, ◌++◌, length, get_or, take, drop, sym, refl, ap, ◌∙◌, inl, inr, ⊎_elim, add-one, arith, take-add}
use Rattle.std.proofs.lemmas.List.{append_assoc, length-take-le, take_more, drop-append-le, drop_all}
use Rattle.std.proofs.lemmas.Bool.{cases_Bool}
use Rattle.finder.specs.Finding.{is_line_end}
use Rattle.rules.specs.Bytes.{push, pushes, behind_at, line_before}
use Rattle.rules.proofs.Whole.{pushes_append}
use Rattle.strips.specs.Lines.{LineBegins}

-- what is behind a place that is d bytes further
pub behind_further : (xs : List ℕ) (i d : ℕ) → pushes (take d (drop i xs)) (behind_at xs i) ≡ behind_at xs (i + d)
behind_further xs i d = sym (pushes_append (take i xs) (take d (drop i xs)) []) ∙ ap (λ ys. pushes ys []) (sym (take-add i d xs))

-- one byte more is behind
pub behind_more : (xs : List ℕ) (k : ℕ) → k < length xs → behind_at xs (suc k) ≡ push (get_or xs k 0) (behind_at xs k)
unfolding pushes
behind_more xs k h = ap (λ n. behind_at xs n) (sym (add-one k)) ∙ ap (λ ys. pushes ys []) (take_more xs k 0 h) ∙ pushes_append (take k xs) (get_or xs k 0 ∷ []) []

-- the line so far

line_end_before : (b : ℕ) (bs acc : List ℕ) → is_line_end b ≡ true → line_before (push b bs) acc ≡ acc
unfolding line_before
line_end_before b bs acc e = grind arith

line_on : (b : ℕ) (bs acc : List ℕ) → is_line_end b ≡ false → line_before (push b bs) acc ≡ line_before bs (b ∷ acc)
unfolding line_before
line_on b bs acc e = grind arith

-- the line before the place k begins at i: no CR or LF lies between, and its bytes are what is behind since
pub record Since (xs : List ℕ) (k i : ℕ) : Type 0 where
  pub before : i ≤ k
  pub begins : LineBegins xs i
  pub plain : (j : ℕ) → i ≤ j → j < k → is_line_end (get_or xs j 0) ≡ false
  pub bytes : (acc : List ℕ) → line_before (behind_at xs k) acc ≡ drop i (take k xs) ++ acc

since_start : (xs : List ℕ) → Since xs 0 0
unfolding pushes line_before
since_start xs = record { before = omega arith; begins = inl refl; plain = λ j l h. absurd (omega arith); bytes = λ acc. refl }

since_end : (xs : List ℕ) (k : ℕ) → k < length xs → is_line_end (get_or xs k 0) ≡ true → Since xs (suc k) (suc k)
since_end xs k h e = record {
  before = omega arith;
  begins = inr (grind arith);
  plain = λ j a b. absurd (omega arith);
  bytes = λ acc. grind (arith, behind_more, line_end_before, drop_all, length-take-le);
}

since_on : (xs : List ℕ) (k i : ℕ) → k < length xs → is_line_end (get_or xs k 0) ≡ false → Since xs k i → Since xs (suc k) i
since_on xs k i h e s =
    let b : ℕ = get_or xs k 0 in
    let l = length-take-le k xs (omega arith) in
    let t : take (suc k) xs ≡ take k xs ++ b ∷ [] = ap (λ n. take n xs) (sym (add-one k)) ∙ take_more xs k 0 h in
    let d : drop i (take (suc k) xs) ≡ drop i (take k xs) ++ b ∷ [] = ap (drop i) t ∙ drop-append-le i (take k xs) (b ∷ []) (omega (arith, s.before)) in
    record {
      before = omega (arith, s.before);
      begins = s.begins;
      plain = λ j a c. grind (arith, s.plain);
      bytes = λ acc.
          ap (λ y. line_before y acc) (behind_more xs k h) ∙ line_on b (behind_at xs k) acc e ∙ s.bytes (b ∷ acc)
          ∙ sym (append_assoc (drop i (take k xs)) (b ∷ []) acc) ∙ ap (λ ys. ys ++ acc) (sym d);
    }

-- each place is on a line
pub since : (xs : List ℕ) (k : ℕ) → k ≤ length xs → (i : ℕ) × Since xs k i
since xs zero h = (0, since_start xs)
since xs (suc k) h =
    ⊎_elim
    (λ e. (suc k, since_end xs k h e))
    (λ e. let p = since xs k (omega arith) in (p.0, since_on xs k p.0 h e p.1))
    (cases_Bool (is_line_end (get_or xs k 0)))

-- of all of the bytes
pub since_all : (xs : List ℕ) → (i : ℕ) × Since xs (length xs) i
since_all xs = since xs (length xs) (omega arith)
