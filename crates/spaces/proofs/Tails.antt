-- The laws of a run of characters at the end.
use Rattle.std.proofs.Common.{◌≡◌, ℕ, zero, suc, ◌+◌, ◌-◌, ◌<◌, ◌≤◌, Bool, true, false, List, [], ◌∷◌, ◌++◌, length, take, drop, Some, None, IsUtf8, sym, refl, ap, ◌∙◌, subst, ⊎_elim, arith, take-add}
use lib.Utf8.{scalar, scalars, encode, encodes}
use Rattle.std.specs.List.{AllByRecursion}
use Rattle.utf8.specs.declared.Char.{Char}
use Rattle.std.proofs.ByRecursion.{All-take}
use Rattle.std.proofs.lemmas.List.{append-nil, append_assoc, length-drop, length-take, drop-drop, take_at, take-append-drop, drop-append-le, drop_all}
use Rattle.std.proofs.lemmas.Bool.{and_parts, cases_lt, cases_Bool, both_ways, eq-eqb, eqb-true}
use Rattle.std.proofs.lemmas.Str.{IsCharBoundary-from_drop, IsUtf8-take, encodes_same, encodes-append}
use Rattle.spaces.specs.Runs.{white_run, all_pass, kept, white_tail, AllPass, LongestTail, Ends}
use Rattle.spaces.proofs.Runs.{all_run, run_all, all_none, all_more}

module _ (p : ℕ → Bool) where
  all_true : (xs : List ℕ) → AllPass p xs → all_pass p xs ≡ true
  all_true xs a = eq-eqb (white_run p xs) (length xs) (all_run p xs a)

  true_all : (xs : List ℕ) → all_pass p xs ≡ true → AllPass p xs
  true_all xs e = run_all p xs (eqb-true (white_run p xs) (length xs) e)

  kept_all : (x : ℕ) (xs : List ℕ) → all_pass p (x ∷ xs) ≡ true → kept p (x ∷ xs) ≡ 0
  unfolding kept
  kept_all x xs e = ap (λ b. elim b [ true ↦ 0 | false ↦ suc (kept p xs) ]) e

  kept_on : (x : ℕ) (xs : List ℕ) → all_pass p (x ∷ xs) ≡ false → kept p (x ∷ xs) ≡ suc (kept p xs)
  unfolding kept
  kept_on x xs e = ap (λ b. elim b [ true ↦ 0 | false ↦ suc (kept p xs) ]) e

  pub kept_le : (xs : List ℕ) → kept p xs ≤ length xs
  unfolding kept
  kept_le [] = omega arith
  kept_le (x ∷ xs) = ⊎_elim (λ e. let k = kept_all x xs e in omega arith) (λ e. let k = kept_on x xs e in let i = kept_le xs in omega arith) (cases_Bool (all_pass p (x ∷ xs)))

  -- all of the bytes behind are such characters
  pub kept_passes : (xs : List ℕ) → AllPass p (drop (kept p xs) xs)
  unfolding kept
  kept_passes [] = all_none p
  kept_passes (x ∷ xs) = ⊎_elim
      (λ e. subst (λ n. AllPass p (drop n (x ∷ xs))) (sym (kept_all x xs e)) (true_all (x ∷ xs) e))
      (λ e. subst (λ n. AllPass p (drop n (x ∷ xs))) (sym (kept_on x xs e)) (kept_passes xs))
      (cases_Bool (all_pass p (x ∷ xs)))

  -- and no fewer will do
  pub kept_least : (xs : List ℕ) (m : ℕ) → AllPass p (drop m xs) → kept p xs ≤ m
  unfolding kept
  kept_least [] m a = omega arith
  kept_least (x ∷ xs) zero a = let k = kept_all x xs (all_true (x ∷ xs) a) in omega arith
  kept_least (x ∷ xs) (suc m) a = ⊎_elim (λ e. let k = kept_all x xs e in omega arith) (λ e. let k = kept_on x xs e in let i = kept_least xs m a in omega arith) (cases_Bool (all_pass p (x ∷ xs)))

  pub tail_longest : (xs : List ℕ) → LongestTail p xs (white_tail p xs)
  tail_longest xs =
      let l = kept_le xs in
      let z : length xs - (length xs - kept p xs) ≡ kept p xs = omega arith in
      (omega arith, subst (λ n. AllPass p (drop n xs)) (sym z) (kept_passes xs), (λ m h a. let k = kept_least xs (length xs - m) a in omega arith))

  -- one character more before the run
  pub pass_back : (ys : List ℕ) (i w c : ℕ) → i ≤ length ys → w ≤ i → scalar c ≡ true → p c ≡ true → drop (i - w) (take i ys) ≡ encode c → AllPass p (drop i ys) → AllPass p (drop (i - w) ys)
  pass_back ys i w c h k s f e a =
      let l = length-take i ys in
      let z : drop (i - w) ys ≡ encode c ++ drop i ys = ap (drop (i - w)) (sym (take-append-drop i ys)) ∙ drop-append-le (i - w) (take i ys) (drop i ys) (omega arith) ∙ ap (λ l. l ++ drop i ys) e in
      subst (AllPass p) (sym z) (all_more p c (drop i ys) s f a)

  -- the last of some characters
  abbrev Last : List ℕ → Type 0
  Last xs = (d : ℕ) × (front : List ℕ) × (scalar d ≡ true) × (p d ≡ true) × (xs ≡ front ++ encode d)

  last_of : (c : ℕ) (cs : List ℕ) → scalars (c ∷ cs) ≡ true → AllByRecursion (λ c. p c ≡ true) (c ∷ cs) → Last (encodes (c ∷ cs))
  last_of c [] s a = (c, [], (and_parts (scalar c) true s).0, a.0, append-nil (encode c))
  last_of c (d ∷ ds) s a =
      let l = last_of d ds (and_parts (scalar c) (scalars (d ∷ ds)) s).1 a.1 in
      (l.0, encode c ++ l.1, l.2, l.3, ap (λ y. encode c ++ y) l.4 ∙ sym (append_assoc (encode c) l.1 (encode l.0)))

  last_all : (xs : List ℕ) → 0 < length xs → AllPass p xs → Last xs
  last_all xs h (cs, s, a, e) = by cs s a e
    where
      by : (cs : List ℕ) → scalars cs ≡ true → AllByRecursion (λ c. p c ≡ true) cs → encodes cs ≡ xs → Last xs
      by [] s a e = let l : 0 ≡ length xs = ap length e in absurd (omega arith)
      by (c ∷ cs) s a e = subst Last e (last_of c cs s a)

  -- what stands before such characters, in such characters, is such characters: the encodings cannot overlap
  cut_back : (zs : List ℕ) (k : ℕ) → k ≤ length zs → AllPass p zs → AllPass p (drop k zs) → AllPass p (take k zs)
  cut_back zs k h a b =
      let u : IsUtf8 zs = (a.0, (a.1, a.3)) in
      let v : IsUtf8 (drop k zs) = (b.0, (b.1, b.3)) in
      let t = IsUtf8-take zs k u (IsCharBoundary-from_drop zs k h v) in
      let e : encodes (t.0 ++ b.0) ≡ encodes a.0 = encodes-append t.0 b.0 ∙ (λ i. t.1.1 i ++ b.3 i) ∙ take-append-drop k zs ∙ sym a.3 in
      let q : a.0 ≡ t.0 ++ b.0 = sym (encodes_same (t.0 ++ b.0) a.0 e) in
      let r : take (length t.0) a.0 ≡ t.0 = ap (take (length t.0)) q ∙ take_at t.0 b.0 (length t.0) refl in
      (t.0, t.1.0, subst (AllByRecursion (λ c. p c ≡ true)) r (All-take (λ c. p c ≡ true) (length t.0) a.0 a.2), t.1.1)

  seam : (ys : List ℕ) (n k i : ℕ) (front : List ℕ) (d : ℕ) → n + k ≡ i → take k (drop n ys) ≡ front ++ encode d → take i ys ≡ (take n ys ++ front) ++ encode d
  seam ys n k i front d z e = ap (λ j. take j ys) (sym z) ∙ take-add n k ys ∙ ap (λ y. take n ys ++ y) e ∙ sym (append_assoc (take n ys) front (encode d))

  -- where no such character ends at `i`, the run begins there
  pub tail_stops : (ys : List ℕ) (i : ℕ) → i ≤ length ys → AllPass p (drop i ys)
      → ((d : ℕ) (front : List ℕ) → scalar d ≡ true → p d ≡ true → take i ys ≡ front ++ encode d → ⊥) → kept p ys ≡ i
  tail_stops ys i h a none =
      let n : ℕ = kept p ys in
      let l = kept_least ys i a in
      ⊎_elim
      (λ g.
      let k : ℕ = i - n in
      let zs : List ℕ = drop n ys in
      let z : n + k ≡ i = omega arith in
      let ld = length-drop n ys in
      let d : drop k zs ≡ drop i ys = drop-drop k n ys ∙ ap (λ j. drop j ys) z in
      let t = cut_back zs k (omega arith) (kept_passes ys) (subst (AllPass p) (sym d) a) in
      let lt = length-take k zs in
      let f = last_all (take k zs) (omega arith) t in
      absurd (none f.0 (take n ys ++ f.1) f.2 f.3 (seam ys n k i f.1 f.0 z f.4)))
      (λ g. omega arith)
      (cases_lt n i)

  -- a walk back along the run that has come to `i`
  abbrev pub Back : List ℕ → ℕ → Type 0
  Back ys i = (i ≤ length ys) × AllPass p (drop i ys)

  pub back_none : (ys : List ℕ) → Back ys (length ys)
  back_none ys = (omega arith, subst (AllPass p) (sym (drop_all (length ys) ys (omega arith))) (all_none p))

  pub back_more : (ys : List ℕ) (i : ℕ) (c : Char) → Back ys i → Ends (take i ys) (Some c) → p c.code ≡ true → (c.width ≤ i) × Back ys (i - c.width)
  back_more ys i c b e f =
      let l = length-take i ys in
      let h = b.0 in
      let w = e.2 in
      let m : length (take i ys) ≡ i = omega arith in
      (omega arith, (omega arith, pass_back ys i c.width c.code h (omega arith) e.0 f (ap (λ n. drop (n - c.width) (take i ys)) (sym m) ∙ e.3) b.1))

  pub back_stop : (ys : List ℕ) (i : ℕ) (c : Char) → Back ys i → Ends (take i ys) (Some c) → p c.code ≡ false → kept p ys ≡ i
  back_stop ys i c b e f = tail_stops ys i b.0 b.1 (λ d front s q t. both_ways (p d) (ap p (e.4 d front s t) ∙ f) q)

  pub back_end : (ys : List ℕ) (i : ℕ) → Back ys i → Ends (take i ys) None → kept p ys ≡ i
  back_end ys i b e = tail_stops ys i b.0 b.1 (λ d front s q t. e d front s t)

  pub tail_at : (ys zs : List ℕ) (i : ℕ) → ys ≡ zs → kept p ys ≡ i → (length ys - i ≡ white_tail p zs) × LongestTail p zs (length ys - i)
  tail_at ys zs i q e =
      let z : length ys - i ≡ white_tail p ys = omega arith in
      let f : length ys - i ≡ white_tail p zs = z ∙ ap (white_tail p) q in
      (f, subst (LongestTail p zs) (sym f) (tail_longest zs))
