-- The laws of a run of characters at the front.
use Rattle.std.proofs.Common.{◌≡◌, ℕ, zero, suc, ◌+◌, ◌-◌, ◌≤◌, Bool, true, false, List, [], ◌∷◌, ◌++◌, length, take, drop, Some, None, Option, sym, refl, ap, ◌∙◌, subst, ⊎_elim, arith, take-add}
use lib.Utf8.{scalar, scalars, encode, encodes}
use Rattle.std.specs.List.{AllByRecursion}
use Rattle.std.proofs.lemmas.List.{append-nil, append_assoc, length-append, length-drop, drop_at, drop-drop, take_all}
use Rattle.std.proofs.lemmas.Bool.{and_parts, and_from, cases_Bool}
use Rattle.utf8.specs.declared.Char.{Char}
use Rattle.utf8.specs.Utf8.{char_at}
use Rattle.utf8.proofs.Laws.{cases_char, char_width, char_encode, char_encoded}
use Rattle.spaces.specs.Runs.{run_after, white_run, AllPass, Longest}

module _ (p : ℕ → Bool) where
  run_over : (k : ℕ) (xs : List ℕ) → k ≤ length xs → run_after p k xs ≡ k + white_run p (drop k xs)
  unfolding run_after
  run_over zero xs h = omega arith
  run_over (suc k) [] h = absurd (omega arith)
  run_over (suc k) (x ∷ xs) h = let i = run_over k xs (omega arith) in omega arith

  abbrev next : List ℕ → Option Char → ℕ
  next xs o = elim o [ None ↦ 0 | Some c ↦ elim (p c.code) [ true ↦ suc (run_after p (c.width - 1) xs) | false ↦ 0 ] ]

  pub run_none : (xs : List ℕ) → char_at xs ≡ None → white_run p xs ≡ 0
  unfolding run_after
  run_none [] e = refl
  run_none (x ∷ xs) e = ap (next xs) e

  pub run_stop : (xs : List ℕ) (c : Char) → char_at xs ≡ Some c → p c.code ≡ false → white_run p xs ≡ 0
  unfolding run_after
  run_stop [] c e f = refl
  run_stop (x ∷ xs) c e f = ap (next xs) e ∙ ap (λ b. elim b [ true ↦ suc (run_after p (c.width - 1) xs) | false ↦ 0 ]) f

  run_step : (x : ℕ) (xs : List ℕ) (c : Char) → char_at (x ∷ xs) ≡ Some c → p c.code ≡ true → white_run p (x ∷ xs) ≡ suc (run_after p (c.width - 1) xs)
  unfolding run_after
  run_step x xs c e f = ap (next xs) e ∙ ap (λ b. elim b [ true ↦ suc (run_after p (c.width - 1) xs) | false ↦ 0 ]) f

  pub run_more : (xs : List ℕ) (c : Char) → char_at xs ≡ Some c → p c.code ≡ true → white_run p xs ≡ c.width + white_run p (drop c.width xs)
  run_more [] c e f = let w = char_width [] c e in absurd (omega arith)
  run_more (x ∷ xs) c e f =
      let w = char_width (x ∷ xs) c e in
      let n : ℕ = c.width - 1 in
      let m : suc n ≡ c.width = omega arith in
      let o = run_over n xs (omega arith) in
      let z : suc (run_after p n xs) ≡ suc n + white_run p (drop n xs) = omega arith in
      run_step x xs c e f ∙ z ∙ ap (λ k. k + white_run p (drop k (x ∷ xs))) m

  -- all of no bytes, and of one character more
  pub all_none : AllPass p []
  all_none = ([], refl, tt, refl)

  pub all_more : (c : ℕ) (xs : List ℕ) → scalar c ≡ true → p c ≡ true → AllPass p xs → AllPass p (encode c ++ xs)
  all_more c xs s f a = (c ∷ a.0, and_from (scalar c) (scalars a.0) s a.1, (f, a.2), ap (λ l. encode c ++ l) a.3)

  -- the run is the longest
  longest_none : (xs : List ℕ) → char_at xs ≡ None → Longest p xs 0
  longest_none xs e = (omega arith, all_none, (λ c f. let z : ◌≡◌ {A = ℕ} 0 1 = cc in absurd (omega arith)))

  longest_stop : (xs : List ℕ) (c : Char) → char_at xs ≡ Some c → p c.code ≡ false → Longest p xs 0
  longest_stop xs c e f = (omega arith, all_none, (λ d g. let z : d.code ≡ c.code = cc in ap p z ∙ f))

  longest_more : (xs : List ℕ) (c : Char) (n : ℕ) → char_at xs ≡ Some c → p c.code ≡ true → Longest p (drop c.width xs) n → Longest p xs (c.width + n)
  longest_more xs c n e f l =
      let w = char_width xs c e in
      let b = char_encode xs c e in
      let k = length-drop c.width xs in (
        omega arith,
        subst (AllPass p) (ap (λ y. y ++ take n (drop c.width xs)) (sym b.1) ∙ sym (take-add c.width n xs)) (all_more c.code (take n (drop c.width xs)) b.0 f l.1),
        (λ d g. l.2 d (ap char_at (drop-drop n c.width xs) ∙ g)),
      )

  longest_some : (xs : List ℕ) (c : Char) → char_at xs ≡ Some c → Longest p (drop c.width xs) (white_run p (drop c.width xs)) → Longest p xs (white_run p xs)
  longest_some xs c e l =
      ⊎_elim
      (λ f. subst (Longest p xs) (sym (run_more xs c e f)) (longest_more xs c (white_run p (drop c.width xs)) e f l))
      (λ f. subst (Longest p xs) (sym (run_stop xs c e f)) (longest_stop xs c e f))
      (cases_Bool (p c.code))

  longest_by : (n : ℕ) (xs : List ℕ) → length xs ≤ n → Longest p xs (white_run p xs)
  longest_by zero xs h = ⊎_elim (λ e. subst (Longest p xs) (sym (run_none xs e)) (longest_none xs e)) (λ s. let w = char_width xs s.0 s.1 in absurd (omega arith)) (cases_char xs)
  longest_by (suc n) xs h =
      ⊎_elim
      (λ e. subst (Longest p xs) (sym (run_none xs e)) (longest_none xs e))
      (λ s. let w = char_width xs s.0 s.1 in let k = length-drop s.0.width xs in longest_some xs s.0 s.1 (longest_by n (drop s.0.width xs) (omega arith)))
      (cases_char xs)

  pub run_longest : (xs : List ℕ) → Longest p xs (white_run p xs)
  run_longest xs = longest_by (length xs) xs (omega arith)

  -- characters that pass belong to the run
  pub run_encodes : (cs rest : List ℕ) → scalars cs ≡ true → AllByRecursion (λ c. p c ≡ true) cs → white_run p (encodes cs ++ rest) ≡ length (encodes cs) + white_run p rest
  run_encodes [] rest s a = omega arith
  run_encodes (c ∷ cs) rest s a =
      let q = and_parts (scalar c) (scalars cs) s in
      let i = run_encodes cs rest q.1 a.1 in
      let e = char_encoded c (encodes cs ++ rest) q.0 in
      let m = run_more (encode c ++ (encodes cs ++ rest)) (record { code = c; width = length (encode c) }) e a.0 in
      let d = drop_at (encode c) (encodes cs ++ rest) (length (encode c)) refl in
      let z : white_run p (drop (length (encode c)) (encode c ++ (encodes cs ++ rest))) ≡ white_run p (encodes cs ++ rest) = ap (white_run p) d in
      let l = length-append (encode c) (encodes cs) in
      ap (white_run p) (append_assoc (encode c) (encodes cs) rest) ∙ m ∙ omega arith

  run_nil : white_run p [] ≡ 0
  unfolding run_after
  run_nil = refl

  -- the run is all, exactly if all of the bytes are such characters
  pub all_run : (xs : List ℕ) → AllPass p xs → white_run p xs ≡ length xs
  all_run xs a =
      let r = run_encodes a.0 [] a.1 a.2 in
      let e : encodes a.0 ++ [] ≡ xs = append-nil (encodes a.0) ∙ a.3 in
      let q : white_run p (encodes a.0 ++ []) ≡ white_run p xs = ap (white_run p) e in
      let l : length (encodes a.0) ≡ length xs = ap length a.3 in
      let z = run_nil in
      omega arith

  pub run_all : (xs : List ℕ) → white_run p xs ≡ length xs → AllPass p xs
  run_all xs e = subst (AllPass p) (take_all (white_run p xs) xs (omega arith)) (run_longest xs).1

  -- a walk along the run that has come to `i`
  abbrev pub Ran : List ℕ → ℕ → Type 0
  Ran s i = (i ≤ length s) × (white_run p s ≡ i + white_run p (drop i s))

  pub ran_more : (s : List ℕ) (i : ℕ) (c : Char) → Ran s i → char_at (drop i s) ≡ Some c → p c.code ≡ true → Ran s (i + c.width)
  ran_more s i c w e f =
      let b = char_width (drop i s) c e in
      let l = length-drop i s in
      let m = run_more (drop i s) c e f in
      let q : white_run p (drop c.width (drop i s)) ≡ white_run p (drop (i + c.width) s) = ap (white_run p) (drop-drop c.width i s) in
      (omega arith, omega arith)

  pub ran_none : (s : List ℕ) (i : ℕ) → Ran s i → char_at (drop i s) ≡ None → i ≡ white_run p s
  ran_none s i w e = let m = run_none (drop i s) e in omega arith

  pub ran_stop : (s : List ℕ) (i : ℕ) (c : Char) → Ran s i → char_at (drop i s) ≡ Some c → p c.code ≡ false → i ≡ white_run p s
  ran_stop s i c w e f = let m = run_stop (drop i s) c e f in omega arith

  pub longest_at : (s : List ℕ) (i : ℕ) → i ≡ white_run p s → Longest p s i
  longest_at s i e = subst (Longest p s) (sym e) (run_longest s)
