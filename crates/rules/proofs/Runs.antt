-- The laws of run: it is the longest front whose bytes pass, and what the library counts.
use Rattle.std.proofs.Common.{◌≡◌, ℕ, suc, ◌+◌, Bool, true, false, cond, List, [], ◌∷◌, refl, ap, subst, arith}
use Rattle.std.specs.List.{prefix_len}
use Rattle.std.proofs.lemmas.List.Sums.{prefix_len-le-length, prefix_len_passes, prefix_len_stops}
use Rattle.rules.specs.Bytes.{run, LongestRun}

module _ (p : ℕ → Bool) where
  pub run_yes : (x : ℕ) (xs : List ℕ) → p x ≡ true → run p (x ∷ xs) ≡ suc (run p xs)
  unfolding run
  run_yes x xs e = ap (λ b. elim b [ true ↦ suc (run p xs) | false ↦ 0 ]) e

  -- it is what the library counts
  pub run_is : (xs : List ℕ) → prefix_len p xs ≡ run p xs
  unfolding run
  run_is [] = refl
  run_is (x ∷ xs) =
      let e : 1 + prefix_len p xs ≡ suc (run p xs) = omega (arith, run_is xs) in
      elim (p x) as (λ b. cond b (1 + prefix_len p xs) 0 ≡ elim b [ true ↦ suc (run p xs) | false ↦ 0 ]) [ true ↦ e | false ↦ refl ]

  -- in words, of what the library counts and of `run`
  pub longest_run : (xs : List ℕ) → LongestRun p xs (prefix_len p xs)
  longest_run xs = (prefix_len-le-length p xs, (λ k h. prefix_len_passes p xs k 0 h), prefix_len_stops p xs 0)

  pub run_longest : (xs : List ℕ) → LongestRun p xs (run p xs)
  run_longest xs = subst (LongestRun p xs) (run_is xs) (longest_run xs)

  -- an answer that is the longest run is `run`
  pub run_by : (xs : List ℕ) (n : ℕ) → LongestRun p xs n → n ≡ run p xs
  run_by xs n l =
      let m = run_longest xs in
      grind (arith, l.0, l.1, l.2, m.0, m.1, m.2)
