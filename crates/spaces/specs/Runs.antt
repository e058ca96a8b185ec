-- Runs of characters that pass a test, on bytes: a character is a well-formed sequence, and nothing else is.
use Rattle.std.specs.Prelude.{◌≡◌, ℕ, zero, suc, ◌+◌, ◌-◌, ◌<◌, ◌≤◌, Bool, true, false, List, [], ◌∷◌, ◌++◌, length, take, drop, Some, None, Option, ◌==◌, ◌≢◌, slice_index}
use Rattle.std.proofs.Math.Utf8.{scalar, scalars, encode, encodes}
use Rattle.std.specs.List.{AllByRecursion}
use Rattle.utf8.specs.declared.Char.{Char}
use Rattle.utf8.specs.Utf8.{char_at}

-- how many bytes the characters at the front have that pass the test; `k` bytes of a character are still to pass over
unfoldable pub run_after : (ℕ → Bool) → ℕ → List ℕ → ℕ
run_after p k [] = 0
run_after p (suc k) (x ∷ xs) = suc (run_after p k xs)
run_after p zero (x ∷ xs) = elim (char_at (x ∷ xs)) [
  | None ↦ 0
  | Some c ↦ elim (p c.code) [ true ↦ suc (run_after p (c.width - 1) xs) | false ↦ 0 ]
]

-- how many bytes the characters at the front have that pass the test
abbrev pub white_run : (ℕ → Bool) → List ℕ → ℕ
white_run p xs = run_after p 0 xs

-- all of the bytes are characters that pass the test
abbrev pub all_pass : (ℕ → Bool) → List ℕ → Bool
all_pass p xs = white_run p xs == length xs

-- how many bytes are left when the trailing characters that pass the test are taken off: the fewest, such that all of those behind them are such characters
unfoldable pub kept : (ℕ → Bool) → List ℕ → ℕ
kept p [] = 0
kept p (x ∷ xs) = elim (all_pass p (x ∷ xs)) [ true ↦ 0 | false ↦ suc (kept p xs) ]

-- how many bytes the characters at the end have that pass the test
abbrev pub white_tail : (ℕ → Bool) → List ℕ → ℕ
white_tail p xs = length xs - kept p xs

-- the bytes are the encodings of scalar values that pass the test, one after another
abbrev pub AllPass : (ℕ → Bool) → List ℕ → Type 0
AllPass p xs = (cs : List ℕ) × (scalars cs ≡ true) × (AllByRecursion (λ c. p c ≡ true) cs) × (encodes cs ≡ xs)

-- the first `n` bytes are all such characters, and the character behind them, if any, is not
abbrev pub Longest : (ℕ → Bool) → List ℕ → ℕ → Type 0
Longest p xs n = (n ≤ length xs) × AllPass p (take n xs) × ((c : Char) → char_at (drop n xs) ≡ Some c → p c.code ≡ false)

-- the last `n` bytes are all such characters, and no more of the last bytes are
abbrev pub LongestTail : (ℕ → Bool) → List ℕ → ℕ → Type 0
LongestTail p xs n = (n ≤ length xs) × AllPass p (drop (length xs - n) xs) × ((m : ℕ) → m ≤ length xs → AllPass p (drop (length xs - m) xs) → m ≤ n)

-- the bytes end with the encoding of this scalar value, and of no other; with that of none
abbrev pub Ends : List ℕ → Option Char → Type 0
Ends xs None = (d : ℕ) (front : List ℕ) → scalar d ≡ true → xs ≢ front ++ encode d
Ends xs (Some c) =
    (scalar c.code ≡ true) × (0 < c.width) × (c.width ≤ length xs) × (drop (length xs - c.width) xs ≡ encode c.code)
    × ((d : ℕ) (front : List ℕ) → scalar d ≡ true → xs ≡ front ++ encode d → d ≡ c.code)

-- the character at `start` that reaches to the end; none where it does not, or where there is none
abbrev pub Reaches : List ℕ → ℕ → Option Char → Type 0
Reaches xs start None = (c : Char) → char_at (drop start xs) ≡ Some c → start + c.width ≢ length xs
Reaches xs start (Some c) = (char_at (drop start xs) ≡ Some c) × (start + c.width ≡ length xs)

-- the byte goes on with a character
abbrev pub GoesOn : ℕ → Type 0
GoesOn b = (128 ≤ b) × (b ≤ 191)

-- the last place whose byte goes on with no character; of None, that each byte goes on with one
abbrev pub Leads : List ℕ → Option ℕ → Type 0
Leads xs None = (k : ℕ) → k < length xs → GoesOn (slice_index xs k)
Leads xs (Some i) = (i < length xs) × (GoesOn (slice_index xs i) → ⊥) × ((k : ℕ) → i < k → k < length xs → GoesOn (slice_index xs k))
