-- Where the piece or the fault of a number lies.
use Rattle.std.specs.Prelude.{◌≡◌, ℕ, suc, ◌<◌, ◌≤◌, true, List, length, Some, None, Ok, Err, slice_index}
use Rattle.rules.specs.declared.LexerState.{LexerState}
use Rattle.rules.specs.declared.Pending.TheVariants.{Nothing}
use Rattle.rules.specs.declared.Step.{Step}
use Rattle.rules.specs.Bytes.{is_digit}
use Rattle.rules.specs.State.{Verdict}

-- there are bytes, and the last is b
abbrev pub EndsIn : ℕ → List ℕ → Type 0
EndsIn b xs = (n : ℕ) × (length xs ≡ suc n) × (slice_index xs n ≡ b)

-- a piece that is all text lies in the bytes xs, has one of them where they begin with a digit, and leaves the reading in the state m
pub record Inside (m : LexerState) (xs : List ℕ) (s : Step) : Type 0 where
  pub some : is_digit (slice_index xs 0) ≡ true → 0 < s.len
  pub inside : s.len ≤ length xs
  pub begins : s.from ≡ 0
  pub ends : s.to ≡ s.len
  pub stays : s.state ≡ m
  pub idle : s.pending ≡ Nothing

-- a number is such a piece, or a fault that is seen within the bytes
abbrev pub Within : LexerState → List ℕ → Verdict → Type 0
Within m xs (Ok (Some s)) = Inside m xs s
Within m xs (Ok None) = ⊥
Within m xs (Err f) = f.distance ≤ length xs
