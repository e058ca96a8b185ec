-- What a verdict takes of the bytes ahead.
use Rattle.std.specs.Prelude.{◌≡◌, ℕ, ◌+◌, ◌≤◌, Some, None, Ok, Err}
use Rattle.rules.specs.Shapes.{held}
use Rattle.rules.specs.State.{Verdict}

-- of n bytes ahead: a piece lies in them with what waits behind it, and its text in the piece; the end is told of none, and a fault is seen in them
abbrev pub Inside : ℕ → Verdict → Type 0
Inside n (Ok (Some p)) = (p.len + held p.pending ≤ n) × (p.from ≤ p.to) × (p.to ≤ p.len)
Inside n (Ok None) = n ≡ 0
Inside n (Err f) = f.distance ≤ n
