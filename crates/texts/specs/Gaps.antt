-- Comments in words.
use Rattle.std.specs.Prelude.{◌≡◌, ℕ, ◌+◌, List, length, drop, Some, None, Ok, Err}
use Rattle.byte_search.specs.Search.{First, Stands}
use Rattle.spaces.specs.Lines.{LineEnd}
use Rattle.rules.specs.Bytes.{in_line, LongestRun}
use Rattle.rules.specs.State.{Verdict}

-- a comment ends with the first of its ends behind an opening of n bytes; it is a fault exactly if there is none
abbrev pub CommentEnds : List ℕ → ℕ → List ℕ → Verdict → Type 0
CommentEnds end n xs (Ok (Some p)) = (d : ℕ) × (p.len ≡ n + (d + length end)) × First (Stands end (drop n xs)) (Some d)
CommentEnds end n xs (Ok None) = ⊥
CommentEnds end n xs (Err f) = First (Stands end (drop n xs)) None

-- a line comment has the opening of n bytes, the bytes before CR, LF or the end, and the line's end
abbrev pub LineEnds : ℕ → List ℕ → Verdict → Type 0
LineEnds n xs (Ok (Some p)) = (a : ℕ) × (b : ℕ) × (p.len ≡ n + a + b) × LongestRun in_line (drop n xs) a × LineEnd (drop (n + a) xs) b
LineEnds n xs (Ok None) = ⊥
LineEnds n xs (Err f) = ⊥
