-- How far a number reaches.
use Rattle.std.specs.Prelude.{◌≡◌, ℕ, suc, ◌<◌, ◌≤◌, Bool, List, length, drop, Some, None, slice_index}
use Rattle.rules.specs.declared.NumberState.{NumberState}
use Rattle.rules.specs.Numbers.{turn}

-- the first n bytes lead from the part p to the part q: each leads from the part at its place to the next
abbrev pub Leads : ℕ → Bool → NumberState → List ℕ → ℕ → NumberState → Type 0
Leads base dotted p xs n q =
    (part : ℕ → NumberState) × (part 0 ≡ p) × (part n ≡ q) × ((k : ℕ) → k < n → turn base dotted (part k) (slice_index xs k) (drop (suc k) xs) ≡ Some (part (suc k)))

-- n bytes lead from the part p to the part q, and the byte behind them, if any, stops the number there
abbrev pub Longest : ℕ → Bool → NumberState → List ℕ → ℕ → NumberState → Type 0
Longest base dotted p xs n q = (n ≤ length xs) × Leads base dotted p xs n q × (n < length xs → turn base dotted q (slice_index xs n) (drop (suc n) xs) ≡ None)
