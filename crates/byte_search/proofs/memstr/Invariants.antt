use Rattle.std.proofs.Common.{ℕ, ◌<◌, ◌≤◌, length}
use Rattle.byte_search.specs.Search.{Stands}
use Rattle.byte_search.proofs.memstr.Given as goal

abbrev pub invariant-loop : goal.invariant-loop
invariant-loop l = record {
  inside : l.at ≤ length l.haystack;
  clear : (k : ℕ) → k < l.at → Stands l.needle l.haystack k → ⊥;
}
