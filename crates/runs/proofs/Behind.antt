-- What is found ahead of a place in what the cut leaves.
use Rattle.std.proofs.Common.{◌≡◌, ℕ, ◌≤◌, List, [], take, drop, sym, ap, ◌∙◌, subst}
use Rattle.std.proofs.lemmas.List.{take-take}
use Rattle.finder.specs.Finding.{Opening, found, Finds}
use Rattle.finder.proofs.Found.{found_finds}
use Rattle.rules.specs.Bytes.{pushes, behind_at}
use Rattle.texts.proofs.Alike.{found_behind}

-- the same is behind a place in what is left
pub left_behind : (t : List ℕ) (n i : ℕ) → i ≤ n → behind_at (take n t) i ≡ behind_at t i
left_behind t n i h = ap (λ l. pushes l []) (take-take i n t h)

-- what is found ahead of a place in what is left, in words
pub found_left : (os : List Opening) (t : List ℕ) (n i : ℕ) → i ≤ n → Finds os (take n t) i (found os (behind_at t i) (drop i (take n t)))
found_left os t n i h =
    subst (Finds os (take n t) i) (sym (ap (λ b. found os b (drop i (take n t))) (sym (left_behind t n i h)) ∙ found_behind os (take n t) i)) (found_finds os (take n t) i)
