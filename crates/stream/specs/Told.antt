-- What the calls of a stream tell, by its meaning: the items still to come and an ending.
use Rattle.std.specs.Prelude.{◌≡◌, ℕ, ◌<◌, ◌≤◌, List, [], ◌∷◌, drop, Some, None, Option, Ok, Err, Result}

-- how a stream ends: it is finished, or it failed with one fault
abbrev pub Ending : Type 0 → Type 0
Ending F = Result (Unit {0}) F

-- next, on a stream of the items xs and the ending e, tells this answer and leaves a stream of ys and f:
-- the first item is taken off and told; with none left the ending is told, and the meaning stays
abbrev pub Next : {I F : Type 0} → List I → Ending F → Result (Option I) F → List I → Ending F → Type 0
Next xs e (Ok (Some x)) ys f = (xs ≡ x ∷ ys) × (f ≡ e)
Next xs e (Ok None) ys f = (xs ≡ []) × (e ≡ Ok tt) × (ys ≡ []) × (f ≡ e)
Next xs e (Err t) ys f = (xs ≡ []) × (e ≡ Err t) × (ys ≡ []) × (f ≡ e)

-- look, on a stream of the items xs and the ending e, tells this answer: what next will tell
abbrev pub Look : {I F : Type 0} → List I → Ending F → Result (Option I) F → Type 0
Look xs e (Ok (Some x)) = xs ≡ x ∷ drop 1 xs
Look xs e (Ok None) = (xs ≡ []) × (e ≡ Ok tt)
Look xs e (Err t) = (xs ≡ []) × (e ≡ Err t)

-- an item makes this number fall; an ending does not raise it
abbrev pub Falls : {I F : Type 0} → ℕ → Result (Option I) F → ℕ → Type 0
Falls m (Ok (Some x)) n = n < m
Falls m (Ok None) n = n ≤ m
Falls m (Err t) n = n ≤ m
