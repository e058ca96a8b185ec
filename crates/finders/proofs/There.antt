-- What is asked at a spot is asked of its source at its place.
use Rattle.std.proofs.Common.{◌≡◌, ℕ, List, reverse, take, drop, Option, sym, ◌∙◌}
use Rattle.finder.specs.declared.StartMarker.{StartMarker}
use Rattle.finder.specs.Finding.{Opening, qualifies, longest}
use Rattle.finder.proofs.Found.{behind_at}
use Rattle.finders.specs.declared.spot.Spot.{Spot}
use Rattle.finders.specs.Defaults.{opened}
use Rattle.finders.specs.Spots.{behind, ahead, Stays}

pub qualifies_there : (o : Opening) (s t : Spot) → Stays s t → qualifies o (behind t) (ahead t) ≡ qualifies o (behind s) (ahead s)
qualifies_there o s t w i = qualifies o (reverse (take (w.1 i) (w.0 i))) (drop (w.1 i) (w.0 i))

pub opened_there : (os : List Opening) (s : Spot) (xs : List ℕ) (k : ℕ) (r : Option (StartMarker × ℕ)) → s.source.now ≡ xs → s.at ≡ k → opened (longest os (behind s) (ahead s)) ≡ r → opened (longest os (behind_at xs k) (drop k xs)) ≡ r
opened_there os s xs k r p q f = sym (λ i. opened (longest os (reverse (take (q i) (p i))) (drop (q i) (p i)))) ∙ f
