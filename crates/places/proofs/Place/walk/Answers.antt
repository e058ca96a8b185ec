use Rattle.std.proofs.Common.{◌≡◌, arith, rules}
use Rattle.std.proofs.lemmas.Fn.{fold_over, fronts}
use Rattle.std.proofs.lemmas.Iterator.{YieldsList-from_slice}
use Rattle.places.specs.Places.{past, beyond, capped}
use Rattle.places.proofs.Advances.{capped_fits, step_more}
use Rattle.places.proofs.Place.walk.Goals as goal

pub returns : goal.returns
unfolding beyond
returns c =
    let self = c.args.self in
    fold_over fronts (λ y. y.now) _ (λ ys p. p ≡ capped (beyond ys self)) _ (λ ys a x b f' j k. let s : b ≡ capped (past x.now a) = search rules in (step_more ys x.now self a b j s, search rules))
    _ _ _ _ (YieldsList-from_slice c.args.bytes.now c.iter.ensures.rest).runs (capped_fits self (omega arith) (omega arith) (omega arith)) c.fold.ensures.ran
