use Rattle.std.proofs.Common.{rules}
use Rattle.std.proofs.lemmas.Iterator.{cases_from_all, YieldsList-from_slice}
use Rattle.std.proofs.lemmas.Bool.{false≢true}
use Rattle.places.proofs.Countings.{Single, ones_each}
use Rattle.places.proofs.counts.is_one_each.Goals as goal

pub returns : goal.returns
returns c =
    let xs = c.args.bytes.now in
    ones_each xs _
    (cases_from_all _ _ _ Single (λ x. Single x → ⊥) c.all.ensures.ran (YieldsList-from_slice xs c.iter.ensures.rest) (λ x q k. search rules) (λ x q k e. false≢true (search rules)))
