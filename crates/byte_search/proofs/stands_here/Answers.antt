use Rattle.std.proofs.Common.{length, drop}
use Rattle.std.proofs.lemmas.Bool.Decides.{Decides-eqb}
use Rattle.std.proofs.lemmas.Slice.Eq.{starts_is}
use Rattle.byte_search.proofs.Stands.{stands_by}
use Rattle.byte_search.proofs.stands_here.Goals as goal

pub returns : goal.returns
returns c =
    let xs = c.args.behind.now in
    let ds = c.args.needle.now in
    let s = starts_is Decides-eqb xs ds c.starts_with.result c.starts_with.ensures.value in
    stands_by _ ds xs ((λ e. (drop (length ds) xs, s.0 e)), (λ p. s.1 p.0 p.1))
