use Rattle.std.proofs.Common.{◌≡◌, List, ◌++◌, length, drop, Decides, false}
use Rattle.std.proofs.lemmas.Bool.{false≢true}
use Rattle.std.proofs.lemmas.Bool.Decides.{Decides-eqb}
use Rattle.std.proofs.lemmas.Slice.Eq.{starts_is}
use Rattle.byte_search.proofs.Stands.{stands_by}
use Rattle.byte_search.proofs.starts_with_bytes.Goals as goal

pub returns-then-differ_at_once-clause-value : goal.returns-then-differ_at_once-clause-value
returns-then-differ_at_once-clause-value c =
    stands_by false c.args.needle.now c.args.haystack.now ((λ e. absurd (false≢true e)), (λ p. absurd (c.differ_at_once.ensures c.if-differ_at_once.true p.0 p.1)))

pub returns : goal.returns
returns c =
    let xs = c.args.haystack.now in
    let ds = c.args.needle.now in
    let s = starts_is Decides-eqb xs ds c.starts_with.result c.starts_with.ensures.value in
    let d : Decides c.starts_with.result ((rest : List _) × (xs ≡ ds ++ rest)) = ((λ e. (drop (length ds) xs, s.0 e)), (λ p. s.1 p.0 p.1)) in
    record { value = stands_by _ ds xs d; front = d }
