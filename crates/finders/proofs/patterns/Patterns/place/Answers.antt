use Rattle.std.proofs.Common.{leb, length, sym, subst, rules, tests}
use Rattle.std.proofs.lemmas.List.Sorted.{IsPartitionPoint-from_clause}
use Rattle.syntax.specs.Delims.{bytes_of}
use Rattle.finders.specs.Order.{Falling, Place}
use Rattle.finders.proofs.Held.{falling_parts, parts_place}
use Rattle.finders.proofs.patterns.Patterns.place.Goals as goal

pub returns-clause-place : goal.returns-clause-place
returns-clause-place c =
    let ps = c.as_slice.result.now in
    let e = c.as_slice.ensures.value in
    subst (λ os. Place os c.args.len c.partition_point.result) e
    (parts_place ps c.args.len c.partition_point.result c.partition_point.ensures.bound
    (IsPartitionPoint-from_clause (λ p. leb c.args.len (length (bytes_of p.delimiter))) ps c.partition_point.result c.partition_point.ensures.partitioned
    (falling_parts ps c.args.len (subst Falling (sym e) c.args.self.now.falling)) (λ x b q k. search (rules, tests))))
