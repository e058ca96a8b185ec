use Rattle.std.proofs.Common.{◌≡◌, ◌+◌, ◌-◌, ◌∙◌, take, drop, length, sym, arith}
use Rattle.std.proofs.lemmas.List.{take_all, length-drop}
use Rattle.places.proofs.Advances.{since_none}
use Rattle.places.proofs.Countings.{none_count, since_last}
use Rattle.places.proofs.counts.since_lf.Goals as goal

pub returns-in-Some : goal.returns-in-Some
returns-in-Some c =
    let xs = c.args.bytes.now in
    let i = c.in-Some.last in
    let after = c.in-Some.ensures.0 in
    let rest = drop (i + 1) xs in
    let n = length xs - (i + 1) in
    let whole : take n rest ≡ rest = take_all n rest (omega (arith, length-drop (i + 1) xs)) in
    whole ∙ sym (since_last xs i after.high c.in-Some.ensures.1 (λ k m l. after.after k (omega arith) l))

pub returns-in-None : goal.returns-in-None
returns-in-None c = let xs = c.args.bytes.now in sym (since_none xs (none_count xs (λ k l. c.in-None.ensures k (omega arith) l)))
