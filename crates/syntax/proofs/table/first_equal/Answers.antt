use Rattle.std.proofs.Common.{◌≡◌, true, false, take, Some, sym, ap, subst, ◌∙◌}
use Rattle.syntax.specs.Building.{table_of, repeats}
use Rattle.syntax.specs.Names.{opening_names, name_at}
use Rattle.syntax.proofs.Walks.{equal_here, equal_more, equal_all}
use Rattle.syntax.proofs.table.first_equal.Goals as goal

pub returns-then-repeats : goal.returns-then-repeats
returns-then-repeats c =
    ap (λ ns. Some (name_at ns c.loop-i.i)) c.opening_names-names.ensures
    ∙ equal_here (table_of c.args.delims.now) opening_names c.loop-i.i c.loop-i-test.true c.loop-i.invariant
    (subst (λ ns. repeats (table_of c.args.delims.now) (take c.loop-i.i ns) (name_at ns c.loop-i.i) ≡ true) c.opening_names-names.ensures (sym c.repeats.ensures ∙ c.if-repeats.true))

pub loop-i-preserved : goal.loop-i-preserved
loop-i-preserved c =
    equal_more (table_of c.args.delims.now) opening_names c.loop-i.i c.loop-i-test.true c.loop-i.invariant
    (subst (λ ns. repeats (table_of c.args.delims.now) (take c.loop-i.i ns) (name_at ns c.loop-i.i) ≡ false) c.opening_names-names.ensures (sym c.repeats.ensures ∙ c.if-repeats.false))

pub returns : goal.returns
returns c = equal_all (table_of c.args.delims.now) opening_names c.loop-i.i c.loop-i-test.false c.loop-i.invariant
