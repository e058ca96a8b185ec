use Rattle.syntax.specs.Building.{table_of}
use Rattle.syntax.specs.Names.{opening_names}
use Rattle.syntax.proofs.Walks.{EqualFrom}
use Rattle.syntax.proofs.table.first_equal.Given as goal

abbrev pub invariant-loop-i : goal.invariant-loop-i
invariant-loop-i l = EqualFrom (table_of l.delims) opening_names l.i
