use Rattle.words.proofs.Quoting.{Open}
use Rattle.words.proofs.strings.quote_end.Given as goal

abbrev pub invariant-loop-i : goal.invariant-loop-i
invariant-loop-i l = Open l.quote l.rest l.escaped l.i
