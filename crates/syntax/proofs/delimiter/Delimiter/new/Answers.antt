use Rattle.syntax.proofs.Texts.{text_none}
use Rattle.syntax.proofs.delimiter.Delimiter.new.Goals as goal

pub invariant_of-delimiter-clause-text : goal.invariant_of-delimiter-clause-text
invariant_of-delimiter-clause-text c = text_none
