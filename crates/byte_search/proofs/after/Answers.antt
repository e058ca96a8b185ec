use Rattle.std.proofs.Common.{refl}
use Rattle.std.proofs.lemmas.List.{take_rest, drop_min}
use Rattle.byte_search.proofs.after.Goals as goal

pub returns-clause-value : goal.returns-clause-value
returns-clause-value c = rw (c.min.ensures, take_rest, drop_min) refl
