use Rattle.std.proofs.Common.{IsUtf8, subst, arith, rules}
use Rattle.std.proofs.lemmas.List.{take_all}
use Rattle.utf8.proofs.Laws.{agrees_checked}
use Rattle.utf8.proofs.check_utf8.Goals as goal

pub returns-in_err-at-clause-value : goal.returns-in_err-at-clause-value
returns-in_err-at-clause-value c = agrees_checked c.args.s.now _ (search rules)

pub returns-clause-value : goal.returns-clause-value
returns-clause-value c = agrees_checked c.args.s.now _ (subst IsUtf8 (take_all c.loop-at.«at» c.args.s.now (omega arith)) c.loop-at.invariant.1)
