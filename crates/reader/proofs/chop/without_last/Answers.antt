use Rattle.std.proofs.Common.{sym, arith}
use Rattle.reader.proofs.Chops.{chop_last, chop_not}
use Rattle.reader.proofs.chop.without_last.Goals as goal

pub returns-in-len1-up-clause-value : goal.returns-in-len1-up-clause-value
returns-in-len1-up-clause-value c = chop_last c.args.b c.args.s.now (omega (arith, c.in-len1-up.len_at_least)) c.if-last-b.true

pub returns-in_default-clause-value : goal.returns-in_default-clause-value
returns-in_default-clause-value c = sym (chop_not c.args.b c.args.s.now (λ h e. absurd (omega (arith, c.in_default.len_below))))

pub returns-in_default-2-clause-value : goal.returns-in_default-2-clause-value
returns-in_default-2-clause-value c = sym (chop_not c.args.b c.args.s.now (λ h e. c.if-last-b.false e))
