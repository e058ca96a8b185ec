use Rattle.std.proofs.Common.{rules}
use Rattle.finders.proofs.Braces.{opens_short, opens_apart, at_variable, at_block, at_comment, at_other}
use Rattle.finders.proofs.defaults.opening_here.Goals as goal

pub returns-in-123 : goal.returns-in-123
returns-in-123 c = λ b. search (rules, at_variable)

pub returns-in-123-2 : goal.returns-in-123-2
returns-in-123-2 c = λ b. search (rules, at_block)

pub returns-in-123-3 : goal.returns-in-123-3
returns-in-123-3 c = λ b. search (rules, at_comment)

pub returns-in_default : goal.returns-in_default
returns-in_default c = λ b. search (rules, opens_short)

pub returns-in_default-2 : goal.returns-in_default-2
returns-in_default-2 c = λ b. search (rules, at_other)

pub returns-in_default-3 : goal.returns-in_default-3
returns-in_default-3 c = λ b. search (rules, opens_apart)
