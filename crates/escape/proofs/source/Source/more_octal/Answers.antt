use Rattle.std.proofs.Common.{rules}
use Rattle.escape.specs.Meaning.{coming}
use Rattle.escape.proofs.Steps.{more_digit, more_over, more_below, more_above, more_none}
use Rattle.escape.proofs.source.Source.more_octal.Goals as goal

pub returns-in-Some-0-to-7-clause-value : goal.returns-in-Some-0-to-7-clause-value
returns-in-Some-0-to-7-clause-value c = search (rules, more_digit)

pub returns-in-Some-0-to-7-2-clause-value : goal.returns-in-Some-0-to-7-2-clause-value
returns-in-Some-0-to-7-2-clause-value c =
    more_over (coming c.args.self.now) (coming c.peek.new.self) c.in-Some-0-to-7.c _ c.in-Some-0-to-7.ensures.value (search rules) (search rules) c.if-value-le31.false

pub returns-in_default-clause-value : goal.returns-in_default-clause-value
returns-in_default-clause-value c = more_below (coming c.args.self.now) (coming c.peek.new.self) c.in_default.field-0 _ (search rules) (search rules) c.requires c.peek.ensures.same

pub returns-in_default-2-clause-value : goal.returns-in_default-2-clause-value
returns-in_default-2-clause-value c = more_above (coming c.args.self.now) (coming c.peek.new.self) c.in_default.field-0 _ (search rules) (search rules) c.requires c.peek.ensures.same

pub returns-in_default-3-clause-value : goal.returns-in_default-3-clause-value
returns-in_default-3-clause-value c = more_none _ _ _ (search rules) c.requires c.peek.ensures.same
