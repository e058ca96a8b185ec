use Rattle.strips.proofs.skip_whitespace.Goals as goal

pub returns-clause-value : goal.returns-clause-value
returns-clause-value c = rw c.new.ensures at c.run_forward.ensures.value

pub returns-clause-longest : goal.returns-clause-longest
returns-clause-longest c = rw c.new.ensures at c.run_forward.ensures.longest
