use Rattle.strips.proofs.trim_end.Goals as goal

pub returns : goal.returns
returns c = rw c.new.ensures at c.trim_end_matches.ensures
