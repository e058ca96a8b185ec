use Rattle.finder.proofs.Found.{found_none}
use Rattle.finder.proofs.NoFinderFinder.find.Goals as goal

pub returns-clause-value : goal.returns-clause-value
returns-clause-value c = found_none c.args._source.now c.args._offset
