use Rattle.reader.specs.Views.{view_of, left_of}
use Rattle.tokenize.proofs.show.Given as goal

abbrev pub decreases-loop-piece : goal.decreases-loop-piece
decreases-loop-piece g l = left_of (view_of l.reader)
