-- The names of markers.
use Rattle.std.specs.Prelude.{ℕ, List, codes}
use Rattle.finder.specs.declared.StartMarker.{StartMarker}
use Rattle.finder.specs.declared.StartMarker.TheVariants.{Variable, Block, Comment, LineStatement, LineComment}

-- the name of a marker
abbrev pub marker_name : StartMarker → List ℕ
marker_name Variable = codes "variable"
marker_name Block = codes "block"
marker_name Comment = codes "comment"
marker_name LineStatement = codes "line-statement"
marker_name LineComment = codes "line-comment"
