-- The names of the eight delimiters.
use Rattle.std.specs.Prelude.{ℕ, Bool, true, false, List, [], ◌∷◌, map, codes, ◌==◌, slice_index_or}
use Rattle.finder.specs.declared.StartMarker.{StartMarker}
use Rattle.finder.specs.declared.StartMarker.TheVariants.{Variable, Block, Comment, LineStatement, LineComment}
use Rattle.syntax.specs.declared.name.DelimiterName.{DelimiterName}
use Rattle.syntax.specs.declared.name.DelimiterName.TheVariants.{BlockStart, BlockEnd, VariableStart, VariableEnd, CommentStart, CommentEnd, LineStatementPrefix, LineCommentPrefix}

-- the place of a name in the table
abbrev pub index_of : DelimiterName → ℕ
index_of BlockStart = 0
index_of BlockEnd = 1
index_of VariableStart = 2
index_of VariableEnd = 3
index_of CommentStart = 4
index_of CommentEnd = 5
index_of LineStatementPrefix = 6
index_of LineCommentPrefix = 7

-- a name as it is written
abbrev pub name_of : DelimiterName → List ℕ
name_of BlockStart = codes "block_start"
name_of BlockEnd = codes "block_end"
name_of VariableStart = codes "variable_start"
name_of VariableEnd = codes "variable_end"
name_of CommentStart = codes "comment_start"
name_of CommentEnd = codes "comment_end"
name_of LineStatementPrefix = codes "line_statement_prefix"
name_of LineCommentPrefix = codes "line_comment_prefix"

-- the two names are one
abbrev pub same_name : DelimiterName → DelimiterName → Bool
same_name m n = index_of m == index_of n

-- the delimiter that opens
abbrev pub opener : StartMarker → DelimiterName
opener Variable = VariableStart
opener Block = BlockStart
opener Comment = CommentStart
opener LineStatement = LineStatementPrefix
opener LineComment = LineCommentPrefix

-- the order of openings
abbrev pub markers : List StartMarker
markers = Variable ∷ Block ∷ Comment ∷ LineStatement ∷ LineComment ∷ []

-- the delimiters that open, in the order of openings
abbrev pub opening_names : List DelimiterName
opening_names = map opener markers

-- the delimiters that may not be empty, in the order in which they are tested
abbrev pub required_names : List DelimiterName
required_names = BlockStart ∷ BlockEnd ∷ VariableStart ∷ VariableEnd ∷ CommentStart ∷ CommentEnd ∷ []

-- the name of a line prefix, which may be empty
abbrev pub line_prefix : DelimiterName → Bool
line_prefix BlockStart = false
line_prefix BlockEnd = false
line_prefix VariableStart = false
line_prefix VariableEnd = false
line_prefix CommentStart = false
line_prefix CommentEnd = false
line_prefix LineStatementPrefix = true
line_prefix LineCommentPrefix = true

-- the name at a place of the list
abbrev pub name_at : List DelimiterName → ℕ → DelimiterName
name_at ns k = slice_index_or ns k BlockStart
