-- The default delimiters.
use Rattle.std.proofs.Common.{◌≡◌, ◌<◌, List, [], ◌∷◌, length, get_or, Ok, refl, ap, ◌∙◌, lit<, arith}
use Rattle.std.proofs.lemmas.List.{get_or-map}
use mathlib.Core.Path.{fun_ext}
use Rattle.finder.specs.declared.StartMarker.TheVariants.{Variable, Block, Comment}
use Rattle.syntax.specs.declared.delimiter.Delimiter.{Delimiter}
use Rattle.syntax.specs.declared.name.DelimiterName.{DelimiterName}
use Rattle.syntax.specs.declared.name.DelimiterName.TheVariants.{BlockStart, BlockEnd, VariableStart, VariableEnd, CommentStart, CommentEnd, LineStatementPrefix, LineCommentPrefix}
use Rattle.syntax.specs.Delims.{bytes_of}
use Rattle.syntax.specs.Names.{index_of, markers}
use Rattle.syntax.specs.Building.{Table, table_of, first_equal, build_told}
use Rattle.syntax.specs.Drafts.{defaults}
use Rattle.syntax.specs.Openings.{openings_by}

-- tables that agree at each name are one
pub same_tables : (t u : Table) → ((n : DelimiterName) → t n ≡ u n) → t ≡ u
same_tables t u h = fun_ext h

-- the eight names in the order of the table
abbrev pub all_names : List DelimiterName
all_names = BlockStart ∷ BlockEnd ∷ VariableStart ∷ VariableEnd ∷ CommentStart ∷ CommentEnd ∷ LineStatementPrefix ∷ LineCommentPrefix ∷ []

-- each stands at its place
pub name_here : (n : DelimiterName) → get_or all_names (index_of n) n ≡ n
name_here BlockStart = refl
name_here BlockEnd = refl
name_here VariableStart = refl
name_here VariableEnd = refl
name_here CommentStart = refl
name_here CommentEnd = refl
name_here LineStatementPrefix = refl
name_here LineCommentPrefix = refl

pub index_below : (n : DelimiterName) → index_of n < 8
index_below BlockStart = lit< tt
index_below BlockEnd = lit< tt
index_below VariableStart = lit< tt
index_below VariableEnd = lit< tt
index_below CommentStart = lit< tt
index_below CommentEnd = lit< tt
index_below LineStatementPrefix = lit< tt
index_below LineCommentPrefix = lit< tt

-- eight delimiters of which each is the default one of its name are the default table
pub defaults_table : (ds : List Delimiter) → length ds ≡ 8 → ((n : DelimiterName) (d : Delimiter) → bytes_of (get_or ds (index_of n) d) ≡ defaults n) → (n : DelimiterName) → table_of ds n ≡ defaults n
defaults_table [] l h n = absurd (omega (arith, l))
defaults_table (d ∷ ds) l h n = get_or-map bytes_of (d ∷ ds) (index_of n) d [] (omega (arith, l, index_below n)) ∙ h n d

-- the default delimiters are built
pub defaults_told : (t : Table) → ((n : DelimiterName) → t n ≡ defaults n) → build_told t ≡ Ok tt
unfolding first_equal
defaults_told t h = ap build_told (same_tables t defaults h)

-- the default openings: {{ and {% and {#
pub defaults_openings : (t : Table) → ((n : DelimiterName) → t n ≡ defaults n) → openings_by t markers ≡ record { marker = Variable; bytes = 0x7B ∷ 0x7B ∷ [] } ∷ record { marker = Block; bytes = 0x7B ∷ 0x25 ∷ [] } ∷ record { marker = Comment; bytes = 0x7B ∷ 0x23 ∷ [] } ∷ []
unfolding openings_by
defaults_openings t h = ap (λ u. openings_by u markers) (same_tables t defaults h)
