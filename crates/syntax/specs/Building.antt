-- What building tests.
use Rattle.std.specs.Prelude.{◌≡◌, ℕ, ◌<◌, Bool, true, false, List, [], ◌∷◌, ◌++◌, map, length, take, Some, None, Ok, Err, Option, Result, ◌==◌, ◌≢◌, slice_index_or}
use Rattle.std.specs.List.{find, list_any}
use Rattle.std.specs.Str.{bytes_eq}
use Rattle.syntax.specs.declared.delimiter.Delimiter.{Delimiter}
use Rattle.syntax.specs.declared.name.DelimiterName.{DelimiterName}
use Rattle.syntax.specs.declared.fault.SyntaxFault.{SyntaxFault}
use Rattle.syntax.specs.declared.fault.SyntaxFault.TheVariants.{TooLong, NotUtf8, Empty, Equal}
use Rattle.syntax.specs.Delims.{bytes_of}
use Rattle.syntax.specs.Faults.{Told}
use Rattle.syntax.specs.Names.{index_of, name_at, required_names, opening_names}

-- the bytes of each delimiter
abbrev pub Table : Type 0
Table = DelimiterName → List ℕ

-- the table that eight delimiters hold
abbrev pub table_of : List Delimiter → Table
table_of ds n = slice_index_or (map bytes_of ds) (index_of n) []

-- there are no bytes
abbrev pub is_empty : List ℕ → Bool
is_empty xs = length xs == 0

-- the first of the names whose delimiter is empty
abbrev pub first_empty : Table → List DelimiterName → Option DelimiterName
first_empty t ns = find (λ n. is_empty (t n)) ns

-- one of the names has a delimiter of these bytes
abbrev pub any_same : Table → List ℕ → List DelimiterName → Bool
any_same t xs ns = list_any (λ n. bytes_eq (t n) xs) ns

-- the name's delimiter is not empty, and equals that of one of the earlier names
abbrev pub repeats : Table → List DelimiterName → DelimiterName → Bool
repeats t earlier n = elim (is_empty (t n)) [ true ↦ false | false ↦ any_same t (t n) earlier ]

-- the first of the names whose delimiter repeats that of an earlier one
unfoldable pub first_equal : Table → List DelimiterName → List DelimiterName → Option DelimiterName
first_equal t earlier [] = None
first_equal t earlier (n ∷ ns) = elim (repeats t earlier n) [ true ↦ Some n | false ↦ first_equal t (earlier ++ n ∷ []) ns ]

-- what building tells of the openings: with 4 the first that equals an earlier one
abbrev pub equal_told : Option DelimiterName → Result Unit Told
equal_told None = Ok tt
equal_told (Some n) = Err (record { number = 4; name = n; place = None })

-- what building tells: with 3 the first empty delimiter, and where there is none what is told of the openings
abbrev pub empty_told : Option DelimiterName → Result Unit Told → Result Unit Told
empty_told None next = next
empty_told (Some n) next = Err (record { number = 3; name = n; place = None })

-- what building tells of a table
abbrev pub build_told : Table → Result Unit Told
build_told t = empty_told (first_empty t required_names) (equal_told (first_equal t [] opening_names))

-- building refuses nothing
abbrev pub passes : Table → Bool
passes t = elim (build_told t) [ Ok u ↦ true | Err f ↦ false ]

-- at this place stands the name of an empty delimiter
abbrev pub EmptyAt : Table → List DelimiterName → ℕ → Type 0
EmptyAt t ns k = (k < length ns) × (t (name_at ns k) ≡ [])

-- the name's delimiter is not empty, and an earlier name has an equal one
abbrev pub Repeats : Table → List DelimiterName → DelimiterName → Type 0
Repeats t earlier n = (t n ≢ []) × ((j : ℕ) × (j < length earlier) × (t (name_at earlier j) ≡ t n))

-- at this place stands the name of an opening that equals an earlier one
abbrev pub EqualAt : Table → List DelimiterName → ℕ → Type 0
EqualAt t ns k = (k < length ns) × Repeats t (take k ns) (name_at ns k)

-- no place has the property
abbrev pub Nowhere : (ℕ → Type 0) → Type 0
Nowhere P = (k : ℕ) → P k → ⊥

-- the name stands at the first place that has the property
abbrev pub FirstAt : (ℕ → Type 0) → List DelimiterName → DelimiterName → Type 0
FirstAt P ns n = (k : ℕ) × (name_at ns k ≡ n) × P k × ((j : ℕ) → j < k → P j → ⊥)

-- nothing is refused of a table: no delimiter that must have bytes is empty, and no opening equals an earlier one
abbrev pub Fit : Table → Type 0
Fit t = Nowhere (EmptyAt t required_names) × Nowhere (EqualAt t opening_names)

-- what building finds: nothing to refuse; or the first empty delimiter; or, with none empty, the first opening that equals an earlier one
abbrev pub Found : {A : Type 0} → Table → Result A SyntaxFault → Type 0
Found t (Ok a) = Fit t
Found t (Err (TooLong n)) = ⊥
Found t (Err (NotUtf8 n f)) = ⊥
Found t (Err (Empty n)) = FirstAt (EmptyAt t required_names) required_names n
Found t (Err (Equal n)) = Nowhere (EmptyAt t required_names) × FirstAt (EqualAt t opening_names) opening_names n
