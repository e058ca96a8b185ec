-- Rows: the pieces of a reading, of which white neighbours are one.
use Rattle.std.specs.Prelude.{◌≡◌, ℕ, ◌<◌, ◌≤◌, Bool, true, false, ◌&&◌, List, [], ◌∷◌, ◌++◌, Some, None, Option, codes}
use Rattle.std.specs.List.{flat_map, AllByRecursion}
use Rattle.places.specs.declared.Place.{Place}
use Rattle.places.specs.Places.{place_text}
use Rattle.pieces.specs.declared.kind.Kind.{Kind}
use Rattle.pieces.specs.declared.kind.Kind.TheVariants.{White}
use Rattle.pieces.specs.declared.piece.Piece.{Piece}
use Rattle.pieces.specs.Kinds.{kind_name}
use Rattle.listings.specs.declared.row.Row.{Row}

-- the kind is white space
abbrev pub is_white : Kind → Bool
is_white k = elim k [ White ↦ true | _ ↦ false ]

-- the row of one piece
abbrev pub row_of : Piece → Row
row_of p = record { kind = p.kind; span = p.span }

-- a row that reaches to the end of another
abbrev pub reaching : Row → Row → Row
reaching r s = record { kind = r.kind; span = record { start = r.span.start; end = s.span.end } }

-- a row in front of others: two white neighbours are one row, from the start of the first to the end of the second
abbrev pub put : Row → List Row → List Row
put r [] = r ∷ []
put r (s ∷ rs) = elim (is_white r.kind && is_white s.kind) [ true ↦ reaching r s ∷ rs | false ↦ r ∷ s ∷ rs ]

-- the rows of pieces: one for each, but for white neighbours
unfoldable pub joined : List Piece → List Row
joined [] = []
joined (p ∷ ps) = put (row_of p) (joined ps)

-- a row in print: the kind's name, and the places where it starts and ends
abbrev pub row_text : Row → List ℕ
row_text r = kind_name r.kind ++ codes " " ++ place_text r.span.start ++ codes " " ++ place_text r.span.end

-- the pieces begin with a white one
abbrev pub starts_white : List Piece → Bool
starts_white [] = false
starts_white (p ∷ ps) = is_white p.kind

-- the first of the pieces xs is taken if it is white, which leaves ys
abbrev pub Takes : List Piece → Option Piece → List Piece → Type 0
Takes xs (Some p) ys = (xs ≡ p ∷ ys) × (is_white p.kind ≡ true)
Takes xs None ys = (starts_white xs ≡ false) × (ys ≡ xs)

-- a piece that is taken makes this number fall
abbrev pub FallsIf : Option Piece → ℕ → ℕ → Type 0
FallsIf (Some p) m n = n < m
FallsIf None m n = n ≤ m

-- in words

-- a piece is white
abbrev pub IsWhite : Piece → Type 0
IsWhite p = is_white p.kind ≡ true

-- where the last of the pieces p ∷ ps ends
abbrev pub end_of : Piece → List Piece → Place
end_of p [] = p.span.end
end_of p (q ∷ qs) = end_of q qs

-- the pieces p ∷ ps may stand on one row: there is one, or all are white
abbrev pub AsOne : Piece → List Piece → Type 0
AsOne p [] = Unit {0}
AsOne p (q ∷ qs) = AllByRecursion IsWhite (p ∷ q ∷ qs)

-- a run of pieces makes this row: of the kind of the first, from where that starts to where the last ends
abbrev pub Makes : List Piece → Row → Type 0
Makes [] r = ⊥
Makes (p ∷ ps) r = (r.kind ≡ p.kind) × (r.span.start ≡ p.span.start) × (r.span.end ≡ end_of p ps) × AsOne p ps

-- runs make rows, one each in their order
abbrev pub MakeAll : List (List Piece) → List Row → Type 0
MakeAll [] [] = Unit {0}
MakeAll [] (r ∷ rs) = ⊥
MakeAll (ps ∷ runs) [] = ⊥
MakeAll (ps ∷ runs) (r ∷ rs) = Makes ps r × MakeAll runs rs

-- a row and the one that comes next are not both white
abbrev pub Parted : Row → List Row → Type 0
Parted r [] = Unit {0}
Parted r (s ∷ rs) = (is_white r.kind && is_white s.kind) ≡ false

-- no two neighbours are both white
abbrev pub AllParted : List Row → Type 0
AllParted [] = Unit {0}
AllParted (r ∷ rs) = Parted r rs × AllParted rs

-- the pieces fall into runs, none left out, each of which makes a row; and no two neighbouring rows are white, so that runs of white pieces are the longest
abbrev pub Joins : List Piece → List Row → Type 0
Joins ps rs = (runs : List (List Piece)) × (flat_map (λ run. run) runs ≡ ps) × MakeAll runs rs × AllParted rs
