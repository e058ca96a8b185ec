-- Places that differ by two amounts, and pieces, faults and layers over them.
use Rattle.std.proofs.Common.{◌≡◌, ℕ, suc, ◌+◌, min, Bool, true, false, List, [], ◌∷◌, Ok, Err, refl, ap, arith}
use Rattle.stream.specs.Told.{Ending}
use Rattle.places.specs.declared.Place.{Place}
use Rattle.places.specs.Places.{line_cap, column_cap, offset_cap, is_lf, goes_on, past, beyond, capped}
use Rattle.pieces.specs.declared.fault.FaultKind.{FaultKind}
use Rattle.pieces.specs.declared.fault.FaultKind.TheVariants.{UnendedComment, UnendedRaw, UnendedString, NoToken, TrailingUnderscore, NoExponent, BadInteger, AfterExpression, Escape}
use Rattle.pieces.specs.declared.fault.ReadFault.{ReadFault}
use Rattle.rules.specs.Reading.{Stop, Done, Failing, Unread}
use Rattle.rules.specs.Told.{one_on, fault_span, ended}
use Rattle.runs.specs.Piles.{Item}
use Rattle.runs.specs.Resting.{Amounts, LinesAgree, OffsetsAgree, ColumnsAgree, PlacesAgree, ItemsAgree, FaultsAgree}

-- two numbers are two others with one amount added, up to a cap
pub record Apart (cap a b m n : ℕ) : Type 0 where
  pub more : ℕ
  pub here : m ≡ min (a + more) cap
  pub there : n ≡ min (b + more) cap

pub record PlacesApart (x : Bool) (d : Amounts) (p q : Place) : Type 0 where
  pub lines : Apart line_cap d.line d.other_line p.line q.line
  pub offsets : Apart offset_cap d.offset d.other_offset p.offset q.offset
  pub columns : ColumnsAgree x p q

pub record ItemsApart (x : Bool) (d : Amounts) (i j : Item) : Type 0 where
  pub kind : i.piece.kind ≡ j.piece.kind
  pub text : i.text ≡ j.text
  pub value : i.piece.value ≡ j.piece.value
  pub start : PlacesApart x d i.piece.span.start j.piece.span.start
  pub finish : PlacesApart x d i.piece.span.end j.piece.span.end
  pub from : Apart offset_cap d.offset d.other_offset i.piece.text.start j.piece.text.start
  pub to : Apart offset_cap d.offset d.other_offset i.piece.text.end j.piece.text.end

pub record FaultsApart (x : Bool) (d : Amounts) (f g : ReadFault) : Type 0 where
  pub kind : f.kind ≡ g.kind
  pub start : PlacesApart x d f.span.start g.span.start
  pub finish : PlacesApart x d f.span.end g.span.end

abbrev pub EndsApart : Bool → Amounts → Ending ReadFault → Ending ReadFault → Type 0
EndsApart x d (Ok u) (Ok v) = Unit {0}
EndsApart x d (Ok u) (Err g) = ⊥
EndsApart x d (Err f) (Ok v) = ⊥
EndsApart x d (Err f) (Err g) = FaultsApart x d f g

-- so they agree

lines_agree : (d : Amounts) (m n : ℕ) → Apart line_cap d.line d.other_line m n → LinesAgree d m n
lines_agree d m n h k l = omega arith

offsets_agree : (d : Amounts) (m n : ℕ) → Apart offset_cap d.offset d.other_offset m n → OffsetsAgree d m n
offsets_agree d m n h k l = omega arith

places_agree : (x : Bool) (d : Amounts) (p q : Place) → PlacesApart x d p q → PlacesAgree x d p q
places_agree x d p q h = (lines_agree d p.line q.line h.lines, offsets_agree d p.offset q.offset h.offsets, h.columns)

pub items_agree : (x : Bool) (d : Amounts) (i j : Item) → ItemsApart x d i j → ItemsAgree x d i j
items_agree x d i j h = (
  h.kind,
  h.text,
  h.value,
  (places_agree x d i.piece.span.start j.piece.span.start h.start, places_agree x d i.piece.span.end j.piece.span.end h.finish),
  offsets_agree d i.piece.text.start j.piece.text.start h.from,
  offsets_agree d i.piece.text.end j.piece.text.end h.to,
)

pub faults_agree : (x : Bool) (d : Amounts) (f g : ReadFault) → FaultsApart x d f g → FaultsAgree x d f g
faults_agree x d f g h = (h.kind, (places_agree x d f.span.start g.span.start h.start, places_agree x d f.span.end g.span.end h.finish))

-- two places without a cap that differ by the amounts
pub record Level (d : Amounts) (p q : Place) : Type 0 where
  pub down : ℕ
  pub line : p.line ≡ d.line + down
  pub other_line : q.line ≡ d.other_line + down
  pub column : p.column ≡ q.column
  pub on : ℕ
  pub offset : p.offset ≡ d.offset + on
  pub other_offset : q.offset ≡ d.other_offset + on

-- a byte further, by what it is
abbrev past_by : Bool → Bool → Place → Place
past_by v w p = record {
  line = elim v [ true ↦ p.line + 1 | false ↦ p.line ];
  column = elim v [ true ↦ 0 | false ↦ elim w [ true ↦ p.column | false ↦ p.column + 1 ] ];
  offset = p.offset + 1;
}

past_level : (d : Amounts) (v w : Bool) (p q : Place) → Level d p q → Level d (past_by v w p) (past_by v w q)
past_level d true w p q h = record { down = suc h.down; line = omega arith; other_line = omega arith; column = refl; on = suc h.on; offset = omega arith; other_offset = omega arith }
past_level d false true p q h = record { down = h.down; line = h.line; other_line = h.other_line; column = h.column; on = suc h.on; offset = omega arith; other_offset = omega arith }
past_level d false false p q h = record { down = h.down; line = h.line; other_line = h.other_line; column = omega arith; on = suc h.on; offset = omega arith; other_offset = omega arith }

pub beyond_level : (d : Amounts) (xs : List ℕ) (p q : Place) → Level d p q → Level d (beyond xs p) (beyond xs q)
unfolding beyond
beyond_level d [] p q h = h
beyond_level d (x ∷ xs) p q h = beyond_level d xs (past x p) (past x q) (past_level d (is_lf x) (goes_on x) p q h)

one_level : (d : Amounts) (p q : Place) → Level d p q → Level d (one_on p) (one_on q)
one_level d p q h = record { down = h.down; line = h.line; other_line = h.other_line; column = omega arith; on = suc h.on; offset = omega arith; other_offset = omega arith }

pub capped_apart : (d : Amounts) (p q : Place) → Level d p q → PlacesApart false d (capped p) (capped q)
capped_apart d p q h = record {
  lines = record { more = h.down; here = omega arith; there = omega arith };
  offsets = record { more = h.on; here = omega arith; there = omega arith };
  columns = ap (λ c. min c column_cap) h.column;
}

pub offset_apart : (d : Amounts) (p q : Place) (n : ℕ) → Level d p q → Apart offset_cap d.offset d.other_offset (min (p.offset + n) offset_cap) (min (q.offset + n) offset_cap)
offset_apart d p q n h = record { more = h.on + n; here = omega arith; there = omega arith }

-- faults and endings at two places

reached_apart : (d : Amounts) (k : FaultKind) (q r : Place) → Level d q r → FaultsApart false d (record { kind = k; span = record { start = capped q; end = capped (one_on q) } }) (record { kind = k; span = record { start = capped r; end = capped (one_on r) } })
reached_apart d k q r h = record { kind = refl; start = capped_apart d q r h; finish = capped_apart d (one_on q) (one_on r) (one_level d q r h) }

fault_apart : (d : Amounts) (k : FaultKind) (p q r u : Place) → Level d p q → Level d r u → FaultsApart false d (record { kind = k; span = fault_span k p r }) (record { kind = k; span = fault_span k q u })
fault_apart d UnendedComment p q r u h g = reached_apart d UnendedComment r u g
fault_apart d UnendedRaw p q r u h g = reached_apart d UnendedRaw r u g
fault_apart d UnendedString p q r u h g = reached_apart d UnendedString r u g
fault_apart d NoToken p q r u h g = reached_apart d NoToken r u g
fault_apart d TrailingUnderscore p q r u h g = reached_apart d TrailingUnderscore r u g
fault_apart d NoExponent p q r u h g = reached_apart d NoExponent r u g
fault_apart d BadInteger p q r u h g = reached_apart d BadInteger r u g
fault_apart d AfterExpression p q r u h g = reached_apart d AfterExpression r u g
fault_apart d (Escape f) p q r u h g = record { kind = refl; start = capped_apart d p q h; finish = capped_apart d r u g }

pub ended_apart : (d : Amounts) (e : Stop) (p q : Place) → Level d p q → EndsApart false d (ended p e) (ended q e)
ended_apart d Done p q h = tt
ended_apart d (Failing k xs) p q h = fault_apart d k p q (beyond xs p) (beyond xs q) h (beyond_level d xs p q h)
ended_apart d Unread p q h = tt
