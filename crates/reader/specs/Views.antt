-- What a reader is to the rules, and what its calls tell.
use Rattle.std.specs.Prelude.{ℕ, suc, ◌+◌, ◌-◌, true, List, [], length, ℤ, pos, Some, None, Option, Ok, Err, Result}
use Rattle.finder.specs.Finding.{Opening}
use Rattle.stream.specs.Told.{Ending}
use Rattle.places.specs.declared.Place.{Place}
use Rattle.places.specs.Places.{beyond, first_place}
use Rattle.pieces.specs.declared.fault.ReadFault.{ReadFault}
use Rattle.pieces.specs.declared.piece.Piece.{Piece}
use Rattle.syntax.specs.Openings.{openings_of}
use Rattle.rules.specs.declared.LexerState.{LexerState}
use Rattle.rules.specs.declared.Step.{Step}
use Rattle.rules.specs.declared.Fault.{Fault}
use Rattle.rules.specs.Config.{Config, config_of}
use Rattle.rules.specs.At.{core_at, place_at}
use Rattle.rules.specs.Reading.{Outcome, Gives, Stops, call, measure, meaning, starting, balance_at}
use Rattle.rules.specs.Shapes.{Fits}
use Rattle.rules.specs.State.{Core, Verdict}
use Rattle.rules.specs.Told.{placed, pieces, ended, ending, fault_span}
use Rattle.rules.specs.Texts.{Same}
use Rattle.reader.specs.declared.reader.Reader.{Reader}
use Rattle.reader.specs.declared.reading.Reading.{Reading}

-- the state of the reading; the place that it reached, without a cap; the balance of brackets; and the ending, once it was told
pub record View : Type 0 where
  pub core : Core
  pub place : Place
  pub balance : ℤ
  pub told : Option (Ending ReadFault)

-- of how far a template is read
abbrev pub view : Reading → View
view r = record {
  core = core_at r.template.now r.left r.offset r.state r.pending r.cut_told;
  place = place_at r.template.now r.offset;
  balance = r.balance;
  told = r.told;
}

-- of a reader
abbrev pub view_of : Reader → View
view_of r = view r.reading

-- what the rules take from its settings
abbrev pub config : Reader → Config
config r = config_of r.settings

-- a verdict keeps to the bytes that are left to a reading
abbrev pub Keeps : Reading → Verdict → Type 0
Keeps r v = Fits (r.left - r.offset) r.state r.pending v

-- the view behind a piece that is taken off the bytes left
abbrev pub behind_step : Reading → Step → View
behind_step r p = record {
  core = core_at r.template.now r.left (r.offset + p.len) p.state p.pending r.cut_told;
  place = place_at r.template.now (r.offset + p.len);
  balance = balance_at r.balance p.state;
  told = r.told;
}

-- the view behind the cut, which ends where the template does
abbrev pub behind_cut : Reading → View
behind_cut r = record {
  core = core_at r.template.now (length r.template.now) (length r.template.now) r.state r.pending true;
  place = place_at r.template.now (length r.template.now);
  balance = r.balance;
  told = r.told;
}

-- a fault of the rules, told at its place
abbrev pub fault_at : Reading → Fault → ReadFault
fault_at r f = record { kind = f.kind; span = fault_span f.kind (place_at r.template.now r.offset) (place_at r.template.now (r.offset + f.distance)) }

-- a view of a template, or of an expression, of which nothing is read
abbrev pub unread : Config → LexerState → List ℕ → View
unread s m t = record { core = starting s m t; place = first_place; balance = pos 0; told = None }

-- an ending, as a call tells it
abbrev pub told_as : Ending ReadFault → Result (Option Piece) ReadFault
told_as (Ok u) = Ok None
told_as (Err f) = Err f

-- an answer, and the view behind it
pub record Told : Type 0 where
  pub answer : Result (Option Piece) ReadFault
  pub after : View

-- a piece is told at its place, and an ending is told and kept
abbrev pub tell_by : View → Outcome → Told
tell_by v (Gives p d) = record {
  answer = Ok (Some (placed v.place p));
  after = record { core = d; place = beyond p.bytes v.place; balance = balance_at v.balance d.state; told = None };
}
tell_by v (Stops e) = record {
  answer = told_as (ended v.place e);
  after = record { core = v.core; place = v.place; balance = v.balance; told = Some (ended v.place e) };
}

-- what next tells with these openings; an ending that was told is told again, and nothing changes
abbrev pub tell : List Opening → Config → View → Told
tell os s v = elim v.told [ Some e ↦ record { answer = told_as e; after = v } | None ↦ tell_by v (call os s v.core) ]

-- the pieces still to come
abbrev pub items_of : List Opening → Config → View → List Piece
items_of os s v = elim v.told [ Some e ↦ [] | None ↦ pieces v.place (meaning os s v.core).parts ]

-- how they end
abbrev pub ending_of : List Opening → Config → View → Ending ReadFault
ending_of os s v = elim v.told [ Some e ↦ e | None ↦ ending v.place (meaning os s v.core) ]

-- at most so many calls tell something new: the pieces still to come, and the ending
abbrev pub left_of : View → ℕ
left_of v = elim v.told [ Some e ↦ 0 | None ↦ suc (measure v.core) ]

-- lawful for a reader are the openings of its settings
abbrev pub Lawful : Reader → List Opening → Type 0
Lawful r os = Same os (openings_of r.settings)
