-- What a run answers.
use Rattle.std.specs.Prelude.{◌≡◌, ℕ, ◌≤◌, ◌⊎◌, List, [], map, reverse, length, take, Some, Ok, Err, IfSome, IfErr, All, Result}
use Rattle.finder.specs.Finding.{Opening, blank_line}
use Rattle.syntax.specs.declared.settings.Settings.{Settings}
use Rattle.syntax.specs.Openings.{openings_of}
use Rattle.rules.specs.declared.LexerState.{LexerState}
use Rattle.rules.specs.declared.LexerState.TheVariants.{Template as InTemplate}
use Rattle.rules.specs.Bytes.{behind_at, line_before}
use Rattle.rules.specs.Config.{Config, config_of}
use Rattle.rules.specs.Reading.{in_expression}
use Rattle.rules.specs.Shapes.{Numbered}
use Rattle.rules.specs.Tags.{dot_behind}
use Rattle.places.specs.Places.{capped}
use Rattle.reader.specs.declared.closing.Closed.{Closed}
use Rattle.reader.specs.declared.fault.OpenFault.{OpenFault}
use Rattle.reader.specs.Limits.{max_len}
use Rattle.reader.specs.Views.{View, unread}
use Rattle.runs.specs.declared.Mode.{Mode}
use Rattle.runs.specs.declared.Mode.TheVariants.{Template, Expression}
use Rattle.runs.specs.declared.Call.{Call}
use Rattle.runs.specs.declared.Reply.{Reply}
use Rattle.runs.specs.declared.Reply.TheVariants.{Told, Rests}
use Rattle.runs.specs.Calls.{Asked, replies, behind_calls, asks_of, calls_of, replies_of, served, AllLawful}
use Rattle.runs.specs.Whole.{Whole}
use Rattle.runs.specs.Named.{Named}
use Rattle.runs.specs.Resting.{Run, Resting}

-- where a reading starts: a template in text, and an expression inside a variable
abbrev pub state_of : Mode → LexerState
state_of Template = InTemplate
state_of Expression = in_expression

-- calls on a reader: the asks are as they were, and each has beside it what the rules tell, one call after the other
abbrev pub Drives : {F : Type 0} → Config → View → (F → List Opening) → List (Call F) → List (Call F) → Type 0
Drives s v openings cs ds = (asks_of ds ≡ asks_of cs) × (replies_of ds ≡ map Some (replies s v (calls_of openings cs)))

-- what closing a reader tells that stands at a view
abbrev pub Shuts : View → Closed → Type 0
Shuts v c = (c.end ≡ capped v.place) × (c.ending ≡ v.told) × (c.balance ≡ v.balance)

-- what a run leaves: where opening is refused, the calls as they were; else each ask has beside it what the rules tell, and the reader is closed behind them all
abbrev pub Runs : {F : Type 0} → Config → LexerState → List ℕ → (F → List Opening) → List (Call F) → List (Call F) → Result Closed OpenFault → Type 0
Runs s m t openings cs ds (Ok c) = Drives s (unread s m t) openings cs ds × Shuts (behind_calls s (unread s m t) (calls_of openings cs)) c
Runs s m t openings cs ds (Err f) = ds ≡ cs

-- a fault that a reply tells has a number from 7 to 15, and is never that a string is not UTF-8
abbrev pub NumberedReply : Reply → Type 0
NumberedReply (Told r) = IfErr r (λ f. Numbered f.kind)
NumberedReply (Rests b) = Unit {0}

-- so is each reply that stands beside these calls
abbrev pub AllNumbered : {F : Type 0} → List (Call F) → Type 0
AllNumbered cs = All (λ c. IfSome c.reply NumberedReply) cs

-- a run of a template or an expression that is not too long
abbrev pub Starts : Run → Type 0
Starts r = ((r.state ≡ InTemplate) ⊎ (r.state ≡ in_expression)) × (length r.template ≤ max_len)

-- from the place i of t it is the same to look back over the bytes that are kept, those since the last LF, and over all of them
abbrev pub LooksBack : List ℕ → ℕ → Type 0
LooksBack t i =
    (blank_line (behind_at t i) ≡ blank_line (reverse (take i t))) × (line_before (behind_at t i) [] ≡ line_before (reverse (take i t)) [])
    × (dot_behind (behind_at t i) ≡ dot_behind (reverse (take i t)))

-- the promises of a run by lawful finders: its replies are those of the rules, whichever finder serves each call; its pieces are the template, nothing lost,
-- doubled or invented; they are what their kinds say, with the values that these say; and from a resting point on no other run under the same settings tells
-- anything else
pub record Promises (st : Settings) (m : LexerState) (t : List ℕ) (cs : List Asked) (rs : List Reply) : Type 0 where
  pub answers : rs ≡ replies (config_of st) (unread (config_of st) m t) (map (served (openings_of st)) cs)
  pub whole : Whole t rs
  pub named : Named (openings_of st) (config_of st) t rs
  pub resting : (q : Run) → Starts q → Resting (openings_of st) (config_of st) (record { state = m; template = t; calls = cs }) q

-- a run by lawful finders keeps them: of the calls that were asked and the replies that it left
abbrev pub Promised : {F : Type 0} → Settings → LexerState → List ℕ → List Asked → List (Call F) → Result Closed OpenFault → Type 0
Promised st m t cs ds (Ok c) = AllLawful (openings_of st) cs → (rs : List Reply) × (replies_of ds ≡ map Some rs) × Promises st m t cs rs
Promised st m t cs ds (Err f) = Unit {0}
