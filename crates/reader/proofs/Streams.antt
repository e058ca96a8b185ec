-- A reader is a stream.
use Rattle.std.proofs.Common.{◌≡◌, List, Option, Result, sym, ap, ◌∙◌, subst}
use Rattle.finder.specs.Finding.{Opening}
use Rattle.stream.specs.Told.{Next, Falls}
use Rattle.pieces.specs.declared.fault.ReadFault.{ReadFault}
use Rattle.pieces.specs.declared.piece.Piece.{Piece}
use Rattle.syntax.specs.declared.settings.Settings.{Settings}
use Rattle.syntax.specs.Openings.{openings_of}
use Rattle.rules.specs.Config.{config_of}
use Rattle.rules.specs.Reading.{Unread, meaning}
use Rattle.rules.specs.Texts.{Same}
use Rattle.rules.proofs.Fuel.{FineAt, meaning_ends}
use Rattle.rules.proofs.Whole.{fine_at}
use Rattle.reader.specs.declared.reader.Reader.{Reader}
use Rattle.reader.specs.Views.{View, view_of, config, tell, items_of, ending_of, left_of}
use Rattle.reader.proofs.Settings.{ended, apart}
use Rattle.reader.proofs.Tells.{tells, falls, same_tell}

module _ (os : List Opening) (st su : Settings) (v u : View) (a : Result (Option Piece) ReadFault) (fine : FineAt v.core)
    (same : su ≡ st) (answer : a ≡ (tell os (config_of st) v).answer) (after : u ≡ (tell os (config_of st) v).after) where
  pub stream_tells : Same os (openings_of st)
      → Next (items_of (openings_of st) (config_of st) v) (ending_of (openings_of st) (config_of st) v) a (items_of (openings_of su) (config_of su) u) (ending_of (openings_of su) (config_of su) u)
  stream_tells h =
      let ps : List Opening = openings_of st in
      let e = same_tell os ps (apart st) h (config_of st) v in
      let base = tells ps (config_of st) v fine (ended st) in
      subst (λ x. Next (items_of ps (config_of st) v) (ending_of ps (config_of st) v) a (items_of (openings_of x) (config_of x) u) (ending_of (openings_of x) (config_of x) u)) (sym same)
      (subst (λ x. Next (items_of ps (config_of st) v) (ending_of ps (config_of st) v) a (items_of ps (config_of st) x) (ending_of ps (config_of st) x)) (sym (after ∙ ap (λ t. t.after) e))
      (subst (λ x. Next (items_of ps (config_of st) v) (ending_of ps (config_of st) v) x (items_of ps (config_of st) (tell ps (config_of st) v).after) (ending_of ps (config_of st) (tell ps (config_of st) v).after)) (sym (answer ∙ ap (λ t. t.answer) e)) base))

  pub stream_serves : (qs : List Opening) → Same qs (openings_of st) → Same qs (openings_of su)
  stream_serves qs h = subst (λ x. Same qs (openings_of x)) (sym same) h

  pub stream_falls : Falls (left_of v) a (left_of u)
  stream_falls =
      subst (λ x. Falls (left_of v) a (left_of x)) (sym after)
      (subst (λ x. Falls (left_of v) x (left_of (tell os (config_of st) v).after)) (sym answer) (falls os (config_of st) v fine (ended st)))

-- a reading has enough calls to end
pub reader_ends : (r : Reader) → (meaning (openings_of r.settings) (config r) (view_of r).core).stop ≡ Unread → ⊥
reader_ends r =
    let a = r.reading in
    meaning_ends (openings_of r.settings) (config r) (ended r.settings) (view_of r).core (fine_at a.template.now a.left a.offset a.state a.pending a.cut_told a.within a.inside a.lively)
