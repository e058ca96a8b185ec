-- What a run promises.
use Rattle.std.proofs.Common.{◌≡◌, ℕ, ◌≤◌, false, List, [], ◌∷◌, map, length, take, refl, ap, ◌∙◌, subst, sym, Some, Ok, ◌⊎◌, inl, inr, ⊎_elim, arith}
use Rattle.finder.specs.Finding.{Opening}
use Rattle.syntax.specs.declared.settings.Settings.{Settings}
use Rattle.syntax.specs.Openings.{openings_of}
use Rattle.rules.specs.declared.LexerState.TheVariants.{Template as InTemplate}
use Rattle.rules.specs.Config.{Config, config_of}
use Rattle.rules.specs.Reading.{left_len, in_expression}
use Rattle.rules.specs.Shapes.{level}
use Rattle.rules.proofs.Lawful.{Apart}
use Rattle.reader.specs.declared.closing.Closed.{Closed}
use Rattle.reader.specs.declared.reader.Reader.{Reader}
use Rattle.reader.specs.Limits.{max_len}
use Rattle.reader.specs.Opens.{open_told, Opened}
use Rattle.reader.specs.Views.{View, view_of, config, unread}
use Rattle.reader.proofs.Settings.{ended, apart, none_passed}
use Rattle.reader.proofs.Tells.{same_tell}
use Rattle.runs.specs.declared.Ask.TheVariants.{Next, Rest}
use Rattle.runs.specs.declared.Mode.{Mode}
use Rattle.runs.specs.declared.Mode.TheVariants.{Template, Expression}
use Rattle.runs.specs.declared.Call.{Call}
use Rattle.runs.specs.declared.Reply.{Reply}
use Rattle.runs.specs.declared.Reply.TheVariants.{Told}
use Rattle.runs.specs.Calls.{Asked, calls_of, reply, behind_call, replies, served, LawfulCall, AllLawful}
use Rattle.runs.specs.Named.{Named}
use Rattle.runs.specs.Resting.{Run}
use Rattle.runs.specs.Runs.{state_of, Drives, Starts, Promises, Promised}
use Rattle.runs.specs.Whole.{Whole}
use Rattle.runs.proofs.Covered.{whole_run, named_run}
use Rattle.runs.proofs.Gaps.{WaitsAt}
use Rattle.runs.proofs.Naming.{named_verdict}
use Rattle.runs.proofs.Resting.{resting_runs}

module _ (os : List Opening) (apart_os : Apart os) (s : Config) where
  -- whichever lawful finder serves a call
  served_call : (v : View) (c : Asked) → LawfulCall os c → (reply s v c ≡ reply s v (served os c)) × (behind_call s v c ≡ behind_call s v (served os c))
  served_call v (Next ps) h = let e = same_tell ps os apart_os h s v in (ap (λ x. Told x.answer) e, ap (λ x. x.after) e)
  served_call v Rest h = (refl, refl)

  pub served_replies : (cs : List Asked) → AllLawful os cs → (v : View) → replies s v cs ≡ replies s v (map (served os) cs)
  unfolding replies
  served_replies [] h v = refl
  served_replies (c ∷ cs) h v =
      let e = served_call v c h.0 in
      ap (λ r. r ∷ replies s (behind_call s v c) cs) e.0
      ∙ ap (λ w. reply s v (served os c) ∷ replies s w cs) e.1
      ∙ ap (λ l. reply s v (served os c) ∷ l) (served_replies cs h.1 (behind_call s v (served os c)))

flat : (r : Run) → Starts r → level r.state ≡ 0
flat r h = ⊎_elim (λ e. ap level e) (λ e. ap level e) h.0

pub promised : (st : Settings) (r : Run) (rs : List Reply) → Starts r → AllLawful (openings_of st) r.calls → rs ≡ replies (config_of st) (unread (config_of st) r.state r.template) r.calls → Promises st r.state r.template r.calls rs
promised st r rs h l e =
    let os : List Opening = openings_of st in
    let s : Config = config_of st in
    let t : List ℕ = r.template in
    let z = flat r h in
    record {
      answers = e ∙ served_replies os (apart st) s r.calls l (unread s r.state t);
      whole = subst (Whole t) (sym e) (whole_run os s t (ended st) (apart st) h.1 r.state z r.calls l);
      named = subst (Named os s t) (sym e) (named_run os s t (λ i m w. WaitsAt os s (take (left_len s t) t) i w) (ended st) (apart st) h.1
          (λ i m w p a b k v. named_verdict os s (none_passed st) refl (ended st) t i m w false p a b k v) r.state z tt r.calls l);
      resting = λ q k. resting_runs os s (ended st) (apart st) r q z (flat q k) h.1 k.1;
    }

starting_in : (m : Mode) → (state_of m ≡ InTemplate) ⊎ (state_of m ≡ in_expression)
starting_in Template = inl refl
starting_in Expression = inr refl

-- a template that is opened is not too long
opened_small : (t : List ℕ) → Ok tt ≡ open_told max_len t → length t ≤ max_len
opened_small t e = grind (arith, e)

-- what the calls on a reader that was opened tell
pub promised_by : {F : Type 0} (openings : F → List Opening) (st : Settings) (m : Mode) (t : List ℕ) (cs ds : List (Call F)) (r : Reader) (c : Closed)
    → Ok tt ≡ open_told max_len t → Opened st (state_of m) t r → Drives (config r) (view_of r) openings cs ds → Promised st (state_of m) t (calls_of openings cs) ds (Ok c)
promised_by openings st m t cs ds r c n o e = λ l.
    let rs : List Reply = replies (config_of st) (unread (config_of st) (state_of m) t) (calls_of openings cs) in (
      rs,
      e.1 ∙ ap (λ s. map Some (replies (config_of s) (view_of r) (calls_of openings cs))) o.settings ∙ ap (λ v. map Some (replies (config_of st) v (calls_of openings cs))) o.view,
      promised st (record { state = state_of m; template = t; calls = calls_of openings cs }) rs (starting_in m, opened_small t n) l refl,
    )
