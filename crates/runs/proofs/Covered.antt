-- Nothing lost, doubled or invented.
use Rattle.std.proofs.Common.{◌≡◌, ℕ, ◌≤◌, true, false, ◌||◌, List, [], ◌∷◌, length, Some, None, Ok, Err, Option, sym, refl, ap, ◌∙◌, inl, ⊎_elim, arith}
use Rattle.std.specs.List.{list_any}
use Rattle.std.proofs.lemmas.Bool.{cases_Bool, both_ways}
use Rattle.finder.specs.Finding.{Opening}
use Rattle.stream.specs.Told.{Ending}
use Rattle.pieces.specs.declared.kind.Kind.{Kind}
use Rattle.pieces.specs.declared.piece.Piece.{Piece}
use Rattle.pieces.specs.declared.fault.ReadFault.{ReadFault}
use Rattle.rules.specs.declared.LexerState.{LexerState}
use Rattle.rules.specs.declared.Pending.{Pending}
use Rattle.rules.specs.declared.Pending.TheVariants.{Nothing}
use Rattle.rules.specs.Config.{Config, Ended}
use Rattle.rules.specs.Reading.{Outcome, Gives, Stops, call}
use Rattle.rules.specs.Shapes.{level}
use Rattle.rules.specs.Told.{ended}
use Rattle.rules.proofs.Lawful.{Apart}
use Rattle.reader.specs.Views.{View, told_as, tell_by, tell, unread}
use Rattle.reader.proofs.Tells.{told_before, told_now}
use Rattle.runs.specs.declared.Reply.TheVariants.{Told}
use Rattle.runs.specs.declared.Ask.TheVariants.{Next, Rest}
use Rattle.runs.specs.Calls.{Asked, replies, behind_calls, AllLawful}
use Rattle.runs.specs.Named.{IsPiece, Named}
use Rattle.runs.specs.Whole.{pieces_of, finishes, Spans, Along, Whole}
use Rattle.runs.proofs.Reached.{now_le, Reached, Lies, Kept, along_run}

-- an ending that was told stays
pub stays_told : (s : Config) (cs : List Asked) (v : View) (e : Ending ReadFault) → v.told ≡ Some e → (behind_calls s v cs).told ≡ Some e
unfolding behind_calls
stays_told s [] v e h = h
stays_told s (Next os ∷ cs) v e h = stays_told s cs (tell os s v).after e (ap (λ x. x.after.told) (told_before os s v e h) ∙ h)
stays_told s (Rest ∷ cs) v e h = stays_told s cs v e h

finish_told : (e : Ending ReadFault) → finishes (Told (told_as e)) ≡ true → e ≡ Ok tt
finish_told (Ok u) h = refl
finish_told (Err f) h = absurd (both_ways false refl h)

finish_by : (v : View) (x : Outcome) → finishes (Told (tell_by v x).answer) ≡ true → (tell_by v x).after.told ≡ Some (Ok tt)
finish_by v (Gives p d) h = absurd (both_ways false refl h)
finish_by v (Stops e) h = ap Some (finish_told (ended v.place e) h)

finish_so : (os : List Opening) (s : Config) (v : View) (o : Option (Ending ReadFault)) → v.told ≡ o → finishes (Told (tell os s v).answer) ≡ true → (tell os s v).after.told ≡ Some (Ok tt)
finish_so os s v None e h =
    let q = told_now os s v e in
    ap (λ x. x.after.told) q ∙ finish_by v (call os s v.core) (sym (ap (λ x. finishes (Told x.answer)) q) ∙ h)
finish_so os s v (Some x) e h =
    let q = told_before os s v x e in
    ap (λ y. y.after.told) q ∙ e ∙ ap Some (finish_told x (sym (ap (λ y. finishes (Told y.answer)) q) ∙ h))

-- once it is told that the reading is finished it stays so
pub stays_finished : (s : Config) (cs : List Asked) (v : View) → list_any finishes (replies s v cs) ≡ true → (behind_calls s v cs).told ≡ Some (Ok tt)
unfolding replies behind_calls
stays_finished s [] v h = absurd (both_ways false refl h)
stays_finished s (Next os ∷ cs) v h = ⊎_elim
    (λ e. stays_told s cs (tell os s v).after (Ok tt) (finish_so os s v v.told refl e))
    (λ e. stays_finished s cs (tell os s v).after (sym (ap (λ b. b || list_any finishes (replies s (tell os s v).after cs)) e) ∙ h))
    (cases_Bool (finishes (Told (tell os s v).answer)))
stays_finished s (Rest ∷ cs) v h = stays_finished s cs v h

-- nothing is asked of a state or a piece
abbrev pub Any : ℕ → LexerState → Pending → Type 0
Any i m w = Unit {0}

abbrev pub AnyKind : ℕ → ℕ → Kind → Option ℕ → Type 0
AnyKind i k c o = Unit {0}

module _ (t : List ℕ) (P Q : ℕ → ℕ → Piece → Type 0) (f : (i k : ℕ) (p : Piece) → P i k p → Q i k p) where
  pub along_map : (i j : ℕ) (ps : List Piece) → Along P i ps j → Along Q i ps j
  unfolding Along
  along_map i j [] a = a
  along_map i j (p ∷ ps) a = (a.0, a.1, f i a.0 p a.2, along_map a.0 j ps a.3)

-- where any calls leave a reader of a template
pub reached_run : (os : List Opening) (s : Config) (t : List ℕ) → Ended s → Apart os → length t ≤ 16777216 → (m : LexerState) → level m ≡ 0
    → (cs : List Asked) → AllLawful os cs → Reached os s t Any AnyKind (behind_calls s (unread s m t) cs)
reached_run os s t ends apart small m h cs l = (along_run os s t Any AnyKind ends small apart (λ i m w p b c d e. (tt, tt)) (λ c. tt) m h tt cs l).0

-- any run tells the template, piece by piece
pub whole_run : (os : List Opening) (s : Config) (t : List ℕ) → Ended s → Apart os → length t ≤ 16777216 → (m : LexerState) → level m ≡ 0
    → (cs : List Asked) → AllLawful os cs → Whole t (replies s (unread s m t) cs)
whole_run os s t ends apart small m h cs l =
    let a = along_run os s t Any AnyKind ends small apart (λ i m w p b c d e. (tt, tt)) (λ c. tt) m h tt cs l in
    let q = a.0 in
    let n = now_le s t q.cut_told in
    let b = q.inside in
    (q.at, omega arith, along_map t (Lies os s t Any AnyKind) (Spans t) (λ i k p x. x.0) 0 q.at (pieces_of (replies s (unread s m t) cs)) a.1, λ e. q.finished (stays_finished s cs (unread s m t) e))

-- where each verdict's piece is what its kind says and has its value, so are all pieces of a run
pub named_run : (os : List Opening) (s : Config) (t : List ℕ) (Keep : ℕ → LexerState → Pending → Type 0) → Ended s → Apart os → length t ≤ 16777216 → Kept os s t Keep (IsPiece os s t)
    → (m : LexerState) → level m ≡ 0 → Keep 0 m Nothing → (cs : List Asked) → AllLawful os cs → Named os s t (replies s (unread s m t) cs)
named_run os s t Keep ends apart small kept m h k cs l =
    let a = along_run os s t Keep (IsPiece os s t) ends small apart kept (λ c. ((refl, refl), refl, inl c)) m h k cs l in
    (a.0.at, a.1)
