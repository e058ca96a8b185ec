-- What closing tells behind a run.
use Rattle.std.proofs.Common.{◌≡◌, ℕ, true, List, [], ◌∷◌, ◌++◌, length, take, drop, ℤ, pos, ◌+ℤ◌, Some, None, Ok, Err, Option, sym, refl, ap, ◌∙◌, subst, inl}
use lib.IntN.{+ℤ_idl, +ℤ_idr, +ℤ_assoc}
use Rattle.finder.specs.Finding.{Opening}
use Rattle.stream.specs.Told.{Ending}
use Rattle.places.specs.declared.Place.{Place}
use Rattle.places.specs.Places.{first_place, capped}
use Rattle.pieces.specs.declared.kind.Kind.TheVariants.{Cut}
use Rattle.pieces.specs.declared.piece.Piece.{Piece}
use Rattle.pieces.specs.declared.fault.ReadFault.{ReadFault}
use Rattle.syntax.specs.declared.settings.Settings.{Settings}
use Rattle.rules.specs.declared.LexerState.{LexerState}
use Rattle.rules.specs.declared.LexerState.TheVariants.{Template as InTemplate, Inside, Over}
use Rattle.rules.specs.declared.Pending.{Pending}
use Rattle.rules.specs.Bytes.{pushes}
use Rattle.rules.specs.Config.{Config, config_of}
use Rattle.rules.specs.Reading.{Part, Stop, Done, Failing, Gives, Stops, finish, act, balance_at}
use Rattle.rules.specs.State.{Core, Verdict}
use Rattle.rules.specs.Texts.{verdict}
use Rattle.rules.specs.Told.{ended}
use Rattle.reader.specs.declared.closing.Closed.{Closed}
use Rattle.reader.specs.declared.reader.Reader.{Reader}
use Rattle.reader.specs.Opens.{Opened}
use Rattle.reader.specs.Views.{View, told_as, tell_by, tell, view_of, config, unread}
use Rattle.reader.proofs.Tells.{told_before, told_now}
use Rattle.runs.specs.declared.Call.{Call}
use Rattle.runs.specs.declared.Mode.{Mode}
use Rattle.runs.specs.declared.Mode.TheVariants.{Template, Expression}
use Rattle.runs.specs.declared.Ask.TheVariants.{Next, Rest}
use Rattle.runs.specs.declared.Reply.{Reply}
use Rattle.runs.specs.declared.Reply.TheVariants.{Told}
use Rattle.runs.specs.Calls.{Asked, reply, behind_call, replies, behind_calls, calls_of}
use Rattle.runs.specs.Closed.{end_of_last, ending_in, told_ending, weight_of, weights, Closes, ClosedBehind}
use Rattle.runs.specs.Runs.{state_of, Drives, Shuts}
use Rattle.runs.specs.Whole.{piece_of, pieces_of}
use Rattle.runs.proofs.Balance.{Balanced, Weighs, verdict_weighs}

-- the first ending of two that may be told
abbrev first_of : Option (Ending ReadFault) → Option (Ending ReadFault) → Option (Ending ReadFault)
first_of o p = elim o [ Some e ↦ Some e | None ↦ p ]

first_assoc : (o p q : Option (Ending ReadFault)) → first_of o (first_of p q) ≡ first_of (first_of o p) q
first_assoc None p q = refl
first_assoc (Some e) p q = refl

first_none : (o : Option (Ending ReadFault)) → first_of o None ≡ o
first_none None = refl
first_none (Some e) = refl

end_append : (q : Place) (xs ys : List Piece) → end_of_last q (xs ++ ys) ≡ end_of_last (end_of_last q xs) ys
unfolding end_of_last
end_append q [] ys = refl
end_append q (x ∷ xs) ys = end_append x.span.end xs ys

weights_append : (xs ys : List Piece) → weights (xs ++ ys) ≡ weights xs +ℤ weights ys
unfolding weights
weights_append [] ys = sym (+ℤ_idl (weights ys))
weights_append (x ∷ xs) ys = ap (λ z. weight_of x.kind +ℤ z) (weights_append xs ys) ∙ sym (+ℤ_assoc (weight_of x.kind) (weights xs) (weights ys))

-- the balance at a view is what its state keeps of it
abbrev Sound : View → Type 0
Sound v = Balanced v.core.state v.core.pending v.core.ahead v.balance

-- from one view on a reply leads to another
record Leads (v : View) (r : Reply) (w : View) : Type 0 where
  end : end_of_last (capped v.place) (piece_of r) ≡ capped w.place
  ending : first_of v.told (ending_in r) ≡ w.told
  balance : v.balance +ℤ weights (piece_of r) ≡ w.balance
  sound : Sound w

gives : (v : View) (p : Part) (d : Core) → v.told ≡ None → balance_at v.balance d.state ≡ v.balance +ℤ weight_of p.kind → Balanced d.state d.pending d.ahead (balance_at v.balance d.state)
    → Leads v (Told (tell_by v (Gives p d)).answer) (tell_by v (Gives p d)).after
unfolding end_of_last weights
gives v p d h b k = record { end = refl; ending = ap (λ o. first_of o None) h; balance = ap (λ z. v.balance +ℤ z) (+ℤ_idr (weight_of p.kind)) ∙ sym b; sound = k }

stops : (v w : View) (e : Ending ReadFault) → w.place ≡ v.place → w.told ≡ Some e → w.balance ≡ v.balance → Sound w → first_of v.told (Some e) ≡ Some e → Leads v (Told (told_as e)) w
unfolding end_of_last weights
stops v w (Ok u) a b c k h = record { end = ap capped (sym a); ending = h ∙ sym b; balance = +ℤ_idr v.balance ∙ sym c; sound = k }
stops v w (Err f) a b c k h = record { end = ap capped (sym a); ending = h ∙ sym b; balance = +ℤ_idr v.balance ∙ sym c; sound = k }

ends : (v : View) (e : Stop) → v.told ≡ None → Sound v → Leads v (Told (tell_by v (Stops e)).answer) (tell_by v (Stops e)).after
ends v e h k = stops v (tell_by v (Stops e)).after (ended v.place e) refl refl refl k (ap (λ o. first_of o (Some (ended v.place e))) h)

-- where the state stays, so does the balance
stays : (m : LexerState) (w : Pending) (xs : List ℕ) (b : ℤ) → Balanced m w xs b → balance_at b m ≡ b
stays InTemplate w xs b h = refl
stays (Inside k a) w xs b h = sym h
stays Over w xs b h = refl

-- with nothing left the cut is told
finishes : (v : View) (xs : List ℕ) → v.told ≡ None → Sound v → Leads v (Told (tell_by v (finish v.core xs)).answer) (tell_by v (finish v.core xs)).after
finishes v [] h k = ends v Done h k
finishes v (x ∷ xs) h k =
    let c : Core = v.core in
    let e = stays c.state c.pending c.ahead v.balance k in
    gives v (record { kind = Cut; bytes = x ∷ xs; from = 0; to = length (x ∷ xs); value = None })
    (record { behind = pushes (x ∷ xs) c.behind; ahead = c.ahead; cut = []; state = c.state; pending = c.pending; cut_told = true })
    h
    (e ∙ sym (+ℤ_idr v.balance))
    (subst (Balanced c.state c.pending c.ahead) (sym e) k)

acts : (v : View) (x : Verdict) → Weighs v.core.ahead v.balance x → v.told ≡ None → Sound v → Leads v (Told (tell_by v (act v.core x)).answer) (tell_by v (act v.core x)).after
acts v (Ok (Some p)) g h k =
    let c : Core = v.core in
    gives v (record { kind = p.kind; bytes = take p.len c.ahead; from = p.from; to = p.to; value = p.value })
    (record { behind = pushes (take p.len c.ahead) c.behind; ahead = drop p.len c.ahead; cut = c.cut; state = p.state; pending = p.pending; cut_told = c.cut_told })
    h
    g.0
    g.1
acts v (Ok None) g h k = finishes v v.core.cut h k
acts v (Err f) g h k = ends v (Failing f.kind (take f.distance v.core.ahead)) h k

leads_so : (os : List Opening) (s : Config) (v : View) (o : Option (Ending ReadFault)) → v.told ≡ o → Sound v → Leads v (Told (tell os s v).answer) (tell os s v).after
leads_so os s v None h k =
    let c : Core = v.core in
    subst (λ x. Leads v (Told x.answer) x.after) (sym (told_now os s v h)) (acts v (verdict os s c) (verdict_weighs os s c.behind c.ahead c.state c.pending v.balance k) h k)
leads_so os s v (Some e) h k = subst (λ x. Leads v (Told x.answer) x.after) (sym (told_before os s v e h)) (stops v v e refl h refl k (ap (λ o. first_of o (Some e)) h))

leads : (s : Config) (v : View) (c : Asked) → Sound v → Leads v (reply s v c) (behind_call s v c)
unfolding end_of_last weights
leads s v (Next os) k = leads_so os s v v.told refl k
leads s v Rest k = record { end = refl; ending = first_none v.told; balance = +ℤ_idr v.balance; sound = k }

-- from one view on replies lead to another
pub record Lead (v : View) (rs : List Reply) (w : View) : Type 0 where
  pub end : end_of_last (capped v.place) (pieces_of rs) ≡ capped w.place
  pub ending : first_of v.told (told_ending rs) ≡ w.told
  pub balance : v.balance +ℤ weights (pieces_of rs) ≡ w.balance

pub lead : (s : Config) (cs : List Asked) (v : View) → Sound v → Lead v (replies s v cs) (behind_calls s v cs)
unfolding replies behind_calls pieces_of end_of_last told_ending weights
lead s [] v k = record { end = refl; ending = first_none v.told; balance = +ℤ_idr v.balance }
lead s (c ∷ cs) v k =
    let w : View = behind_call s v c in
    let r : Reply = reply s v c in
    let a = leads s v c k in
    let b = lead s cs w a.sound in
    record {
      end = end_append (capped v.place) (piece_of r) (pieces_of (replies s w cs)) ∙ ap (λ q. end_of_last q (pieces_of (replies s w cs))) a.end ∙ b.end;
      ending = first_assoc v.told (ending_in r) (told_ending (replies s w cs)) ∙ ap (λ o. first_of o (told_ending (replies s w cs))) a.ending ∙ b.ending;
      balance =
          ap (λ z. v.balance +ℤ z) (weights_append (piece_of r) (pieces_of (replies s w cs)))
          ∙ sym (+ℤ_assoc v.balance (weights (piece_of r)) (weights (pieces_of (replies s w cs))))
          ∙ ap (λ z. z +ℤ weights (pieces_of (replies s w cs))) a.balance
          ∙ b.balance;
    }

module _ (s : Config) (v w : View) (cs : List Asked) (c : Closed) where
  -- closing behind calls on a reader of which nothing is read
  closes_at : v.place ≡ first_place → v.told ≡ None → v.balance ≡ pos 0 → Sound v → w ≡ behind_calls s v cs → Shuts w c → Closes (replies s v cs) c
  closes_at p t b k e h =
      let rs : List Reply = replies s v cs in
      let a = lead s cs v k in
      record {
        end = h.0 ∙ ap (λ x. capped x.place) e ∙ sym a.end ∙ ap (λ q. end_of_last (capped q) (pieces_of rs)) p;
        ending = h.1 ∙ ap (λ x. x.told) e ∙ sym a.ending ∙ ap (λ o. first_of o (told_ending rs)) t;
        balance = h.2 ∙ ap (λ x. x.balance) e ∙ sym a.balance ∙ ap (λ z. z +ℤ weights (pieces_of rs)) b ∙ +ℤ_idl (weights (pieces_of rs));
      }

starts_sound : (s : Config) (m : Mode) (t : List ℕ) → Sound (unread s (state_of m) t)
starts_sound s Template t = inl refl
starts_sound s Expression t = refl

-- what closing tells of a reader that was opened, behind calls on it
pub closed_by : {F : Type 0} (openings : F → List Opening) (st : Settings) (m : Mode) (t : List ℕ) (cs ds : List (Call F)) (r q : Reader) (c : Closed)
    → Opened st (state_of m) t r → Drives (config r) (view_of r) openings cs ds → view_of q ≡ behind_calls (config r) (view_of r) (calls_of openings cs) → Shuts (view_of q) c → ClosedBehind ds (Ok c)
closed_by openings st m t cs ds r q c o d e h = (
  replies (config r) (view_of r) (calls_of openings cs),
  d.1,
  closes_at (config r) (view_of r) (view_of q) (calls_of openings cs) c (ap (λ v. v.place) o.view) (ap (λ v. v.told) o.view) (ap (λ v. v.balance) o.view) (subst Sound (sym o.view) (starts_sound (config_of st) m t)) e h,
)
