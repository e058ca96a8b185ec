-- Where a run of calls leaves a reader, and what lies along it.
use Rattle.std.proofs.Common.{◌≡◌, ℕ, zero, suc, ◌+◌, ◌-◌, ◌<◌, ◌≤◌, Bool, true, false, eqb, List, [], ◌∷◌, ◌++◌, length, take, drop, Some, None, Ok, Err, Option, sym, refl, ap, ◌∙◌, subst, ⊎_elim, arith}
use Rattle.std.proofs.lemmas.List.{length-take, length-drop, drop_all}
use Rattle.std.proofs.lemmas.Bool.{cases_lt}
use Rattle.finder.specs.Finding.{Opening}
use Rattle.stream.specs.Told.{Ending}
use Rattle.places.specs.declared.Place.{Place}
use Rattle.places.specs.Places.{beyond}
use Rattle.pieces.specs.declared.kind.Kind.{Kind}
use Rattle.pieces.specs.declared.kind.Kind.TheVariants.{Cut}
use Rattle.pieces.specs.declared.piece.Piece.{Piece}
use Rattle.pieces.specs.declared.fault.ReadFault.{ReadFault}
use Rattle.rules.specs.declared.LexerState.{LexerState}
use Rattle.rules.specs.declared.LexerState.TheVariants.{Template, Inside, Over}
use Rattle.rules.specs.declared.Pending.{Pending}
use Rattle.rules.specs.declared.Pending.TheVariants.{Nothing, Trim, Tail, Marker, RawBody, RawClose}
use Rattle.rules.specs.declared.Step.{Step}
use Rattle.rules.specs.At.{core_at, place_at, part_at, cut_part}
use Rattle.rules.specs.Bytes.{behind_at}
use Rattle.rules.specs.Config.{Config, Ended, white}
use Rattle.rules.specs.Reading.{Part, act, call, left_len, chop}
use Rattle.rules.specs.Shapes.{held, least, level, Fits}
use Rattle.rules.specs.State.{Verdict}
use Rattle.rules.specs.Tags.{tag_verdict}
use Rattle.rules.specs.Texts.{Same, verdict_by, verdict, text, trimmed, text_verdict, find_closer}
use Rattle.rules.specs.Told.{placed, span}
use Rattle.rules.proofs.Lawful.{Apart}
use Rattle.rules.proofs.Whole.{place_on, place_offset, place_end, act_piece, act_end, act_cut}
use Rattle.spaces.specs.Runs.{white_run}
use Rattle.reader.specs.Views.{View, Told as Tells, told_as, tell_by, tell, unread}
use Rattle.reader.proofs.Acts.{at_end, fits_at}
use Rattle.reader.proofs.Starts.{start_view}
use Rattle.reader.proofs.Tells.{told_before, told_now, same_tell}
use Rattle.runs.specs.declared.Reply.TheVariants.{Told}
use Rattle.runs.specs.declared.Ask.TheVariants.{Next, Rest}
use Rattle.runs.specs.Calls.{Asked, reply, behind_call, replies, behind_calls, LawfulCall, AllLawful}
use Rattle.runs.specs.Whole.{piece_of, pieces_of, Spans, Along}

-- how many bytes are left: those before the cut, and once it is told all
abbrev pub left_now : Config → List ℕ → Bool → ℕ
left_now s t false = left_len s t
left_now s t true = length t

-- with nothing ahead it does not matter what is behind
trimmed_alike : (os : List Opening) (s : Config) (b c : List ℕ) (n : ℕ) → trimmed os s b [] n ≡ trimmed os s c [] n
unfolding text
trimmed_alike os s b c zero = refl
trimmed_alike os s b c (suc n) = refl

pub none_alike : (os : List Opening) (s : Config) (b c : List ℕ) (m : LexerState) (w : Pending) → verdict_by os s b [] m w ≡ verdict_by os s c [] m w
unfolding text_verdict text tag_verdict find_closer Rattle.rules.specs.Texts.raw_body
none_alike os s b c Template Nothing = refl
none_alike os s b c Template Trim = trimmed_alike os s b c (white_run (white s) [])
none_alike os s b c Template (Tail n) = refl
none_alike os s b c Template (Marker m g n) = refl
none_alike os s b c Template (RawBody g) = refl
none_alike os s b c Template (RawClose n g) = refl
none_alike os s b c (Inside k d) w = refl
none_alike os s b c Over w = refl

-- what is left is no more than the template
chop_shorter : (b : ℕ) (xs : List ℕ) → length (chop b xs) ≤ length xs
unfolding chop
chop_shorter b [] = omega arith
chop_shorter b (x ∷ []) = elim (eqb x b) as (λ r. length (elim r as (λ _. List ℕ) [ true ↦ [] | false ↦ x ∷ [] ]) ≤ length (x ∷ [])) [ true ↦ omega arith | false ↦ omega arith ]
chop_shorter b (x ∷ (y ∷ ys)) = omega (arith, chop_shorter b (y ∷ ys))

pub left_le : (s : Config) (t : List ℕ) → left_len s t ≤ length t
left_le s t =
    let a = chop_shorter 10 t in
    let b = chop_shorter 13 (chop 10 t) in
    elim s.keep_trailing as (λ k. elim k [ true ↦ length t | false ↦ length (chop 13 (chop 10 t)) ] ≤ length t) [ true ↦ omega arith | false ↦ omega arith ]

pub now_le : (s : Config) (t : List ℕ) (e : Bool) → left_now s t e ≤ length t
now_le s t false = left_le s t
now_le s t true = omega arith

-- what a place, a state and what waits keep between them, and what each piece is
module _ (os : List Opening) (s : Config) (t : List ℕ) (Keep : ℕ → LexerState → Pending → Type 0) (Is : ℕ → ℕ → Kind → Option ℕ → Type 0) where
  -- until the cut is told this is kept; from then on nothing comes
  abbrev pub Phase : Bool → ℕ → LexerState → Pending → Type 0
  Phase false i m w = Keep i m w
  Phase true i m w = (i ≡ length t) × (verdict os s (core_at t (length t) i m w true) ≡ Ok None)

  -- a view that a run can reach
  pub record Reached (v : View) : Type 0 where
    pub at : ℕ
    pub state : LexerState
    pub pending : Pending
    pub cut_told : Bool
    pub core : v.core ≡ core_at t (left_now s t cut_told) at state pending cut_told
    pub place : v.place ≡ place_at t at
    pub inside : at + held pending ≤ left_now s t cut_told
    pub lively : 0 < least pending
    pub shallow : level state ≤ at
    pub phase : Phase cut_told at state pending
    pub finished : v.told ≡ Some (Ok tt) → at ≡ length t

  -- each piece spans its bytes, and is what is said of it
  abbrev pub Lies : ℕ → ℕ → Piece → Type 0
  Lies i k p = Spans t i k p × Is i k p.kind p.value

  -- each verdict keeps what is kept, and its piece is what is said of it
  abbrev pub Kept : Type 0
  Kept = (i : ℕ) (m : LexerState) (w : Pending) (p : Step) → i + held w ≤ left_len s t → 0 < least w → Keep i m w → verdict os s (core_at t (left_len s t) i m w false) ≡ Ok (Some p)
      → Is i (i + p.len) p.kind p.value × Keep (i + p.len) p.state p.pending

  -- what a call tells from a place on
  abbrev Comes : ℕ → Tells → Type 0
  Comes i x = (r : Reached x.after) × Along Lies i (piece_of (Told x.answer)) r.at

  not_finished : {A : Type 0} → ◌≡◌ {A = Option (Ending ReadFault)} None (Some (Ok tt)) → A
  not_finished e = absurd (let z : ◌≡◌ {A = ℕ} 0 1 = cc in omega arith)

  not_failed : (f : ReadFault) {A : Type 0} → ◌≡◌ {A = Option (Ending ReadFault)} (Some (Err f)) (Some (Ok tt)) → A
  not_failed f e = absurd (let z : ◌≡◌ {A = ℕ} 0 1 = cc in omega arith)

  one_piece : (i k : ℕ) (p : Piece) → i ≤ k → Lies i k p → Along Lies i (p ∷ []) k
  unfolding Along
  one_piece i k p h l = (k, h, l, refl)

  no_piece : (i : ℕ) → Along Lies i [] i
  unfolding Along
  no_piece i = refl

  -- a piece is told from the place where it begins to that where it ends
  placed_spans : length t ≤ 16777216 → (i k : ℕ) (q : Place) (x : Part) → q ≡ place_at t i → beyond x.bytes (place_at t i) ≡ place_at t k → x.from ≤ x.to → i + x.to ≤ k → k ≤ length t → Spans t i k (placed q x)
  placed_spans small i k q x a b f g h =
      let o : q.offset ≡ i = ap (λ p. p.offset) a ∙ place_offset t i (omega arith) in
      (ap (λ p. span p (beyond x.bytes p)) a ∙ ap (λ p. span (place_at t i) p) b, omega arith, omega arith, omega arith)

  end_alike : (i n : ℕ) (m : LexerState) (w : Pending) → i ≡ n → verdict os s (core_at t n i m w false) ≡ Ok None → verdict os s (core_at t (length t) (length t) m w true) ≡ Ok None
  end_alike i n m w h q =
      let a : drop i (take n t) ≡ [] = let l = length-take n t in drop_all i (take n t) (omega arith) in
      let b : drop (length t) (take (length t) t) ≡ [] = let l = length-take (length t) t in drop_all (length t) (take (length t) t) (omega arith) in
      ap (λ l. verdict_by os s (behind_at t (length t)) l m w) b ∙ none_alike os s (behind_at t (length t)) (behind_at t i) m w ∙ ap (λ l. verdict_by os s (behind_at t i) l m w) (sym a) ∙ q

  module _ (ends : Ended s) (small : length t ≤ 16777216) (kept : Kept) (cut : left_len s t < length t → Is (left_len s t) (length t) Cut None) where
    before_cut : (i : ℕ) (m : LexerState) (w : Pending) (v : View) → v.place ≡ place_at t i → v.core ≡ core_at t (left_len s t) i m w false
        → i + held w ≤ left_len s t → 0 < least w → level m ≤ i → Keep i m w
        → (x : Verdict) → verdict os s (core_at t (left_len s t) i m w false) ≡ x → Fits (left_len s t - i) m w x → Comes i (tell_by v (act (core_at t (left_len s t) i m w false) x))
    before_cut i m w v pl co inside lively shallow keep (Ok (Some p)) q f =
        let n : ℕ = left_len s t in
        let l = left_le s t in
        let a = f.ahead in
        let o = f.ordered in
        let j = f.inside in
        let b = f.level in
        let h : i + p.len ≤ n = omega arith in
        let k = kept i m w p inside lively keep q in
        subst (λ y. Comes i (tell_by v y)) (sym (act_piece t n i m w false p h)) (
          record {
            at = i + p.len;
            state = p.state;
            pending = p.pending;
            cut_told = false;
            core = refl;
            place = ap (beyond (take p.len (drop i t))) pl ∙ place_on t i p.len;
            inside = omega arith;
            lively = f.lively;
            shallow = omega arith;
            phase = k.1;
            finished = λ e. not_finished e;
          },
          one_piece i (i + p.len) (placed v.place (part_at t i p)) (omega arith) (placed_spans small i (i + p.len) v.place (part_at t i p) pl (place_on t i p.len) o (omega arith) (omega arith), k.0),
        )
    before_cut i m w v pl co inside lively shallow keep (Ok None) q f =
        let n : ℕ = left_len s t in
        let l = left_le s t in
        let h : i ≡ n = at_end n i m w (Ok None) refl f (omega arith) in
        ⊎_elim
        (λ k.
        subst (λ y. Comes i (tell_by v y)) (sym (act_cut t n i m w false h k)) (
          record {
            at = length t;
            state = m;
            pending = w;
            cut_told = true;
            core = refl;
            place = ap (beyond (drop n t)) pl ∙ place_end t n i h l;
            inside = omega arith;
            lively = lively;
            shallow = omega arith;
            phase = (refl, end_alike i n m w h q);
            finished = λ e. not_finished e;
          },
          one_piece i (length t) (placed v.place (cut_part t n)) (omega arith) (
            placed_spans small i (length t) v.place (cut_part t n) pl (place_end t n i h l) (omega arith) (let d = length-drop n t in omega arith) (omega arith),
            subst (λ x. Is x (length t) Cut None) (sym h) (cut k),
          ),
        ))
        (λ k.
        let z : n ≡ length t = omega arith in
        subst (λ y. Comes i (tell_by v y)) (sym (act_end t n i m w false z)) (
          record {
            at = i;
            state = m;
            pending = w;
            cut_told = false;
            core = co;
            place = pl;
            inside = inside;
            lively = lively;
            shallow = shallow;
            phase = keep;
            finished = λ e. h ∙ z;
          },
          no_piece i,
        ))
        (cases_lt n (length t))
    before_cut i m w v pl co inside lively shallow keep (Err g) q f = (
      record {
        at = i;
        state = m;
        pending = w;
        cut_told = false;
        core = co;
        place = pl;
        inside = inside;
        lively = lively;
        shallow = shallow;
        phase = keep;
        finished = λ e. not_failed _ e;
      },
      no_piece i,
    )

    after_cut : (i : ℕ) (m : LexerState) (w : Pending) (v : View) → v.place ≡ place_at t i → v.core ≡ core_at t (length t) i m w true
        → i + held w ≤ length t → 0 < least w → level m ≤ i → Phase true i m w → Comes i (tell_by v (act (core_at t (length t) i m w true) (Ok None)))
    after_cut i m w v pl co inside lively shallow ph =
        subst (λ y. Comes i (tell_by v y)) (sym (act_end t (length t) i m w true refl)) (
          record {
            at = i;
            state = m;
            pending = w;
            cut_told = true;
            core = co;
            place = pl;
            inside = inside;
            lively = lively;
            shallow = shallow;
            phase = ph;
            finished = λ e. ph.0;
          },
          no_piece i,
        )

    -- where no ending was told the rules decide
    ruled : (e : Bool) (i : ℕ) (m : LexerState) (w : Pending) (v : View) → v.place ≡ place_at t i → v.core ≡ core_at t (left_now s t e) i m w e
        → i + held w ≤ left_now s t e → 0 < least w → level m ≤ i → Phase e i m w → Comes i (tell_by v (act (core_at t (left_now s t e) i m w e) (verdict os s (core_at t (left_now s t e) i m w e))))
    ruled false i m w v pl co inside lively shallow keep =
        before_cut i m w v pl co inside lively shallow keep (verdict os s (core_at t (left_len s t) i m w false)) refl (fits_at os s ends t (left_len s t) i m w false (left_le s t) inside lively (verdict os s (core_at t (left_len s t) i m w false)) refl)
    ruled true i m w v pl co inside lively shallow ph =
        subst (λ x. Comes i (tell_by v (act (core_at t (length t) i m w true) x))) (sym ph.1) (after_cut i m w v pl co inside lively shallow ph)

    told_again : (v : View) (r : Reached v) (e : Ending ReadFault) → Comes r.at (record { answer = told_as e; after = v })
    told_again v r (Ok u) = (r, no_piece r.at)
    told_again v r (Err f) = (r, no_piece r.at)

    told_by : (v : View) (r : Reached v) (o : Option (Ending ReadFault)) → v.told ≡ o → Comes r.at (tell os s v)
    told_by v r None e =
        subst (Comes r.at) (sym (told_now os s v e ∙ ap (λ c. tell_by v (call os s c)) r.core)) (ruled r.cut_told r.at r.state r.pending v r.place r.core r.inside r.lively r.shallow r.phase)
    told_by v r (Some x) e = subst (Comes r.at) (sym (told_before os s v x e)) (told_again v r x)

    pub along_call : Apart os → (c : Asked) → LawfulCall os c → (v : View) (r : Reached v) → (q : Reached (behind_call s v c)) × Along Lies r.at (piece_of (reply s v c)) q.at
    along_call apart (Next ps) h v r = subst (Comes r.at) (sym (same_tell ps os apart h s v)) (told_by v r v.told refl)
    along_call apart Rest h v r = (r, no_piece r.at)

    along_append : (i j k : ℕ) (xs ys : List Piece) → Along Lies i xs j → Along Lies j ys k → Along Lies i (xs ++ ys) k
    unfolding Along
    along_append i j k [] ys a b = subst (λ x. Along Lies x ys k) (sym a) b
    along_append i j k (x ∷ xs) ys a b = (a.0, a.1, a.2, along_append a.0 j k xs ys a.3 b)

    -- any calls lead on to such a view, and their pieces lie between
    pub along_calls : Apart os → (cs : List Asked) → AllLawful os cs → (v : View) (r : Reached v) → (q : Reached (behind_calls s v cs)) × Along Lies r.at (pieces_of (replies s v cs)) q.at
    unfolding replies behind_calls pieces_of
    along_calls apart [] h v r = (r, no_piece r.at)
    along_calls apart (c ∷ cs) h v r =
        let a = along_call apart c h.0 v r in
        let b = along_calls apart cs h.1 (behind_call s v c) a.0 in
        (b.0, along_append r.at a.0.at b.0.at (piece_of (reply s v c)) (pieces_of (replies s (behind_call s v c) cs)) a.1 b.1)

  -- where a reading starts
  pub started : (m : LexerState) → level m ≡ 0 → Keep 0 m Nothing → Reached (unread s m t)
  started m h k = record {
    at = 0;
    state = m;
    pending = Nothing;
    cut_told = false;
    core = ap (λ v. v.core) (sym (start_view s m t (left_len s t) refl));
    place = ap (λ v. v.place) (sym (start_view s m t (left_len s t) refl));
    inside = omega arith;
    lively = omega arith;
    shallow = omega arith;
    phase = k;
    finished = λ e. not_finished e;
  }

  -- any predicate that the start has and that each verdict keeps holds along a run, and its pieces are what the verdicts say of them
  pub along_run : Ended s → length t ≤ 16777216 → Apart os → Kept → (left_len s t < length t → Is (left_len s t) (length t) Cut None) → (m : LexerState) → level m ≡ 0 → Keep 0 m Nothing
      → (cs : List Asked) → AllLawful os cs → (q : Reached (behind_calls s (unread s m t) cs)) × Along Lies 0 (pieces_of (replies s (unread s m t) cs)) q.at
  unfolding started
  along_run ends small apart kept cut m h k cs l = along_calls ends small kept cut apart cs l (unread s m t) (started m h k)
