-- What a call does to a view of a reader at a place of a template.
use Rattle.std.proofs.Common.{◌≡◌, ℕ, ◌+◌, ◌-◌, ◌<◌, ◌≤◌, Bool, true, List, [], length, take, drop, ℤ, Some, None, Ok, Err, Option, sym, ap, ◌∙◌, subst, arith}
use Rattle.std.proofs.lemmas.List.{take-take}
use Rattle.finder.specs.Finding.{Opening}
use Rattle.stream.specs.Told.{Ending}
use Rattle.places.specs.Places.{beyond}
use Rattle.pieces.specs.declared.fault.FaultKind.{FaultKind}
use Rattle.pieces.specs.declared.fault.ReadFault.{ReadFault}
use Rattle.pieces.specs.declared.piece.Piece.{Piece as ToldPiece}
use Rattle.rules.specs.declared.LexerState.{LexerState}
use Rattle.rules.specs.declared.Pending.{Pending}
use Rattle.rules.specs.declared.Step.{Step}
use Rattle.rules.specs.State.{Verdict, fault}
use Rattle.rules.specs.At.{core_at, place_at, part_at, cut_part}
use Rattle.rules.specs.Bytes.{pushes, behind_at}
use Rattle.rules.specs.Config.{Config, Ended}
use Rattle.rules.specs.Reading.{act, balance_at}
use Rattle.rules.specs.Shapes.{held, least, Fits}
use Rattle.rules.specs.Texts.{verdict_by, verdict}
use Rattle.rules.specs.Told.{placed, fault_span}
use Rattle.rules.proofs.Outside.{verdict_fits}
use Rattle.rules.proofs.Whole.{ahead_length, place_on, place_end, act_piece, act_end, act_cut, act_fault, fine_at}
use Rattle.reader.specs.Views.{View, told_as, tell_by}

module _ (t : List ℕ) (n i : ℕ) (m : LexerState) (w : Pending) (e : Bool) (b : ℤ) (o : Option (Ending ReadFault)) where
  abbrev pub view_at : View
  view_at = record { core = core_at t n i m w e; place = place_at t i; balance = b; told = o }

  pub piece_answer : (s : Step) (r : ToldPiece) → i + s.len ≤ n → r ≡ placed (place_at t i) (part_at t i s) → Ok (Some r) ≡ (tell_by view_at (act (core_at t n i m w e) (Ok (Some s)))).answer
  piece_answer s r h q = ap (λ x. Ok (Some x)) q ∙ sym (ap (λ x. (tell_by view_at x).answer) (act_piece t n i m w e s h))

  pub piece_after : (s : Step) (v : View) → i + s.len ≤ n → o ≡ None
      → v ≡ record { core = core_at t n (i + s.len) s.state s.pending e; place = place_at t (i + s.len); balance = balance_at b s.state; told = o }
      → v ≡ (tell_by view_at (act (core_at t n i m w e) (Ok (Some s)))).after
  piece_after s v h u q =
      q
      ∙ ap (λ x. record { core = core_at t n (i + s.len) s.state s.pending e; place = place_at t (i + s.len); balance = balance_at b s.state; told = x }) u
      ∙ ap (λ x. record { core = core_at t n (i + s.len) s.state s.pending e; place = x; balance = balance_at b s.state; told = None }) (sym (place_on t i s.len))
      ∙ sym (ap (λ x. (tell_by view_at x).after) (act_piece t n i m w e s h))

  pub cut_answer : (r : ToldPiece) → i ≡ n → n < length t → r ≡ placed (place_at t i) (cut_part t n) → Ok (Some r) ≡ (tell_by view_at (act (core_at t n i m w e) (Ok None))).answer
  cut_answer r h k q = ap (λ x. Ok (Some x)) q ∙ sym (ap (λ x. (tell_by view_at x).answer) (act_cut t n i m w e h k))

  pub cut_after : (v : View) → i ≡ n → n < length t → o ≡ None → balance_at b m ≡ b
      → v ≡ record { core = core_at t (length t) (length t) m w true; place = place_at t (length t); balance = b; told = o }
      → v ≡ (tell_by view_at (act (core_at t n i m w e) (Ok None))).after
  cut_after v h k u p q =
      q
      ∙ ap (λ x. record { core = core_at t (length t) (length t) m w true; place = place_at t (length t); balance = b; told = x }) u
      ∙ ap (λ x. record { core = core_at t (length t) (length t) m w true; place = x; balance = b; told = None }) (sym (place_end t n i h (omega arith)))
      ∙ ap (λ x. record { core = core_at t (length t) (length t) m w true; place = beyond (drop n t) (place_at t i); balance = x; told = None }) (sym p)
      ∙ sym (ap (λ x. (tell_by view_at x).after) (act_cut t n i m w e h k))

  pub end_answer : n ≡ length t → Ok None ≡ (tell_by view_at (act (core_at t n i m w e) (Ok None))).answer
  end_answer h = sym (ap (λ x. (tell_by view_at x).answer) (act_end t n i m w e h))

  pub end_after : (v : View) → n ≡ length t → v ≡ record { core = core_at t n i m w e; place = place_at t i; balance = b; told = Some (Ok tt) } → v ≡ (tell_by view_at (act (core_at t n i m w e) (Ok None))).after
  end_after v h q = q ∙ sym (ap (λ x. (tell_by view_at x).after) (act_end t n i m w e h))

  fault_told : (k : FaultKind) (d : ℕ) (f : ReadFault) → f ≡ record { kind = k; span = fault_span k (place_at t i) (place_at t (i + d)) } → ◌≡◌ {A = Ending ReadFault} (Err f) (Err (record { kind = k; span = fault_span k (place_at t i) (beyond (take d (drop i t)) (place_at t i)) }))
  fault_told k d f q = ap Err q ∙ ap (λ x. Err (record { kind = k; span = fault_span k (place_at t i) x })) (sym (place_on t i d))

  pub fault_answer : (k : FaultKind) (d : ℕ) (f : ReadFault) → i + d ≤ n → f ≡ record { kind = k; span = fault_span k (place_at t i) (place_at t (i + d)) } → Err f ≡ (tell_by view_at (act (core_at t n i m w e) (fault k d))).answer
  fault_answer k d f h q = ap told_as (fault_told k d f q) ∙ sym (ap (λ x. (tell_by view_at x).answer) (act_fault t n i m w e k d h))

  pub fault_after : (k : FaultKind) (d : ℕ) (f : ReadFault) (v : View) → i + d ≤ n → f ≡ record { kind = k; span = fault_span k (place_at t i) (place_at t (i + d)) }
      → v ≡ record { core = core_at t n i m w e; place = place_at t i; balance = b; told = Some (Err f) } → v ≡ (tell_by view_at (act (core_at t n i m w e) (fault k d))).after
  fault_after k d f v h q g =
      g ∙ ap (λ x. record { core = core_at t n i m w e; place = place_at t i; balance = b; told = Some x }) (fault_told k d f q) ∙ sym (ap (λ x. (tell_by view_at x).after) (act_fault t n i m w e k d h))

-- nothing is ahead where the rules say so
pub at_end : (n i : ℕ) (m : LexerState) (w : Pending) (v : Verdict) → v ≡ Ok None → Fits (n - i) m w v → i ≤ n → i ≡ n
at_end n i m w v e f h = let z : n - i ≡ 0 = subst (λ x. Fits (n - i) m w x) e f in omega arith

-- what is behind a place of what is left is what is behind it in the template
pub behind_left : (t : List ℕ) (n i : ℕ) → i ≤ n → behind_at (take n t) i ≡ behind_at t i
behind_left t n i h = ap (λ l. pushes l []) (take-take i n t h)

-- a verdict of the code is that of the rules, and fits
pub ruled_at : (os : List Opening) (s : Config) (t u : List ℕ) (n i : ℕ) (m : LexerState) (w : Pending) (e : Bool) (v : Verdict) → u ≡ take n t → i ≤ n → v ≡ verdict_by os s (behind_at u i) (drop i u) m w → v ≡ verdict os s (core_at t n i m w e)
ruled_at os s t u n i m w e v a h q = q ∙ ap (λ l. verdict_by os s (behind_at l i) (drop i l) m w) a ∙ ap (λ l. verdict_by os s l (drop i (take n t)) m w) (behind_left t n i h)

pub fits_at : (os : List Opening) (s : Config) → Ended s → (t : List ℕ) (n i : ℕ) (m : LexerState) (w : Pending) (e : Bool) → n ≤ length t → i + held w ≤ n → 0 < least w → (v : Verdict) → v ≡ verdict os s (core_at t n i m w e) → Fits (n - i) m w v
fits_at os s ends t n i m w e within inside lively v q =
    subst (λ l. Fits l m w v) (ahead_length t n i within) (subst (λ x. Fits (length (drop i (take n t))) m w x) (sym q) (verdict_fits s os ends (core_at t n i m w e) (fine_at t n i m w e within inside lively)))
