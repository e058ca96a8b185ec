-- Nothing is misnamed: what a verdict tells, and what waits behind it.
use Rattle.std.proofs.Common.{◌≡◌, ℕ, ◌+◌, ◌<◌, ◌≤◌, Bool, List, [], ◌∷◌, take, drop, Some, Ok, sym, refl, subst, arith}
use Rattle.finder.specs.Finding.{Opening}
use Rattle.spaces.specs.Spaces.{white_space}
use Rattle.pieces.specs.declared.kind.Kind.TheVariants.{Cut}
use Rattle.rules.specs.declared.LexerState.{LexerState}
use Rattle.rules.specs.declared.LexerState.TheVariants.{Template, Inside, Over}
use Rattle.rules.specs.declared.Pending.{Pending}
use Rattle.rules.specs.declared.Step.{Step}
use Rattle.rules.specs.At.{core_at}
use Rattle.rules.specs.Bytes.{behind_at}
use Rattle.rules.specs.Config.{Config, Ended}
use Rattle.rules.specs.Reading.{left_len, rank}
use Rattle.rules.specs.Shapes.{held, least}
use Rattle.rules.specs.Texts.{AllReal, over_verdict, verdict_by, verdict}
use Rattle.reader.proofs.Acts.{fits_at}
use Rattle.runs.specs.Named.{IsPiece}
use Rattle.runs.proofs.Fills.{Firm, firm, has_bytes}
use Rattle.runs.proofs.Gaps.{WaitsAt, NotCut, Holds}
use Rattle.runs.proofs.Reached.{left_le}
use Rattle.runs.proofs.Tags.{tag_holds}
use Rattle.runs.proofs.Texts.{waiting_holds}

module _ (os : List Opening) (s : Config) (real : AllReal os) (spaces : s.spaces ≡ white_space) where
  over_holds : (t : List ℕ) (i : ℕ) (xs : List ℕ) → Holds os s t i (over_verdict xs)
  over_holds t i [] = tt
  over_holds t i (x ∷ xs) = tt

  by_holds : (t : List ℕ) (i : ℕ) (m : LexerState) (w : Pending) → i + held w ≤ left_len s t → WaitsAt os s (take (left_len s t) t) i w → Holds os s t i (verdict_by os s (behind_at t i) (drop i (take (left_len s t) t)) m w)
  by_holds t i Template w h g = waiting_holds os s t i real spaces w h g
  by_holds t i (Inside k b) w h g = tag_holds os s t i spaces (omega arith) k b (drop i (take (left_len s t) t)) refl
  by_holds t i Over w h g = over_holds t i (drop i (take (left_len s t) t))

  verdict_holds : (t : List ℕ) (i : ℕ) (m : LexerState) (w : Pending) (e : Bool) (p : Step)
      → i + held w ≤ left_len s t → WaitsAt os s (take (left_len s t) t) i w
      → verdict os s (core_at t (left_len s t) i m w e) ≡ Ok (Some p)
      → Holds os s t i (Ok (Some p))
  verdict_holds t i m w e p h g v = subst (Holds os s t i) v (by_holds t i m w h g)

  -- a piece that a verdict tells is what its kind says, has its value, and a byte where its kind needs one, and what waits behind it stands there
  pub named_verdict : Ended s → (t : List ℕ) (i : ℕ) (m : LexerState) (w : Pending) (e : Bool) (p : Step)
      → i + held w ≤ left_len s t → 0 < least w → WaitsAt os s (take (left_len s t) t) i w
      → verdict os s (core_at t (left_len s t) i m w e) ≡ Ok (Some p)
      → IsPiece os s t i (i + p.len) p.kind p.value × WaitsAt os s (take (left_len s t) t) (i + p.len) p.pending
  named_verdict ends t i m w e p h l g v =
      let r = verdict_holds t i m w e p h g v in
      let f = fits_at os s ends t (left_len s t) i m w e (left_le s t) h l (Ok (Some p)) (sym v) in
      let c = subst (Firm (rank m w)) v (firm os s (behind_at t i) (drop i (take (left_len s t) t)) m w) in
      ((r.1.0, r.1.1, has_bytes os s t i m w p ends f c r.1.0), r.2)

  -- no verdict tells the cut
  pub never_cut : (t : List ℕ) (i : ℕ) (m : LexerState) (w : Pending) (e : Bool) (p : Step)
      → i + held w ≤ left_len s t → WaitsAt os s (take (left_len s t) t) i w
      → verdict os s (core_at t (left_len s t) i m w e) ≡ Ok (Some p)
      → p.kind ≡ Cut → ⊥
  never_cut t i m w e p h g v c = subst NotCut c (verdict_holds t i m w e p h g v).0
