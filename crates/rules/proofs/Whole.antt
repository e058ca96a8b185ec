-- A reading at a place of a template: what one call takes off.
use Rattle.std.proofs.Common.{◌≡◌, ℕ, ◌+◌, ◌-◌, ◌<◌, ◌≤◌, Bool, true, List, [], ◌∷◌, ◌++◌, length, take, drop, None, sym, refl, ap, ◌∙◌, arith, take-add, Some, Ok}
use lib.Seq.{take-length}
use Rattle.std.proofs.lemmas.List.{length-drop, length-take, drop-drop, drop-take, take-take, drop_all, take-append-drop, take_rest}
use Rattle.places.specs.Places.{beyond, first_place}
use Rattle.places.proofs.Advances.{beyond_append, beyond_offset}
use Rattle.pieces.specs.declared.kind.Kind.TheVariants.{Cut}
use Rattle.pieces.specs.declared.fault.FaultKind.{FaultKind}
use Rattle.rules.specs.declared.LexerState.{LexerState}
use Rattle.rules.specs.declared.Pending.{Pending}
use Rattle.rules.specs.declared.Step.{Step}
use Rattle.rules.specs.At.{core_at, place_at, part_at, cut_part}
use Rattle.rules.specs.Bytes.{push, pushes, behind_at}
use Rattle.rules.specs.Reading.{Done, Failing, Gives, Stops, finish, act}
use Rattle.rules.specs.Shapes.{held, least}
use Rattle.rules.specs.State.{Core, fault}
use Rattle.rules.proofs.Fuel.{FineAt}

pub pushes_append : (xs ys zs : List ℕ) → pushes (xs ++ ys) zs ≡ pushes ys (pushes xs zs)
unfolding pushes
pushes_append [] ys zs = refl
pushes_append (x ∷ xs) ys zs = pushes_append xs ys (push x zs)

-- the bytes of a part of what is left are those of the template
pub part_of : (t : List ℕ) (n i k : ℕ) → i + k ≤ n → take k (drop i (take n t)) ≡ take k (drop i t)
part_of t n i k h =
    let z : i + (n - i) ≡ n = omega arith in
    ap (λ m. take k (drop i (take m t))) (sym z) ∙ ap (take k) (drop-take i (n - i) t) ∙ take-take k (n - i) (drop i t) (omega arith)

-- the bytes that are ahead
pub ahead_length : (t : List ℕ) (n i : ℕ) → n ≤ length t → length (drop i (take n t)) ≡ n - i
ahead_length t n i h = let a = length-drop i (take n t) in let b = length-take n t in omega arith

-- the place behind some bytes more
pub place_on : (t : List ℕ) (i k : ℕ) → beyond (take k (drop i t)) (place_at t i) ≡ place_at t (i + k)
place_on t i k = sym (beyond_append (take i t) (take k (drop i t)) first_place) ∙ ap (λ l. beyond l first_place) (sym (take-add i k t))

pub place_offset : (t : List ℕ) (i : ℕ) → i ≤ length t → (place_at t i).offset ≡ i
place_offset t i h = let a = length-take i t in let b = beyond_offset (take i t) first_place in omega arith

module _ (t : List ℕ) (n i : ℕ) (m : LexerState) (w : Pending) (e : Bool) where
  behind_on : (k : ℕ) → i + k ≤ n → pushes (take k (drop i (take n t))) (behind_at t i) ≡ behind_at t (i + k)
  behind_on k h = ap (λ l. pushes l (behind_at t i)) (part_of t n i k h) ∙ sym (pushes_append (take i t) (take k (drop i t)) []) ∙ ap (λ l. pushes l []) (sym (take-add i k t))

  -- a piece is taken off
  pub act_piece : (p : Step) → i + p.len ≤ n → act (core_at t n i m w e) (Ok (Some p)) ≡ Gives (part_at t i p) (core_at t n (i + p.len) p.state p.pending e)
  act_piece p h =
      ap (λ l. Gives (record { kind = p.kind; bytes = l; from = p.from; to = p.to; value = p.value }) (record { behind = pushes (take p.len (drop i (take n t))) (behind_at t i); ahead = drop p.len (drop i (take n t)); cut = drop n t; state = p.state; pending = p.pending; cut_told = e })) (part_of t n i p.len h)
      ∙ ap (λ l. Gives (part_at t i p) (record { behind = l; ahead = drop p.len (drop i (take n t)); cut = drop n t; state = p.state; pending = p.pending; cut_told = e })) (behind_on p.len h)
      ∙ ap (λ l. Gives (part_at t i p) (record { behind = behind_at t (i + p.len); ahead = l; cut = drop n t; state = p.state; pending = p.pending; cut_told = e })) (drop-drop p.len i (take n t))

  finish_none : (xs : List ℕ) → length xs ≡ 0 → (c : Core) → finish c xs ≡ Stops Done
  finish_none [] h c = refl
  finish_none (x ∷ xs) h c = absurd (omega arith)

  finish_some : (xs : List ℕ) → 0 < length xs → (c : Core)
      → finish c xs ≡ Gives (record { kind = Cut; bytes = xs; from = 0; to = length xs; value = None }) (record { behind = pushes xs c.behind; ahead = c.ahead; cut = []; state = c.state; pending = c.pending; cut_told = true })
  finish_some [] h c = absurd (omega arith)
  finish_some (x ∷ xs) h c = refl

  -- with nothing left it is finished
  pub act_end : n ≡ length t → act (core_at t n i m w e) (Ok None) ≡ Stops Done
  act_end h = let l = length-drop n t in finish_none (drop n t) (omega arith) (core_at t n i m w e)

  all_behind : i ≡ n → pushes (drop n t) (behind_at t i) ≡ behind_at t (length t)
  all_behind h =
      ap (λ k. pushes (drop n t) (behind_at t k)) h ∙ sym (pushes_append (take n t) (drop n t) []) ∙ ap (λ l. pushes l []) (take-append-drop n t ∙ sym (take-length t))

  cut_core : i ≡ n → ◌≡◌ {A = Core} (record { behind = pushes (drop n t) (behind_at t i); ahead = drop i (take n t); cut = []; state = m; pending = w; cut_told = true }) (core_at t (length t) (length t) m w true)
  cut_core h =
      let a : drop i (take n t) ≡ [] = let l = length-take n t in drop_all i (take n t) (omega arith) in
      let b : drop (length t) (take (length t) t) ≡ [] = let l = length-take (length t) t in drop_all (length t) (take (length t) t) (omega arith) in
      let c : drop (length t) t ≡ [] = drop_all (length t) t (omega arith) in
      ap (λ l. record { behind = l; ahead = drop i (take n t); cut = []; state = m; pending = w; cut_told = true }) (all_behind h)
      ∙ ap (λ l. record { behind = behind_at t (length t); ahead = l; cut = []; state = m; pending = w; cut_told = true }) (a ∙ sym b)
      ∙ ap (λ l. record { behind = behind_at t (length t); ahead = drop (length t) (take (length t) t); cut = l; state = m; pending = w; cut_told = true }) (sym c)

  -- the cut is taken off
  pub act_cut : i ≡ n → n < length t → act (core_at t n i m w e) (Ok None) ≡ Gives (cut_part t n) (core_at t (length t) (length t) m w true)
  act_cut h k = let l = length-drop n t in finish_some (drop n t) (omega arith) (core_at t n i m w e) ∙ ap (Gives (cut_part t n)) (cut_core h)

  -- a fault is seen
  pub act_fault : (k : FaultKind) (d : ℕ) → i + d ≤ n → act (core_at t n i m w e) (fault k d) ≡ Stops (Failing k (take d (drop i t)))
  act_fault k d h = ap (λ l. Stops (Failing k l)) (part_of t n i d h)

  -- what waits is ahead
  pub fine_at : n ≤ length t → i + held w ≤ n → 0 < least w → FineAt (core_at t n i m w e)
  fine_at within inside lively = let l = ahead_length t n i within in (lively, omega arith)

-- the place behind the cut
pub place_end : (t : List ℕ) (n i : ℕ) → i ≡ n → n ≤ length t → beyond (drop n t) (place_at t i) ≡ place_at t (length t)
place_end t n i h k =
    let z : i + (length t - n) ≡ length t = omega arith in
    ap (λ l. beyond l (place_at t i)) (sym (take_rest t n) ∙ ap (λ j. take (length t - n) (drop j t)) (sym h)) ∙ place_on t i (length t - n) ∙ ap (place_at t) z
