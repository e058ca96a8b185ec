-- Nothing is misnamed in text.
use Rattle.std.proofs.Common.{◌≡◌, ℕ, zero, suc, ◌+◌, ◌-◌, ◌≤◌, List, [], ◌∷◌, length, take, drop, Some, None, Option, sym, refl, ap, ◌∙◌, subst, inl, inr, arith}
use Rattle.std.proofs.lemmas.List.{drop-drop, drop-take, length-drop, length-take}
use Rattle.byte_search.specs.Search.{First, Stands, distance_to}
use Rattle.byte_search.proofs.Firsts.{distance_first}
use Rattle.finder.specs.declared.StartMarker.{StartMarker}
use Rattle.finder.specs.declared.StartMarker.TheVariants.{Variable, Block, Comment, LineStatement, LineComment}
use Rattle.finder.specs.Finding.{Opening, Triple, found, Finds}
use Rattle.finder.proofs.Found.{finds_inside}
use Rattle.spaces.specs.Lines.{line_end}
use Rattle.spaces.specs.Runs.{white_run, AllPass}
use Rattle.spaces.specs.Spaces.{white_space}
use Rattle.spaces.proofs.Lines.{line_told}
use Rattle.spaces.proofs.Runs.{all_none, run_longest as white_longest}
use Rattle.pieces.specs.declared.fault.FaultKind.TheVariants.{UnendedRaw}
use Rattle.rules.specs.declared.Pending.{Pending}
use Rattle.rules.specs.declared.Pending.TheVariants.{Nothing, Trim, Tail, Marker, RawBody, RawClose}
use Rattle.rules.specs.declared.whitespace.Whitespace.{Whitespace}
use Rattle.rules.specs.Bytes.{sign_len, in_line, run, LongestRun, behind_at}
use Rattle.rules.specs.Config.{Config, white}
use Rattle.rules.specs.Reading.{left_len}
use Rattle.rules.specs.Shapes.{held}
use Rattle.rules.specs.State.{Verdict, fault}
use Rattle.rules.specs.Texts.{lead, Basic, basic_tag, raw_name, closer_at, Far, find_closer, raw_text_by, raw_body, closing_sign, comment_by, comment, line_comment_here, block_by, opened, gap_then, lead_then, opening_sign, met, real, AllReal, text, trimmed, text_verdict}
use Rattle.rules.proofs.Lengths.{white_le}
use Rattle.rules.proofs.Outside.{lead_le, opening_sign_le, ClosesFar, find_closer_le}
use Rattle.rules.proofs.Runs.{run_longest}
use Rattle.runs.specs.Named.{NoOpening, OpensAt, IsRawOpen, IsRawText}
use Rattle.raws.specs.Closers.{FirstCloser}
use Rattle.raws.proofs.Found.{find_first}
use Rattle.raws.proofs.Spells.{spelt_by, closer_spelt_by}
use Rattle.runs.proofs.Whites.{end_passes, lead_passes}
use Rattle.runs.proofs.Behind.{found_left}
use Rattle.runs.proofs.Gaps.{WaitsAt, Holds, tail_waits, left_has, white_named}

module _ (os : List Opening) (s : Config) (t : List ℕ) where
  -- what the cut leaves
  abbrev left : List ℕ
  left = take (left_len s t) t

  module _ (i : ℕ) where
    abbrev H : Verdict → Type 0
    H v = Holds os s t i v

    module _ (xs : List ℕ) (e : xs ≡ drop i left) where
      -- behind so many of the bytes ahead
      on : (n : ℕ) → drop n xs ≡ drop (i + n) left
      on n = ap (drop n) e ∙ drop-drop n i left

      -- raw bodies

      raw_holds : (g : Whitespace) (behind : List ℕ) (r : Option Far) → ClosesFar (length xs) r → FirstCloser s xs r → (h : ℕ) → IsRawOpen os s left h i
          → H (elim r [ None ↦ fault UnendedRaw (length xs) | Some f ↦ raw_text_by s g behind (take f.0 xs) f.1 ])
      raw_holds g behind None w c h o = tt
      raw_holds g behind (Some f) w c h o =
          let z : length (take f.0 xs) ≡ f.0 = omega (arith, w.1, length-take f.0 xs) in
          let body : IsRawText os s left i (i + length (take f.0 xs)) = (h, o, f.0, f.1, subst (λ l. FirstCloser s l (Some f)) e c, ap (λ k. i + k) z) in
          (tt, (body, refl), (i, body, f.1, ap (λ k. closer_at s (drop (i + k) left)) z ∙ ap (closer_at s) (sym (on f.0)) ∙ c.0, refl))

      -- openings

      block_holds : (n : ℕ) (r : Option Basic) → basic_tag raw_name s.block_end (drop (i + n) left) ≡ r → OpensAt os Block left i n → H (block_by n r)
      block_holds n None f m = (tt, ((n, inl (m, f), refl), refl), tt)
      block_holds n (Some b) f m =
          let tag : IsRawOpen os s left i (i + (n + b.0)) = (n, m, b, f, spelt_by raw_name s.block_end (drop (i + n) left) (Some b) (sym f), omega arith) in
          (tt, (tag, refl), (i, tag))

      comment_holds : (n : ℕ) (r : Option ℕ) → First (Stands s.comment_end (drop (i + n) left)) r → OpensAt os Comment left i n → H (comment_by s n xs r)
      comment_holds n None f m = tt
      comment_holds n (Some d) f m =
          let k : ℕ = n + (d + length s.comment_end) in
          (tt, ((n, m, d, f, omega arith), refl), tail_waits os s left (i + k) (closing_sign d (drop n xs)) (drop k xs) (on k))

      opened_holds : (m : StartMarker) (n : ℕ) → OpensAt os m left i n → H (opened s m n xs)
      unfolding opened comment line_comment_here
      opened_holds Variable n m = (tt, ((n, m, refl), refl), tt)
      opened_holds Block n m = block_holds n (basic_tag raw_name s.block_end (drop n xs)) (ap (basic_tag raw_name s.block_end) (sym (on n))) m
      opened_holds Comment n m = comment_holds n (distance_to s.comment_end (drop n xs)) (subst (λ l. First (Stands s.comment_end l) (distance_to s.comment_end (drop n xs))) (on n) (distance_first s.comment_end (drop n xs))) m
      opened_holds LineStatement n m = (tt, ((n, inr m, refl), refl), tt)
      opened_holds LineComment n m =
          let a : ℕ = run in_line (drop n xs) in
          let b : ℕ = line_end (drop (n + a) xs) in
          let z : i + (n + a) ≡ i + n + a = omega arith in
          let l = subst (λ l. LongestRun in_line l a) (on n) (run_longest in_line (drop n xs)) in
          (tt, ((n, m, a, l, b, line_told (drop (i + n + a) left) b (ap line_end (on (n + a) ∙ ap (λ j. drop j left) z)), omega arith), refl), tt)

      gap_holds : (g : ℕ) (m : StartMarker) (n : ℕ) → i + (g + n) ≤ left_len s t → WaitsAt os s left i (Marker m g n) → H (gap_then s g m n xs)
      gap_holds zero m n h w = let z : i + 0 ≡ i = omega arith in opened_holds m n (subst (λ j. OpensAt os m left j n) z w.1)
      gap_holds (suc g) m n h w =
          let z : i + suc g ≡ i + suc g + 0 = omega arith in
          (tt, (white_named os s t i (suc g) (omega arith) w.0, refl), (all_none (white s), subst (λ j. OpensAt os m left j n) z w.1))

      lead_holds : (k d : ℕ) (m : StartMarker) (n : ℕ) → i + (d + n) ≤ left_len s t → k ≤ d → NoOpening os left i (i + d) → WaitsAt os s left (i + k) (Marker m (d - k) n) → H (lead_then s k d m n xs)
      lead_holds zero d m n h l f w =
          let y : i + 0 ≡ i = omega arith in
          let z : d - 0 ≡ d = omega arith in
          gap_holds d m n h (subst (λ j. WaitsAt os s left j (Marker m d n)) y (subst (λ g. WaitsAt os s left (i + 0) (Marker m g n)) z w))
      lead_holds (suc k) d m n h l f w = (tt, ((λ j o a b c q. f j o a (omega arith) c q), refl), w)

      met_holds : (behind : List ℕ) (r : Option Triple) → Finds os left i r → H (met s behind xs r)
      met_holds behind None f = (tt, ((λ k o a b c q. f k o a c q), refl), tt)
      met_holds behind (Some r) f =
          let o : Opening = f.0.0 in
          let g : Whitespace = opening_sign r.1 (drop (r.0 + r.2) xs) in
          let n : ℕ = r.2 + sign_len g in
          let k : ℕ = lead s r.1 g behind (take r.0 xs) in
          let c = finds_inside os left i (Some r) f in
          let l = opening_sign_le r.1 (drop (r.0 + r.2) xs) in
          let z = ap length e in
          let inside : i + (r.0 + n) ≤ left_len s t = omega (arith, c.1, length-drop (r.0 + r.2) xs, length-drop i left, length-take (left_len s t) t) in
          let below : k ≤ r.0 = omega (arith, lead_le s r.1 g behind (take r.0 xs), length-take r.0 xs) in
          let y : i + (r.0 + r.2) ≡ i + r.0 + length o.bytes = omega (arith, f.0.4) in
          let sized : n ≡ length o.bytes + sign_len (opening_sign r.1 (drop (i + r.0 + length o.bytes) left)) =
          ap (λ l. r.2 + sign_len (opening_sign r.1 l)) (on (r.0 + r.2) ∙ ap (λ j. drop j left) y) ∙ ap (λ j. j + sign_len (opening_sign r.1 (drop (i + r.0 + length o.bytes) left))) (sym f.0.4) in
          let marked : OpensAt os r.1 left (i + r.0) n = (o, (f.0.1, f.0.2, λ p a b. subst (λ k. length p.bytes ≤ k) (sym f.0.4) (f.2 p a b)), f.0.3, sized) in
          let u : k + (r.0 - k) ≡ r.0 = omega arith in
          let v : i + r.0 ≡ i + k + (r.0 - k) = omega arith in
          let gap : drop k (take r.0 xs) ≡ take (r.0 - k) (drop (i + k) left) = ap (λ d. drop k (take d xs)) (sym u) ∙ drop-take k (r.0 - k) xs ∙ ap (take (r.0 - k)) (on k) in
          lead_holds k r.0 r.1 n inside below f.1 (subst (AllPass (white s)) gap (lead_passes s r.1 g behind (take r.0 xs)), subst (λ j. OpensAt os r.1 left j n) v marked)

    text_holds : AllReal os → i ≤ left_len s t → (xs : List ℕ) → xs ≡ drop i left → H (text os s (behind_at t i) xs)
    unfolding text
    text_holds a h [] e = tt
    text_holds a h (x ∷ xs) e = met_holds (x ∷ xs) e (behind_at t i) (real (found os (behind_at t i) (x ∷ xs)))
        (subst (Finds os left i) (ap (found os (behind_at t i)) (sym e) ∙ sym (a (behind_at t i) (x ∷ xs))) (found_left os t (left_len s t) i h))

    trimmed_holds : AllReal os → i ≤ left_len s t → (xs : List ℕ) → xs ≡ drop i left → (n : ℕ) → n ≡ white_run (white s) xs → H (trimmed os s (behind_at t i) xs n)
    trimmed_holds a h xs e zero f = text_holds a h xs e
    trimmed_holds a h xs e (suc n) f =
        let p : AllPass (white s) (take (suc n) (drop i left)) = subst (λ l. AllPass (white s) (take (suc n) l)) e (subst (λ k. AllPass (white s) (take k xs)) (sym f) (white_longest (white s) xs).1) in
        let l = white_le (white s) xs in
        let z = ap length e in
        (tt, (white_named os s t i (suc n) (left_has t (left_len s t) i (suc n) (omega arith) (omega arith)) p, refl), tt)

    -- in text a piece is what its kind says, and so is what waits behind it
    pub waiting_holds : AllReal os → s.spaces ≡ white_space → (w : Pending) → i + held w ≤ left_len s t → WaitsAt os s left i w → H (text_verdict os s (behind_at t i) (drop i left) w)
    unfolding text_verdict raw_body
    waiting_holds a b Nothing h w = text_holds a (omega arith) (drop i left) refl
    waiting_holds a b Trim h w = trimmed_holds a (omega arith) (drop i left) refl (white_run (white s) (drop i left)) refl
    waiting_holds a b (Tail n) h w = (tt, (white_named os s t i n h (subst (λ k. AllPass (white s) (take k (drop i left))) w (end_passes s b (drop i left))), refl), tt)
    waiting_holds a b (Marker m g n) h w = gap_holds (drop i left) refl g m n h w
    waiting_holds a b (RawBody g) h w = raw_holds (drop i left) refl g (behind_at t i) (find_closer s (drop i left)) (find_closer_le s (drop i left)) (find_first s (drop i left)) w.0 w.1
    waiting_holds a b (RawClose n g) h w = (tt, ((w.0, w.1, w.2, w.3, closer_spelt_by s (drop i left) (Some w.2) (sym w.3), ap (λ k. i + k) (sym w.4)), refl), tail_waits os s left (i + n) g (drop n (drop i left)) (drop-drop n i left))
