-- Verdicts in text fit what is ahead.
use Rattle.std.proofs.Common.{◌≡◌, ℕ, zero, suc, ◌+◌, ◌-◌, ◌<◌, ◌≤◌, Bool, true, false, ◌&&◌, eqb, List, [], ◌∷◌, length, get_or, take, drop, Some, None, Option, sym, refl, subst, ⊎_elim, arith}
use Rattle.std.proofs.lemmas.List.{length-drop, length-take}
use Rattle.std.proofs.lemmas.Bool.{cases_Bool, and_parts}
use Rattle.byte_search.specs.Search.{stands_at, distance_to}
use Rattle.byte_search.proofs.Stands.{stands_fits}
use Rattle.finder.specs.declared.StartMarker.{StartMarker}
use Rattle.finder.specs.declared.StartMarker.TheVariants.{Variable, Block, Comment, LineStatement, LineComment}
use Rattle.finder.specs.Finding.{Opening, Triple, found}
use Rattle.spaces.specs.Lines.{blank_run, line_end}
use Rattle.spaces.specs.Runs.{white_run, kept}
use Rattle.pieces.specs.declared.kind.Kind.TheVariants.{Comment as CommentGap}
use Rattle.rules.specs.declared.EndRaw.{EndRaw}
use Rattle.rules.specs.declared.LexerState.{LexerState}
use Rattle.rules.specs.declared.LexerState.TheVariants.{Template, Inside, Over}
use Rattle.rules.specs.declared.Pending.{Pending}
use Rattle.rules.specs.declared.Pending.TheVariants.{Nothing, Trim, Tail, Marker, RawBody, RawClose}
use Rattle.rules.specs.declared.whitespace.Whitespace.{Whitespace}
use Rattle.rules.specs.declared.whitespace.Whitespace.TheVariants.{Default, Preserve, Remove}
use Rattle.rules.specs.Config.{Config, Ended, white, inline_white}
use Rattle.rules.specs.Bytes.{is_sign, sign_of, sign_at, sign_len, in_line, run, pushes}
use Rattle.rules.specs.Shapes.{Fits}
use Rattle.rules.specs.State.{Core, fault}
use Rattle.rules.specs.Texts.{due, left_over, stripped, lead, Basic, basic_end, basic_tag, raw_name, endraw_name, closer_by, closer_at, Far, away, find_closer, raw_from, raw_to, raw_text_by, raw_body, closing_sign, comment_by, comment, line_comment_here, block_by, opened, gap_then, lead_then, opening_sign, met, real, text, trimmed, text_verdict, over_verdict, verdict_by, verdict}
use Rattle.rules.proofs.Lengths.{run_le, blank_le, white_le, kept_within, line_end_le, Reached, distance_le, Within, found_within}
use Rattle.rules.proofs.Inside.{Fine, tailed, tag_fits}

-- strips

left_over_le : (k : ℕ) (xs : List ℕ) → k ≤ length xs → left_over k xs ≤ length xs
left_over_le zero xs h = omega arith
left_over_le (suc k) xs h = elim (eqb (get_or xs k 0) 10) as (λ t. elim t [ true ↦ suc k | false ↦ length xs ] ≤ length xs) [ true ↦ h | false ↦ omega arith ]

pub stripped_le : (d : Bool) (s : Config) (xs : List ℕ) → stripped d s xs ≤ length xs
stripped_le true s xs = left_over_le (kept (inline_white s) xs) xs (kept_within (inline_white s) xs)
stripped_le false s xs = omega arith

pub lead_le : (s : Config) (m : StartMarker) (g : Whitespace) (behind xs : List ℕ) → lead s m g behind xs ≤ length xs
unfolding lead
lead_le s m Remove behind xs = kept_within (white s) xs
lead_le s m Preserve behind xs = omega arith
lead_le s m Default behind xs = stripped_le (due s m (pushes xs behind)) s xs

-- signs

pub sign_le : (xs : List ℕ) → sign_len (sign_at xs) ≤ length xs
sign_le [] = omega arith
sign_le (x ∷ xs) = elim (sign_of x) as (λ g. sign_len g ≤ length (x ∷ xs)) [ Default ↦ omega arith | Preserve ↦ omega arith | Remove ↦ omega arith ]

pub opening_sign_le : (m : StartMarker) (xs : List ℕ) → sign_len (opening_sign m xs) ≤ length xs
opening_sign_le Variable xs = sign_le xs
opening_sign_le Block xs = sign_le xs
opening_sign_le Comment xs = sign_le xs
opening_sign_le LineStatement xs = omega arith
opening_sign_le LineComment xs = sign_le xs

-- raw tags

-- between two numbers of bytes
abbrev pub Between : ℕ → ℕ → Option Basic → Type 0
Between low high None = Unit {0}
Between low high (Some t) = (low ≤ t.0) × (t.0 ≤ high)

basic_end_le : (end : List ℕ) (n : ℕ) (xs : List ℕ) → Between n (n + length xs) (basic_end end n xs)
basic_end_le end n [] = tt
basic_end_le end n (x ∷ xs) =
    let P : Option Basic → Type 0 = λ r. Between n (n + length (x ∷ xs)) r in
    let alone : Option Basic = elim (stands_at end (x ∷ xs)) [ true ↦ Some (n + length end, Default) | false ↦ None ] in
    ⊎_elim
    (λ h.
    let l = stands_fits end xs (and_parts (is_sign x) (stands_at end xs) h).1 in
    subst (λ t. P (elim t [ true ↦ Some (n + suc (length end), sign_of x) | false ↦ alone ])) (sym h) (omega arith, omega arith))
    (λ h.
    subst (λ t. P (elim t [ true ↦ Some (n + suc (length end), sign_of x) | false ↦ alone ])) (sym h)
    (⊎_elim
    (λ g.
    let l = stands_fits end (x ∷ xs) g in
    subst (λ t. P (elim t [ true ↦ Some (n + length end, Default) | false ↦ None ])) (sym g) (omega arith, omega arith))
    (λ g. subst (λ t. P (elim t [ true ↦ Some (n + length end, Default) | false ↦ None ])) (sym g) tt)
    (cases_Bool (stands_at end (x ∷ xs)))))
    (cases_Bool (is_sign x && stands_at end xs))

between_of : (a b c d : ℕ) (r : Option Basic) → a ≤ c → d ≤ b → Between c d r → Between a b r
between_of a b c d None h k f = tt
between_of a b c d (Some t) h k f = (omega (arith, f.0), omega (arith, f.1))

pub basic_le : (name end xs : List ℕ) → Between (length name) (length xs) (basic_tag name end xs)
unfolding basic_tag
basic_le name end xs =
    let n : ℕ = blank_run xs + length name in
    let m : ℕ = n + blank_run (drop n xs) in
    let P : Option Basic → Type 0 = λ r. Between (length name) (length xs) r in
    ⊎_elim
    (λ h.
    let a = stands_fits name (drop (blank_run xs) xs) h in
    let b = length-drop (blank_run xs) xs in
    let c = blank_le xs in
    let d = blank_le (drop n xs) in
    let e = length-drop n xs in
    let f = length-drop m xs in
    subst (λ t. P (elim t [ true ↦ basic_end end m (drop m xs) | false ↦ None ])) (sym h) (between_of (length name) (length xs) m (m + length (drop m xs)) (basic_end end m (drop m xs)) (omega arith) (omega arith) (basic_end_le end m (drop m xs))))
    (λ h. subst (λ t. P (elim t [ true ↦ basic_end end m (drop m xs) | false ↦ None ])) (sym h) tt)
    (cases_Bool (stands_at name (drop (blank_run xs) xs)))

-- a closing tag has a byte and is ahead
abbrev pub Closes : ℕ → Option EndRaw → Type 0
Closes n None = Unit {0}
Closes n (Some r) = (0 < r.len) × (r.len ≤ n)

closer_by_le : (n l : ℕ) (g : Whitespace) (r : Option Basic) → Between 6 l r → Closes (n + (sign_len g + l)) (closer_by n g r)
closer_by_le n l g None h = tt
closer_by_le n l g (Some t) h = (omega (arith, h.0), omega (arith, h.1))

pub closer_le : (s : Config) (xs : List ℕ) → Closes (length xs) (closer_at s xs)
unfolding closer_at
closer_le s xs =
    let n : ℕ = length s.block_start in
    let g : Whitespace = sign_at (drop n xs) in
    let rest : List ℕ = drop (n + sign_len g) xs in
    let P : Option EndRaw → Type 0 = λ r. Closes (length xs) r in
    ⊎_elim
    (λ h.
    let a = stands_fits s.block_start xs h in
    let b = length-drop n xs in
    let c = sign_le (drop n xs) in
    let d = length-drop (n + sign_len g) xs in
    let e : n + (sign_len g + length rest) ≡ length xs = omega arith in
    subst (λ t. P (elim t [ true ↦ closer_by n g (basic_tag endraw_name s.block_end rest) | false ↦ None ])) (sym h)
    (subst (λ k. Closes k (closer_by n g (basic_tag endraw_name s.block_end rest))) e (closer_by_le n (length rest) g (basic_tag endraw_name s.block_end rest) (basic_le endraw_name s.block_end rest))))
    (λ h. subst (λ t. P (elim t [ true ↦ closer_by n g (basic_tag endraw_name s.block_end rest) | false ↦ None ])) (sym h) tt)
    (cases_Bool (stands_at s.block_start xs))

-- the same of one that is further ahead
abbrev pub ClosesFar : ℕ → Option Far → Type 0
ClosesFar n None = Unit {0}
ClosesFar n (Some r) = (0 < r.1.len) × (r.0 + r.1.len ≤ n)

away_le : (n : ℕ) (r : Option Far) → ClosesFar n r → ClosesFar (suc n) (away r)
away_le n None h = tt
away_le n (Some r) h = (h.0, omega (arith, h.1))

find_by_le : (s : Config) (x : ℕ) (xs : List ℕ) (r : Option EndRaw) → Closes (length (x ∷ xs)) r → ClosesFar (length xs) (find_closer s xs) → ClosesFar (length (x ∷ xs)) (elim r [ Some e ↦ Some (0, e) | None ↦ away (find_closer s xs) ])
find_by_le s x xs None h f = away_le (length xs) (find_closer s xs) f
find_by_le s x xs (Some e) h f = (h.0, omega (arith, h.1))

pub find_closer_le : (s : Config) (xs : List ℕ) → ClosesFar (length xs) (find_closer s xs)
unfolding find_closer
find_closer_le s [] = tt
find_closer_le s (x ∷ xs) = find_by_le s x xs (closer_at s (x ∷ xs)) (closer_le s (x ∷ xs)) (find_closer_le s xs)

raw_from_le : (s : Config) (g : Whitespace) (xs : List ℕ) → raw_from s g xs ≤ length xs
raw_from_le s Remove xs = white_le (white s) xs
raw_from_le s Preserve xs = omega arith
raw_from_le s Default xs = elim s.trim_blocks as (λ t. elim t [ true ↦ line_end xs | false ↦ 0 ] ≤ length xs) [ true ↦ line_end_le xs | false ↦ omega arith ]

raw_to_le : (s : Config) (g : Whitespace) (behind xs : List ℕ) → raw_to s g behind xs ≤ length xs
raw_to_le s Remove behind xs = kept_within (white s) xs
raw_to_le s Preserve behind xs = omega arith
raw_to_le s Default behind xs = stripped_le (due s Block behind) s xs

raw_by_fits : (s : Config) (g : Whitespace) (behind xs : List ℕ) (r : Option Far) → ClosesFar (length xs) r
    → Fits (length xs) Template (RawBody g) (elim r [ None ↦ fault Rattle.pieces.specs.declared.fault.FaultKind.TheVariants.UnendedRaw (length xs) | Some e ↦ raw_text_by s g behind (take e.0 xs) e.1 ])
raw_by_fits s g behind xs None h = omega arith
raw_by_fits s g behind xs (Some e) h =
    let body : List ℕ = take e.0 xs in
    let a = length-take e.0 xs in
    let b = raw_from_le s g body in
    let c = length-drop (raw_from s g body) body in
    let d = raw_to_le s e.1.start_sign (pushes body behind) (drop (raw_from s g body) body) in
    record { ahead = omega (arith, h.1); lively = h.0; ordered = omega arith; inside = omega arith; falls = omega arith; level = omega arith }

raw_fits : (s : Config) (g : Whitespace) (behind xs : List ℕ) → Fits (length xs) Template (RawBody g) (raw_body s g behind xs)
unfolding raw_body
raw_fits s g behind xs = raw_by_fits s g behind xs (find_closer s xs) (find_closer_le s xs)

-- openings

module _ (s : Config) (w : Pending) where
  comment_by_fits : (n : ℕ) (xs : List ℕ) (r : Option ℕ) → 0 < n → n ≤ length xs → Reached s.comment_end (drop n xs) r → Fits (length xs) Template w (comment_by s n xs r)
  comment_by_fits n xs None p h f = omega arith
  comment_by_fits n xs (Some d) p h f =
      let l = length-drop n xs in
      tailed s (closing_sign d (drop n xs)) CommentGap (n + (d + length s.comment_end)) xs Template w (omega arith) (omega arith)

  comment_fits : (n : ℕ) (xs : List ℕ) → 0 < n → n ≤ length xs → Fits (length xs) Template w (comment s n xs)
  unfolding comment
  comment_fits n xs p h = comment_by_fits n xs (distance_to s.comment_end (drop n xs)) p h (distance_le s.comment_end (drop n xs))

  line_comment_fits : (n : ℕ) (xs : List ℕ) → 0 < n → n ≤ length xs → Fits (length xs) Template w (line_comment_here n xs)
  unfolding line_comment_here
  line_comment_fits n xs p h =
      let m : ℕ = n + run in_line (drop n xs) in
      let a = run_le in_line (drop n xs) in
      let b = length-drop n xs in
      let c = line_end_le (drop m xs) in
      let d = length-drop m xs in
      record { ahead = omega arith; lively = omega arith; ordered = omega arith; inside = omega arith; falls = omega arith; level = omega arith }

  block_by_fits : (n l : ℕ) (r : Option Basic) → 0 < n → n ≤ l → Between 3 (l - n) r → Fits l Template w (block_by n r)
  block_by_fits n l None p h f = record { ahead = omega arith; lively = omega arith; ordered = omega arith; inside = omega arith; falls = omega arith; level = omega arith }
  block_by_fits n l (Some t) p h f = record { ahead = omega (arith, f.1); lively = omega arith; ordered = omega arith; inside = omega arith; falls = omega arith; level = omega arith }

  opened_fits : (m : StartMarker) (n : ℕ) (xs : List ℕ) → 0 < n → n ≤ length xs → Fits (length xs) Template w (opened s m n xs)
  unfolding opened
  opened_fits Variable n xs p h = record { ahead = omega arith; lively = omega arith; ordered = omega arith; inside = omega arith; falls = omega arith; level = omega arith }
  opened_fits Block n xs p h = block_by_fits n (length xs) (basic_tag raw_name s.block_end (drop n xs)) p h (subst (λ k. Between 3 k (basic_tag raw_name s.block_end (drop n xs))) (length-drop n xs) (basic_le raw_name s.block_end (drop n xs)))
  opened_fits Comment n xs p h = comment_fits n xs p h
  opened_fits LineStatement n xs p h = record { ahead = omega arith; lively = omega arith; ordered = omega arith; inside = omega arith; falls = omega arith; level = omega arith }
  opened_fits LineComment n xs p h = line_comment_fits n xs p h

  gap_fits : (g : ℕ) (m : StartMarker) (n : ℕ) (xs : List ℕ) → 0 < n → g + n ≤ length xs → Fits (length xs) Template w (gap_then s g m n xs)
  gap_fits zero m n xs p h = opened_fits m n xs p (omega arith)
  gap_fits (suc g) m n xs p h = record { ahead = omega arith; lively = p; ordered = omega arith; inside = omega arith; falls = omega arith; level = omega arith }

  lead_fits : (k d : ℕ) (m : StartMarker) (n : ℕ) (xs : List ℕ) → 0 < n → k ≤ d → d + n ≤ length xs → Fits (length xs) Template w (lead_then s k d m n xs)
  lead_fits zero d m n xs p l h = gap_fits d m n xs p h
  lead_fits (suc k) d m n xs p l h = record { ahead = omega arith; lively = p; ordered = omega arith; inside = omega arith; falls = omega arith; level = omega arith }

  met_fits : (behind xs : List ℕ) (r : Option Triple) → 0 < length xs → Within xs r → Fits (length xs) Template w (met s behind xs r)
  met_fits behind xs None p f = record { ahead = omega arith; lively = omega arith; ordered = omega arith; inside = omega arith; falls = omega arith; level = omega arith }
  met_fits behind xs (Some t) p f =
      let g : Whitespace = opening_sign t.1 (drop (t.0 + t.2) xs) in
      let a = opening_sign_le t.1 (drop (t.0 + t.2) xs) in
      let b = length-drop (t.0 + t.2) xs in
      let c = lead_le s t.1 g behind (take t.0 xs) in
      let d = length-take t.0 xs in
      lead_fits (lead s t.1 g behind (take t.0 xs)) t.0 t.1 (t.2 + sign_len g) xs (omega (arith, f.0)) (omega arith) (omega (arith, f.1))

  module _ (os : List Opening) where
    text_fits : (behind xs : List ℕ) → Fits (length xs) Template w (text os s behind xs)
    unfolding text
    text_fits behind [] = refl
    text_fits behind (x ∷ xs) = met_fits behind (x ∷ xs) (real (found os behind (x ∷ xs))) (omega arith) (found_within os behind (x ∷ xs))

    trimmed_fits : (behind xs : List ℕ) (n : ℕ) → n ≤ length xs → Fits (length xs) Template w (trimmed os s behind xs n)
    trimmed_fits behind xs zero h = text_fits behind xs
    trimmed_fits behind xs (suc n) h = record { ahead = omega arith; lively = omega arith; ordered = omega arith; inside = omega arith; falls = omega arith; level = omega arith }

module _ (s : Config) (os : List Opening) where
  pub waiting_fits : (behind xs : List ℕ) (w : Pending) → Fine (length xs) w → Fits (length xs) Template w (text_verdict os s behind xs w)
  unfolding text_verdict
  waiting_fits behind xs Nothing f = text_fits s Nothing os behind xs
  waiting_fits behind xs Trim f = trimmed_fits s Trim os behind xs (white_run (white s) xs) (white_le (white s) xs)
  waiting_fits behind xs (Tail n) f = record { ahead = omega (arith, f.1); lively = omega arith; ordered = omega arith; inside = omega arith; falls = omega (arith, f.0); level = omega arith }
  waiting_fits behind xs (Marker m g n) f = gap_fits s (Marker m g n) g m n xs f.0 f.1
  waiting_fits behind xs (RawBody g) f = raw_fits s g behind xs
  waiting_fits behind xs (RawClose n g) f = tailed s g Rattle.pieces.specs.declared.kind.Kind.TheVariants.RawClose n xs Template (RawClose n g) f.0 f.1

  over_fits : (w : Pending) (xs : List ℕ) → Fits (length xs) Over w (over_verdict xs)
  over_fits w [] = refl
  over_fits w (x ∷ xs) = omega arith

  pub by_fits : Ended s → (behind xs : List ℕ) (m : LexerState) (w : Pending) → Fine (length xs) w → Fits (length xs) m w (verdict_by os s behind xs m w)
  by_fits e behind xs Template w f = waiting_fits behind xs w f
  by_fits e behind xs (Inside k b) w f = tag_fits s b w e behind k xs
  by_fits e behind xs Over w f = over_fits w xs

  -- every verdict fits
  pub verdict_fits : Ended s → (c : Core) → Fine (length c.ahead) c.pending → Fits (length c.ahead) c.state c.pending (verdict os s c)
  verdict_fits e c f = by_fits e c.behind c.ahead c.state c.pending f
