-- The faults of a template that is UTF-8: each has a number from 7 to 15, and the decoder's is a bad escape.
use Rattle.std.proofs.Common.{◌≡◌, ℕ, zero, suc, ◌+◌, ◌^◌, ◌<◌, Bool, true, false, ◌&&◌, ◌||◌, eqb, ltb, List, [], ◌∷◌, length, get_or, take, drop, ℤ, Some, None, Ok, Err, IfErr, Option, Result, sym, refl, ap, ◌∙◌, subst, ⊎_elim, arith}
use Rattle.std.proofs.lemmas.List.{length-drop, length-take, drop-drop, get_or-take, get_or-drop}
use Rattle.std.proofs.lemmas.Bool.{cases_Bool, eqb-true, or_cases}
use Rattle.byte_search.specs.Search.{stands_at, distance_to, first_in, further}
use Rattle.finder.specs.declared.StartMarker.{StartMarker}
use Rattle.finder.specs.declared.StartMarker.TheVariants.{Variable as OpensVariable, Block as OpensBlock, Comment, LineStatement as OpensStatement, LineComment}
use Rattle.finder.specs.Finding.{Opening, Triple, found}
use Rattle.utf8.specs.Utf8.{prefix}
use Rattle.utf8.proofs.Parts.{between_ascii}
use Rattle.spaces.specs.Lines.{blank_run}
use Rattle.spaces.specs.Runs.{white_run}
use Rattle.escape.specs.declared.fault.DecodeFault.{DecodeFault}
use Rattle.escape.specs.Faults.{number_of as decode_number}
use Rattle.decode.specs.Decoding.{decoded_len}
use Rattle.decode.proofs.Faults.{bad_alone}
use Rattle.pieces.specs.declared.kind.Kind.TheVariants.{BlockEnd, Ident, Str, Int, Big}
use Rattle.pieces.specs.declared.kind.Operator.{Operator}
use Rattle.pieces.specs.declared.fault.FaultKind.{FaultKind}
use Rattle.pieces.specs.declared.fault.FaultKind.TheVariants.{UnendedComment, UnendedRaw, UnendedString, NoToken, TrailingUnderscore, NoExponent, BadInteger, AfterExpression, Escape}
use Rattle.rules.specs.declared.BlockSentinel.{BlockSentinel}
use Rattle.rules.specs.declared.BlockSentinel.TheVariants.{Variable, Block, LineStatement, Expression}
use Rattle.rules.specs.declared.LexerState.{LexerState}
use Rattle.rules.specs.declared.LexerState.TheVariants.{Template, Inside, Over}
use Rattle.rules.specs.declared.NumberState.{NumberState}
use Rattle.rules.specs.declared.NumberState.TheVariants.{RadixInteger, Integer, Fraction, Exponent, ExponentSign, ExponentDigits}
use Rattle.rules.specs.declared.Pending.{Pending}
use Rattle.rules.specs.declared.Pending.TheVariants.{Nothing, Trim, Tail, Marker, RawBody, RawClose}
use Rattle.rules.specs.declared.whitespace.Whitespace.{Whitespace}
use Rattle.rules.specs.declared.whitespace.Whitespace.TheVariants.{Default}
use Rattle.rules.specs.At.{core_at}
use Rattle.rules.specs.Bytes.{is_digit, is_sign, sign_of, sign_len, leads_name, is_name_part, run, last_is, behind_at}
use Rattle.rules.specs.Config.{Config, white}
use Rattle.rules.specs.Numbers.{base_of, scan, Scanned, value_of, integer, number_by, scanned, number}
use Rattle.rules.specs.Shapes.{Numbered}
use Rattle.rules.specs.State.{told, plain, Verdict, fault}
use Rattle.rules.specs.Strings.{quote_end, decoded, string_of, string}
use Rattle.rules.specs.Tags.{operators, first_standing, dot_behind, literal, token_by, token, end_of, closing, close_by, is_zero, close, blanks, statement_end, tag_end, tag_verdict}
use Rattle.rules.specs.Texts.{lead, Basic, basic_tag, raw_name, Far, find_closer, raw_text_by, raw_body, comment_by, comment, line_comment_here, block_by, opened, gap_then, lead_then, opening_sign, met, real, text, trimmed, text_verdict, over_verdict, verdict_by, verdict}
use Rattle.rules.proofs.Whole.{part_of}

-- the fault of a verdict, if it is one
abbrev pub Sound : Verdict → Type 0
Sound v = IfErr v (λ f. Numbered f.kind)

-- the kinds of faults that are not the decoder's
abbrev Own : FaultKind → Type 0
Own UnendedComment = Unit {0}
Own UnendedRaw = Unit {0}
Own UnendedString = Unit {0}
Own NoToken = Unit {0}
Own TrailingUnderscore = Unit {0}
Own NoExponent = Unit {0}
Own BadInteger = Unit {0}
Own AfterExpression = Unit {0}
Own (Escape f) = ⊥

own : (k : FaultKind) → Own k → Numbered k
own UnendedComment h = record { least = omega arith; most = omega arith; bad = λ f e. cc }
own UnendedRaw h = record { least = omega arith; most = omega arith; bad = λ f e. cc }
own UnendedString h = record { least = omega arith; most = omega arith; bad = λ f e. cc }
own NoToken h = record { least = omega arith; most = omega arith; bad = λ f e. cc }
own TrailingUnderscore h = record { least = omega arith; most = omega arith; bad = λ f e. cc }
own NoExponent h = record { least = omega arith; most = omega arith; bad = λ f e. cc }
own BadInteger h = record { least = omega arith; most = omega arith; bad = λ f e. cc }
own AfterExpression h = record { least = omega arith; most = omega arith; bad = λ f e. cc }
own (Escape f) h = absurd h

escaped : (f : DecodeFault) → decode_number f ≡ 15 → Numbered (Escape f)
escaped f h = record { least = omega arith; most = omega arith; bad = λ g e. let q : g ≡ f = cc in ap decode_number q ∙ h }

-- numbers

module _ (m : LexerState) where
  integer_sound : (n : ℕ) (v : Option ℕ) → Sound (integer n m v)
  integer_sound n None = own BadInteger tt
  integer_sound n (Some v) =
      elim (ltb v (2 ^ 64)) as (λ t. Sound (elim t [ true ↦ told Int n 0 n (Some v) m Nothing | false ↦ elim (ltb v (2 ^ 128)) [ true ↦ plain Big n m Nothing | false ↦ fault BadInteger n ] ])) [
        | true ↦ tt
        | false ↦ elim (ltb v (2 ^ 128)) as (λ t. Sound (elim t [ true ↦ plain Big n m Nothing | false ↦ fault BadInteger n ])) [ true ↦ tt | false ↦ own BadInteger tt ]
      ]

  number_by_sound : (q : NumberState) (base n : ℕ) (xs : List ℕ) → Sound (number_by q base n m xs)
  number_by_sound RadixInteger base n xs = integer_sound n (value_of base xs)
  number_by_sound Integer base n xs = integer_sound n (value_of base xs)
  number_by_sound Fraction base n xs = tt
  number_by_sound Exponent base n xs = own NoExponent tt
  number_by_sound ExponentSign base n xs = own NoExponent tt
  number_by_sound ExponentDigits base n xs = tt

  scanned_sound : (base skip : ℕ) (xs : List ℕ) (r : Scanned) → Sound (scanned base skip m xs r)
  scanned_sound base skip xs r =
      elim (last_is 95 (take r.0 xs)) as (λ t. Sound (elim t [ true ↦ fault TrailingUnderscore (skip + r.0) | false ↦ number_by r.1 base (skip + r.0) m (take r.0 xs) ])) [
        | true ↦ own TrailingUnderscore tt
        | false ↦ number_by_sound r.1 base (skip + r.0) (take r.0 xs)
      ]

  number_sound : (dotted : Bool) (xs : List ℕ) → Sound (number dotted m xs)
  unfolding number
  number_sound dotted xs =
      elim (eqb (base_of xs) 10) as (λ t. Sound (elim t [ true ↦ scanned 10 0 m xs (scan 10 dotted Integer xs) | false ↦ scanned (base_of xs) 2 m (drop 2 xs) (scan (base_of xs) dotted RadixInteger (drop 2 xs)) ])) [
        | true ↦ scanned_sound 10 0 xs (scan 10 dotted Integer xs)
        | false ↦ scanned_sound (base_of xs) 2 (drop 2 xs) (scan (base_of xs) dotted RadixInteger (drop 2 xs))
      ]

-- strings

-- the text of the string that the quote q opens, if it is closed, is UTF-8
abbrev pub Spelt : ℕ → List ℕ → Type 0
Spelt q xs = (k : ℕ) → quote_end q false xs ≡ Some k → prefix (take k xs) ≡ length (take k xs)

module _ (m : LexerState) where
  decoded_sound : (n : ℕ) (r : Result ℕ DecodeFault) → IfErr r (λ f. decode_number f ≡ 15) → Sound (decoded n m r)
  decoded_sound n (Ok len) h = tt
  decoded_sound n (Err f) h = escaped f h

  string_of_sound : (xs : List ℕ) → prefix xs ≡ length xs → Sound (string_of m xs)
  string_of_sound xs w =
      elim (first_in (92 ∷ []) xs) as (λ r. Sound (elim r [ None ↦ told Str (length xs + 2) 1 (length xs + 1) None m Nothing | Some j ↦ decoded (length xs) m (decoded_len xs) ])) [
        | None ↦ tt
        | Some j ↦ decoded_sound (length xs) (decoded_len xs) (bad_alone xs w)
      ]

  string_by_sound : (xs : List ℕ) (r : Option ℕ) → ((k : ℕ) → r ≡ Some k → prefix (take k xs) ≡ length (take k xs)) → Sound (elim r [ None ↦ fault UnendedString (suc (length xs)) | Some n ↦ string_of m (take n xs) ])
  string_by_sound xs None h = own UnendedString tt
  string_by_sound xs (Some n) h = string_of_sound (take n xs) (h n refl)

  string_sound : (q : ℕ) (xs : List ℕ) → Spelt q xs → Sound (string q m xs)
  unfolding string
  string_sound q xs h = string_by_sound xs (quote_end q false xs) h

-- the bytes ahead begin with no quote whose string is not UTF-8
abbrev pub Textual : List ℕ → Type 0
Textual [] = Unit {0}
Textual (x ∷ xs) = x < 128 → Spelt x xs

-- inside tags

quote_ascii : (x : ℕ) → (eqb x 34 || eqb x 39) ≡ true → x < 128
quote_ascii x e = ⊎_elim (λ h. omega (arith, eqb-true x 34 h)) (λ h. omega (arith, eqb-true x 39 h)) (or_cases (eqb x 34) (eqb x 39) e)

literal_sound : (behind : List ℕ) (m : LexerState) (x : ℕ) (xs : List ℕ) → Textual (x ∷ xs) → Sound (literal behind m x xs)
unfolding literal
literal_sound behind m x xs h =
    let third : Verdict = elim (leads_name x) [ true ↦ plain Ident (run is_name_part (x ∷ xs)) m Nothing | false ↦ fault NoToken 0 ] in
    let second : Verdict = elim (is_digit x) [ true ↦ number (dot_behind behind) m (x ∷ xs) | false ↦ third ] in
    ⊎_elim
    (λ e. subst (λ t. Sound (elim t [ true ↦ string x m xs | false ↦ second ])) (sym e) (string_sound m x xs (h (quote_ascii x e))))
    (λ e. subst (λ t. Sound (elim t [ true ↦ string x m xs | false ↦ second ])) (sym e)
    (elim (is_digit x) as (λ t. Sound (elim t [ true ↦ number (dot_behind behind) m (x ∷ xs) | false ↦ third ])) [
      | true ↦ number_sound m (dot_behind behind) (x ∷ xs)
      | false ↦ elim (leads_name x) as (λ t. Sound (elim t [ true ↦ plain Ident (run is_name_part (x ∷ xs)) m Nothing | false ↦ fault NoToken 0 ])) [ true ↦ tt | false ↦ own NoToken tt ]
    ]))
    (cases_Bool (eqb x 34 || eqb x 39))

-- the same of a verdict, if there is one
abbrev SoundIf : Option Verdict → Type 0
SoundIf None = Unit {0}
SoundIf (Some v) = Sound v

module _ (s : Config) (behind : List ℕ) (k : BlockSentinel) (b : ℤ) (x : ℕ) (xs : List ℕ) where
  token_by_sound : (o : Option Operator) → Textual (x ∷ xs) → Sound (token_by o behind k b x xs)
  token_by_sound None h = literal_sound behind (Inside k b) x xs h
  token_by_sound (Some o) h = tt

  closing_sound : (j : BlockSentinel) (g : Whitespace) (n : ℕ) (ys : List ℕ) → Sound (closing s j g n ys)
  closing_sound Variable g n ys = tt
  closing_sound Block g n ys = tt
  closing_sound LineStatement g n ys = tt
  closing_sound Expression g n ys = tt

  close_by_sound : (e : Option (List ℕ)) → SoundIf (close_by s k e x xs)
  close_by_sound None = tt
  close_by_sound (Some e) =
      let alone : Option Verdict = elim (stands_at e (x ∷ xs)) [ true ↦ Some (closing s k Default (length e) (x ∷ xs)) | false ↦ None ] in
      elim (is_sign x && stands_at e xs) as (λ t. SoundIf (elim t [ true ↦ Some (closing s k (sign_of x) (suc (length e)) (x ∷ xs)) | false ↦ alone ])) [
        | true ↦ closing_sound k (sign_of x) (suc (length e)) (x ∷ xs)
        | false ↦ elim (stands_at e (x ∷ xs)) as (λ t. SoundIf (elim t [ true ↦ Some (closing s k Default (length e) (x ∷ xs)) | false ↦ None ])) [ true ↦ closing_sound k Default (length e) (x ∷ xs) | false ↦ tt ]
      ]

  close_sound : SoundIf (close s k b x xs)
  unfolding close
  close_sound = elim (is_zero b) as (λ t. SoundIf (elim t [ true ↦ close_by s k (end_of s k) x xs | false ↦ None ])) [ true ↦ close_by_sound (end_of s k) | false ↦ tt ]

  inside_by_sound : (r : Option Verdict) → SoundIf r → Textual (x ∷ xs) → Sound (elim r [ Some v ↦ v | None ↦ token behind k b x xs ])
  inside_by_sound None f h = token_by_sound (first_standing operators (x ∷ xs)) h
  inside_by_sound (Some v) f h = f

  blanks_sound : (n : ℕ) → Textual (x ∷ xs) → Sound (blanks s behind k b x xs n)
  blanks_sound zero h = inside_by_sound (close s k b x xs) close_sound h
  blanks_sound (suc n) h = tt

  line_sound : (r : Option ℕ) → Textual (x ∷ xs) → Sound (elim r [ Some n ↦ plain BlockEnd n Template Nothing | None ↦ blanks s behind k b x xs (blank_run (x ∷ xs)) ])
  line_sound None h = blanks_sound (blank_run (x ∷ xs)) h
  line_sound (Some n) h = tt

tag_end_sound : (k : BlockSentinel) → Sound (tag_end k)
tag_end_sound Variable = tt
tag_end_sound Block = tt
tag_end_sound LineStatement = tt
tag_end_sound Expression = tt

tag_sound : (s : Config) (behind : List ℕ) (k : BlockSentinel) (b : ℤ) (xs : List ℕ) → Textual xs → Sound (tag_verdict s behind k b xs)
unfolding tag_verdict
tag_sound s behind k b [] h = tag_end_sound k
tag_sound s behind k b (x ∷ xs) h = line_sound s behind k b x xs (statement_end s k b (x ∷ xs)) h

-- in text, where no string stands

module _ (s : Config) where
  comment_by_sound : (n : ℕ) (xs : List ℕ) (r : Option ℕ) → Sound (comment_by s n xs r)
  comment_by_sound n xs None = own UnendedComment tt
  comment_by_sound n xs (Some d) = tt

  block_by_sound : (n : ℕ) (r : Option Basic) → Sound (block_by n r)
  block_by_sound n None = tt
  block_by_sound n (Some t) = tt

  opened_sound : (m : StartMarker) (n : ℕ) (xs : List ℕ) → Sound (opened s m n xs)
  unfolding opened comment line_comment_here
  opened_sound OpensVariable n xs = tt
  opened_sound OpensBlock n xs = block_by_sound n (basic_tag raw_name s.block_end (drop n xs))
  opened_sound Comment n xs = comment_by_sound n xs (distance_to s.comment_end (drop n xs))
  opened_sound OpensStatement n xs = tt
  opened_sound LineComment n xs = tt

  gap_sound : (g : ℕ) (m : StartMarker) (n : ℕ) (xs : List ℕ) → Sound (gap_then s g m n xs)
  gap_sound zero m n xs = opened_sound m n xs
  gap_sound (suc g) m n xs = tt

  lead_sound : (k d : ℕ) (m : StartMarker) (n : ℕ) (xs : List ℕ) → Sound (lead_then s k d m n xs)
  lead_sound zero d m n xs = gap_sound d m n xs
  lead_sound (suc k) d m n xs = tt

  met_sound : (behind xs : List ℕ) (r : Option Triple) → Sound (met s behind xs r)
  met_sound behind xs None = tt
  met_sound behind xs (Some t) =
      let g : Whitespace = opening_sign t.1 (drop (t.0 + t.2) xs) in
      lead_sound (lead s t.1 g behind (take t.0 xs)) t.0 t.1 (t.2 + sign_len g) xs

  raw_by_sound : (g : Whitespace) (behind xs : List ℕ) (r : Option Far) → Sound (elim r [ None ↦ fault UnendedRaw (length xs) | Some e ↦ raw_text_by s g behind (take e.0 xs) e.1 ])
  raw_by_sound g behind xs None = own UnendedRaw tt
  raw_by_sound g behind xs (Some e) = tt

  module _ (os : List Opening) where
    text_sound : (behind xs : List ℕ) → Sound (text os s behind xs)
    unfolding text
    text_sound behind [] = tt
    text_sound behind (x ∷ xs) = met_sound behind (x ∷ xs) (real (found os behind (x ∷ xs)))

    trimmed_sound : (behind xs : List ℕ) (n : ℕ) → Sound (trimmed os s behind xs n)
    trimmed_sound behind xs zero = text_sound behind xs
    trimmed_sound behind xs (suc n) = tt

    waiting_sound : (behind xs : List ℕ) (w : Pending) → Sound (text_verdict os s behind xs w)
    unfolding text_verdict raw_body
    waiting_sound behind xs Nothing = text_sound behind xs
    waiting_sound behind xs Trim = trimmed_sound behind xs (white_run (white s) xs)
    waiting_sound behind xs (Tail n) = tt
    waiting_sound behind xs (Marker m g n) = gap_sound g m n xs
    waiting_sound behind xs (RawBody g) = raw_by_sound g behind xs (find_closer s xs)
    waiting_sound behind xs (RawClose n g) = tt

over_sound : (xs : List ℕ) → Sound (over_verdict xs)
over_sound [] = tt
over_sound (x ∷ xs) = own AfterExpression tt

verdict_sound : (os : List Opening) (s : Config) (behind xs : List ℕ) (m : LexerState) (w : Pending) → Textual xs → Sound (verdict_by os s behind xs m w)
verdict_sound os s behind xs Template w h = waiting_sound s os behind xs w
verdict_sound os s behind xs (Inside k b) w h = tag_sound s behind k b xs h
verdict_sound os s behind xs Over w h = over_sound xs

-- the closing quote is ahead
abbrev Closed : ℕ → List ℕ → Option ℕ → Type 0
Closed q xs None = Unit {0}
Closed q xs (Some k) = (k < length xs) × (get_or xs k 0 ≡ q)

further_closed : (q x : ℕ) (xs : List ℕ) (r : Option ℕ) → Closed q xs r → Closed q (x ∷ xs) (further r)
further_closed q x xs None h = tt
further_closed q x xs (Some k) h = (omega (arith, h.0), h.1)

quote_closed : (q : ℕ) (e : Bool) (xs : List ℕ) → Closed q xs (quote_end q e xs)
unfolding quote_end
quote_closed q e [] = tt
quote_closed q true (x ∷ xs) = further_closed q x xs (quote_end q false xs) (quote_closed q false xs)
quote_closed q false (x ∷ xs) = ⊎_elim
    (λ e. subst (λ t. Closed q (x ∷ xs) (elim t [ true ↦ Some 0 | false ↦ further (quote_end q (eqb x 92) xs) ])) (sym e) (omega arith, eqb-true x q e))
    (λ e. subst (λ t. Closed q (x ∷ xs) (elim t [ true ↦ Some 0 | false ↦ further (quote_end q (eqb x 92) xs) ])) (sym e) (further_closed q x xs (quote_end q (eqb x 92) xs) (quote_closed q (eqb x 92) xs)))
    (cases_Bool (eqb x q))

-- both quotes are ASCII, and what they enclose in a template that is UTF-8 is UTF-8
module _ (t : List ℕ) (n i : ℕ) (whole : prefix t ≡ length t) where
  byte_at : (j : ℕ) → i + j < n → get_or (drop i (take n t)) j 0 ≡ get_or t (i + j) 0
  byte_at j h = get_or-drop i (take n t) j 0 ∙ get_or-take n t (i + j) 0 h

  enclosed : (q k : ℕ) (xs : List ℕ) → drop i (take n t) ≡ q ∷ xs → q < 128 → k < length xs → get_or xs k 0 ≡ q → prefix (take k xs) ≡ length (take k xs)
  enclosed q k xs e a l c =
      let d = length-drop i (take n t) in
      let g = length-take n t in
      let z : length (drop i (take n t)) ≡ suc (length xs) = ap length e in
      let first : get_or t (i + 0) 0 ≡ q = sym (byte_at 0 (omega arith)) ∙ ap (λ l. get_or l 0 0) e in
      let last : get_or t (i + suc k) 0 ≡ q = sym (byte_at (suc k) (omega arith)) ∙ ap (λ l. get_or l (suc k) 0) e ∙ c in
      let here : get_or t i 0 < 128 = (let y : i + 0 ≡ i = omega arith in let x = ap (λ m. get_or t m 0) y in omega arith) in
      let there : get_or t (i + 1 + k) 0 < 128 = (let y : i + suc k ≡ i + 1 + k = omega arith in let x = ap (λ m. get_or t m 0) y in omega arith) in
      let same : take k xs ≡ take k (drop (i + 1) t) = ap (λ l. take k (drop 1 l)) (sym e) ∙ ap (take k) (drop-drop 1 i (take n t)) ∙ part_of t n (i + 1) k (omega arith) in
      subst (λ l. prefix l ≡ length l) (sym same) (between_ascii t i k whole here (omega arith) there)

  textual_of : (xs : List ℕ) → drop i (take n t) ≡ xs → Textual xs
  textual_of [] e = tt
  textual_of (x ∷ xs) e = λ a k q. let c = subst (Closed x xs) q (quote_closed x false xs) in enclosed x k xs e a c.0 c.1

-- at each place of a template that is UTF-8
pub numbered_at : (os : List Opening) (s : Config) (t : List ℕ) (n i : ℕ) (m : LexerState) (w : Pending) (e : Bool) → prefix t ≡ length t → IfErr (verdict os s (core_at t n i m w e)) (λ f. Numbered f.kind)
numbered_at os s t n i m w e h = verdict_sound os s (behind_at t i) (drop i (take n t)) m w (textual_of t n i h (drop i (take n t)) refl)
