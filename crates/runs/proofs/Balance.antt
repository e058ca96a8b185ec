-- What each verdict does to the balance of brackets.
use Rattle.std.proofs.Common.{◌≡◌, ℕ, zero, suc, ◌+◌, ◌^◌, Bool, true, false, ◌&&◌, ◌||◌, eqb, ltb, List, [], ◌∷◌, length, take, drop, ℤ, pos, negsuc, ◌+ℤ◌, Some, None, Ok, Err, Option, Result, ◌⊎◌, sym, refl, subst, inl, inr, ⊎_elim}
use lib.IntN.{+ℤ_idr}
use Rattle.std.proofs.lemmas.Bool.{both_ways}
use Rattle.byte_search.specs.Search.{stands_at, first_in, distance_to}
use Rattle.finder.specs.declared.StartMarker.{StartMarker}
use Rattle.finder.specs.declared.StartMarker.TheVariants.{Variable as VariableMarker, Block as BlockMarker, Comment as CommentMarker, LineStatement as StatementMarker, LineComment as LineCommentMarker}
use Rattle.finder.specs.Finding.{Opening, Triple, found}
use Rattle.spaces.specs.Lines.{blank_run}
use Rattle.spaces.specs.Runs.{white_run}
use Rattle.escape.specs.declared.fault.DecodeFault.{DecodeFault}
use Rattle.pieces.specs.declared.kind.Kind.TheVariants.{BlockEnd, Ident, Int, Big}
use Rattle.pieces.specs.declared.kind.Operator.{Operator}
use Rattle.pieces.specs.declared.fault.FaultKind.TheVariants.{UnendedString, UnendedRaw, NoToken, TrailingUnderscore, BadInteger}
use Rattle.rules.specs.declared.BlockSentinel.{BlockSentinel}
use Rattle.rules.specs.declared.BlockSentinel.TheVariants.{Variable, Block, LineStatement, Expression}
use Rattle.rules.specs.declared.LexerState.{LexerState}
use Rattle.rules.specs.declared.LexerState.TheVariants.{Template, Inside, Over}
use Rattle.rules.specs.declared.NumberState.{NumberState}
use Rattle.rules.specs.declared.NumberState.TheVariants.{RadixInteger, Integer, Fraction, Exponent, ExponentSign, ExponentDigits}
use Rattle.rules.specs.declared.Pending.{Pending}
use Rattle.rules.specs.declared.Pending.TheVariants.{Nothing, Trim, Tail, Marker, RawBody, RawClose}
use Rattle.rules.specs.declared.whitespace.Whitespace.{Whitespace}
use Rattle.rules.specs.declared.whitespace.Whitespace.TheVariants.{Default}
use Rattle.rules.specs.Config.{Config, white, inline_white}
use Rattle.rules.specs.Bytes.{is_digit, is_sign, sign_of, sign_len, leads_name, is_name_part, run, last_is}
use Rattle.rules.specs.Numbers.{base_of, scan, Scanned, value_of, integer, number_by, scanned, number}
use Rattle.rules.specs.Reading.{balance_at}
use Rattle.rules.specs.State.{told, plain, Verdict, fault}
use Rattle.rules.specs.Strings.{quote_end, decoded, string_of, string}
use Rattle.rules.specs.Tags.{operators, first_standing, dot_behind, literal, token_by, token, end_of, closing, close_by, is_zero, close, blanks, line_rest, statement_end, tag_end, tag_verdict}
use Rattle.rules.specs.Texts.{lead, Basic, basic_tag, raw_name, Far, find_closer, raw_text_by, raw_body, comment_by, comment, line_comment_here, block_by, opened, gap_then, lead_then, opening_sign, met, real, text, trimmed, text_verdict, over_verdict, verdict_by}
use Rattle.runs.specs.Closed.{weight_of}

-- inside a tag the balance is the tag's, and in text it is 0, unless the template's end closed a line statement: then nothing more comes
abbrev pub Balanced : LexerState → Pending → List ℕ → ℤ → Type 0
Balanced Template w xs b = (b ≡ pos 0) ⊎ ((w ≡ Nothing) × (xs ≡ []))
Balanced (Inside k a) w xs b = b ≡ a
Balanced Over w xs b = Unit {0}

-- a verdict's piece, told of the bytes xs at the balance b, adds its weight, and the state behind it keeps so
abbrev pub Weighs : List ℕ → ℤ → Verdict → Type 0
Weighs xs b (Ok (Some p)) = (balance_at b p.state ≡ b +ℤ weight_of p.kind) × Balanced p.state p.pending (drop p.len xs) (balance_at b p.state)
Weighs xs b (Ok None) = Unit {0}
Weighs xs b (Err f) = Unit {0}

-- in text

module _ (all : List ℕ) where
  abbrev X : Verdict → Type 0
  X v = Weighs all (pos 0) v

  raw_weighs : (s : Config) (g : Whitespace) (behind xs : List ℕ) (r : Option Far) → X (elim r [ None ↦ fault UnendedRaw (length xs) | Some f ↦ raw_text_by s g behind (take f.0 xs) f.1 ])
  raw_weighs s g behind xs None = tt
  raw_weighs s g behind xs (Some f) = (refl, inl refl)

  block_weighs : (n : ℕ) (r : Option Basic) → X (block_by n r)
  block_weighs n None = (refl, refl)
  block_weighs n (Some t) = (refl, inl refl)

  comment_weighs : (s : Config) (n : ℕ) (xs : List ℕ) (r : Option ℕ) → X (comment_by s n xs r)
  comment_weighs s n xs None = tt
  comment_weighs s n xs (Some d) = (refl, inl refl)

  opened_weighs : (s : Config) (m : StartMarker) (n : ℕ) (xs : List ℕ) → X (opened s m n xs)
  unfolding opened comment line_comment_here
  opened_weighs s VariableMarker n xs = (refl, refl)
  opened_weighs s BlockMarker n xs = block_weighs n (basic_tag raw_name s.block_end (drop n xs))
  opened_weighs s CommentMarker n xs = comment_weighs s n xs (distance_to s.comment_end (drop n xs))
  opened_weighs s StatementMarker n xs = (refl, refl)
  opened_weighs s LineCommentMarker n xs = (refl, inl refl)

  gap_weighs : (s : Config) (g : ℕ) (m : StartMarker) (n : ℕ) (xs : List ℕ) → X (gap_then s g m n xs)
  gap_weighs s zero m n xs = opened_weighs s m n xs
  gap_weighs s (suc g) m n xs = (refl, inl refl)

  lead_weighs : (s : Config) (k d : ℕ) (m : StartMarker) (n : ℕ) (xs : List ℕ) → X (lead_then s k d m n xs)
  lead_weighs s zero d m n xs = gap_weighs s d m n xs
  lead_weighs s (suc k) d m n xs = (refl, inl refl)

  met_weighs : (s : Config) (behind xs : List ℕ) (r : Option Triple) → X (met s behind xs r)
  met_weighs s behind xs None = (refl, inl refl)
  met_weighs s behind xs (Some t) =
      let g : Whitespace = opening_sign t.1 (drop (t.0 + t.2) xs) in
      lead_weighs s (lead s t.1 g behind (take t.0 xs)) t.0 t.1 (t.2 + sign_len g) xs

  text_weighs : (os : List Opening) (s : Config) (behind xs : List ℕ) → X (text os s behind xs)
  unfolding text
  text_weighs os s behind [] = tt
  text_weighs os s behind (x ∷ xs) = met_weighs s behind (x ∷ xs) (real (found os behind (x ∷ xs)))

  trimmed_weighs : (os : List Opening) (s : Config) (behind xs : List ℕ) (n : ℕ) → X (trimmed os s behind xs n)
  trimmed_weighs os s behind xs zero = text_weighs os s behind xs
  trimmed_weighs os s behind xs (suc n) = (refl, inl refl)

  waiting_weighs : (os : List Opening) (s : Config) (behind xs : List ℕ) (w : Pending) → X (text_verdict os s behind xs w)
  unfolding text_verdict raw_body
  waiting_weighs os s behind xs Nothing = text_weighs os s behind xs
  waiting_weighs os s behind xs Trim = trimmed_weighs os s behind xs (white_run (white s) xs)
  waiting_weighs os s behind xs (Tail n) = (refl, inl refl)
  waiting_weighs os s behind xs (Marker m g n) = gap_weighs s g m n xs
  waiting_weighs os s behind xs (RawBody g) = raw_weighs s g behind xs (find_closer s xs)
  waiting_weighs os s behind xs (RawClose n g) = (refl, inl refl)

-- inside tags

zero_is : (b : ℤ) → is_zero b ≡ true → b ≡ pos 0
zero_is (pos zero) e = refl
zero_is (pos (suc n)) e = absurd (both_ways false refl e)
zero_is (negsuc n) e = absurd (both_ways false refl e)

module _ (s : Config) (behind : List ℕ) (k : BlockSentinel) (b : ℤ) (all : List ℕ) where
  abbrev H : Verdict → Type 0
  H v = Weighs all b v

  abbrev m : LexerState
  m = Inside k b

  same : b ≡ b +ℤ pos 0
  same = sym (+ℤ_idr b)

  -- numbers

  integer_weighs : (n : ℕ) (v : Option ℕ) → H (integer n m v)
  integer_weighs n None = tt
  integer_weighs n (Some v) = elim (ltb v (2 ^ 64)) as (λ c. H (elim c [ true ↦ told Int n 0 n (Some v) m Nothing | false ↦ elim (ltb v (2 ^ 128)) [ true ↦ plain Big n m Nothing | false ↦ fault BadInteger n ] ])) [
    | true ↦ (same, refl)
    | false ↦ elim (ltb v (2 ^ 128)) as (λ c. H (elim c [ true ↦ plain Big n m Nothing | false ↦ fault BadInteger n ])) [ true ↦ (same, refl) | false ↦ tt ]
  ]

  number_by_weighs : (q : NumberState) (base n : ℕ) (xs : List ℕ) → H (number_by q base n m xs)
  number_by_weighs RadixInteger base n xs = integer_weighs n (value_of base xs)
  number_by_weighs Integer base n xs = integer_weighs n (value_of base xs)
  number_by_weighs Fraction base n xs = (same, refl)
  number_by_weighs Exponent base n xs = tt
  number_by_weighs ExponentSign base n xs = tt
  number_by_weighs ExponentDigits base n xs = (same, refl)

  scanned_weighs : (base skip : ℕ) (xs : List ℕ) (r : Scanned) → H (scanned base skip m xs r)
  scanned_weighs base skip xs r = elim (last_is 95 (take r.0 xs)) as (λ c. H (elim c [ true ↦ fault TrailingUnderscore (skip + r.0) | false ↦ number_by r.1 base (skip + r.0) m (take r.0 xs) ])) [
    | true ↦ tt
    | false ↦ number_by_weighs r.1 base (skip + r.0) (take r.0 xs)
  ]

  number_weighs : (dotted : Bool) (xs : List ℕ) → H (number dotted m xs)
  unfolding number
  number_weighs dotted xs = elim (eqb (base_of xs) 10) as (λ c. H (elim c [ true ↦ scanned 10 0 m xs (scan 10 dotted Integer xs) | false ↦ scanned (base_of xs) 2 m (drop 2 xs) (scan (base_of xs) dotted RadixInteger (drop 2 xs)) ])) [
    | true ↦ scanned_weighs 10 0 xs (scan 10 dotted Integer xs)
    | false ↦ scanned_weighs (base_of xs) 2 (drop 2 xs) (scan (base_of xs) dotted RadixInteger (drop 2 xs))
  ]

  -- strings

  decoded_weighs : (n : ℕ) (r : Result ℕ DecodeFault) → H (decoded n m r)
  decoded_weighs n (Ok v) = (same, refl)
  decoded_weighs n (Err f) = tt

  string_of_by : (xs : List ℕ) (o : Option ℕ) → first_in (92 ∷ []) xs ≡ o → H (string_of m xs)
  string_of_by xs None e = rw (e, string_of) (same, refl)
  string_of_by xs (Some j) e = rw (e, string_of) (decoded_weighs (length xs) _)

  string_weighs : (q : ℕ) (xs : List ℕ) → H (string q m xs)
  unfolding string
  string_weighs q xs = elim (quote_end q false xs) as (λ r. H (elim r [ None ↦ fault UnendedString (suc (length xs)) | Some n ↦ string_of m (take n xs) ])) [
    | None ↦ tt
    | Some n ↦ string_of_by (take n xs) (first_in (92 ∷ []) (take n xs)) refl
  ]

  -- a verdict that may not be there
  abbrev HIf : Option Verdict → Type 0
  HIf None = Unit {0}
  HIf (Some v) = H v

  -- an end that may not be there, at balance 0
  abbrev ZeroIf : Option ℕ → Type 0
  ZeroIf None = Unit {0}
  ZeroIf (Some n) = b ≡ pos 0

  zero_if : (r : Option ℕ) → b ≡ pos 0 → ZeroIf r
  zero_if None e = tt
  zero_if (Some n) e = e

  module _ (x : ℕ) (xs : List ℕ) where
    -- tokens

    abbrev name : Bool → Verdict
    name c = elim c [ true ↦ plain Ident (run is_name_part (x ∷ xs)) m Nothing | false ↦ fault NoToken 0 ]

    name_weighs : (c : Bool) → H (name c)
    name_weighs true = (same, refl)
    name_weighs false = tt

    literal_weighs : H (literal behind m x xs)
    unfolding literal
    literal_weighs = elim (eqb x 34 || eqb x 39) as (λ c. H (elim c [ true ↦ string x m xs | false ↦ elim (is_digit x) [ true ↦ number (dot_behind behind) m (x ∷ xs) | false ↦ name (leads_name x) ] ])) [
      | true ↦ string_weighs x xs
      | false ↦ elim (is_digit x) as (λ c. H (elim c [ true ↦ number (dot_behind behind) m (x ∷ xs) | false ↦ name (leads_name x) ])) [
        | true ↦ number_weighs (dot_behind behind) (x ∷ xs)
        | false ↦ name_weighs (leads_name x)
      ]
    ]

    token_weighs : (o : Option Operator) → H (token_by o behind k b x xs)
    token_weighs None = literal_weighs
    token_weighs (Some o) = (refl, refl)

    -- ends

    closing_weighs : b ≡ pos 0 → (j : BlockSentinel) (g : Whitespace) (n : ℕ) (ys : List ℕ) → H (closing s j g n ys)
    closing_weighs e Variable g n ys = (same, inl e)
    closing_weighs e Expression g n ys = (same, tt)
    closing_weighs e Block g n ys = (same, inl e)
    closing_weighs e LineStatement g n ys = (same, inl e)

    close_by_weighs : b ≡ pos 0 → (o : Option (List ℕ)) → HIf (close_by s k o x xs)
    close_by_weighs e None = tt
    close_by_weighs e (Some d) =
        elim (is_sign x && stands_at d xs) as (λ c. HIf (elim c [ true ↦ Some (closing s k (sign_of x) (suc (length d)) (x ∷ xs)) | false ↦ elim (stands_at d (x ∷ xs)) [ true ↦ Some (closing s k Default (length d) (x ∷ xs)) | false ↦ None ] ])) [
          | true ↦ closing_weighs e k (sign_of x) (suc (length d)) (x ∷ xs)
          | false ↦ elim (stands_at d (x ∷ xs)) as (λ c. HIf (elim c [ true ↦ Some (closing s k Default (length d) (x ∷ xs)) | false ↦ None ])) [
            | true ↦ closing_weighs e k Default (length d) (x ∷ xs)
            | false ↦ tt
          ]
        ]

    close_at : (c : Bool) → is_zero b ≡ c → HIf (elim c [ true ↦ close_by s k (end_of s k) x xs | false ↦ None ])
    close_at true e = close_by_weighs (zero_is b e) (end_of s k)
    close_at false e = tt

    close_weighs : HIf (close s k b x xs)
    unfolding close
    close_weighs = close_at (is_zero b) refl

    inside_weighs : (r : Option Verdict) → HIf r → H (elim r [ Some v ↦ v | None ↦ token behind k b x xs ])
    inside_weighs None h = token_weighs (first_standing operators (x ∷ xs))
    inside_weighs (Some v) h = h

    blanks_weighs : (n : ℕ) → H (blanks s behind k b x xs n)
    blanks_weighs zero = inside_weighs (close s k b x xs) close_weighs
    blanks_weighs (suc n) = (same, refl)

    -- the ends of line statements

    rest_at : (c : Bool) → is_zero b ≡ c → ZeroIf (elim c [ true ↦ line_rest (white_run (inline_white s) (x ∷ xs)) (drop (white_run (inline_white s) (x ∷ xs)) (x ∷ xs)) | false ↦ None ])
    rest_at true e = zero_if (line_rest (white_run (inline_white s) (x ∷ xs)) (drop (white_run (inline_white s) (x ∷ xs)) (x ∷ xs))) (zero_is b e)
    rest_at false e = tt

    statement_ends : (j : BlockSentinel) → ZeroIf (statement_end s j b (x ∷ xs))
    statement_ends Variable = tt
    statement_ends Block = tt
    statement_ends Expression = tt
    statement_ends LineStatement = rest_at (is_zero b) refl

    statement_weighs : (r : Option ℕ) → ZeroIf r → H (elim r [ Some n ↦ plain BlockEnd n Template Nothing | None ↦ blanks s behind k b x xs (blank_run (x ∷ xs)) ])
    statement_weighs None e = blanks_weighs (blank_run (x ∷ xs))
    statement_weighs (Some n) e = (same, inl e)

-- at the template's end

end_weighs : (k : BlockSentinel) (b : ℤ) → Weighs [] b (tag_end k)
end_weighs Variable b = tt
end_weighs Block b = tt
end_weighs Expression b = tt
end_weighs LineStatement b = (sym (+ℤ_idr b), inr (refl, refl))

tag_weighs : (s : Config) (behind : List ℕ) (k : BlockSentinel) (b : ℤ) (xs : List ℕ) → Weighs xs b (tag_verdict s behind k b xs)
unfolding tag_verdict
tag_weighs s behind k b [] = end_weighs k b
tag_weighs s behind k b (x ∷ xs) = statement_weighs s behind k b (x ∷ xs) x xs (statement_end s k b (x ∷ xs)) (statement_ends s behind k b (x ∷ xs) x xs k)

-- anywhere

none_weighs : (os : List Opening) (s : Config) (behind : List ℕ) (b : ℤ) → Weighs [] b (text_verdict os s behind [] Nothing)
unfolding text_verdict text
none_weighs os s behind b = tt

over_weighs : (b : ℤ) (xs : List ℕ) → Weighs xs b (over_verdict xs)
over_weighs b [] = tt
over_weighs b (x ∷ xs) = tt

-- each verdict's piece adds its weight to the balance
pub verdict_weighs : (os : List Opening) (s : Config) (behind xs : List ℕ) (m : LexerState) (w : Pending) (b : ℤ) → Balanced m w xs b → Weighs xs b (verdict_by os s behind xs m w)
verdict_weighs os s behind xs Template w b h = ⊎_elim
    (λ e. subst (λ c. Weighs xs c (text_verdict os s behind xs w)) (sym e) (waiting_weighs xs os s behind xs w))
    (λ e. subst (λ v. Weighs xs b (text_verdict os s behind xs v)) (sym e.0) (subst (λ ys. Weighs ys b (text_verdict os s behind ys Nothing)) (sym e.1) (none_weighs os s behind b)))
    h
verdict_weighs os s behind xs (Inside k a) w b h = subst (λ c. Weighs xs c (tag_verdict s behind k a xs)) (sym h) (tag_weighs s behind k a xs)
verdict_weighs os s behind xs Over w b h = over_weighs b xs
