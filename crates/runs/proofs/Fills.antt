-- Which pieces may have no byte.
use Rattle.std.proofs.Common.{◌≡◌, ℕ, zero, suc, ◌+◌, ◌-◌, ◌^◌, ◌<◌, ◌≤◌, Bool, true, false, ◌&&◌, ◌||◌, eqb, ltb, List, [], ◌∷◌, length, take, drop, ℤ, Some, None, Ok, Err, Option, Result, ◌⊎◌, refl, subst, inl, inr, ⊎_elim, arith}
use Rattle.std.proofs.lemmas.Bool.{cases_lt}
use Rattle.byte_search.specs.Search.{stands_at, first_in}
use Rattle.finder.specs.Finding.{Opening}
use Rattle.spaces.specs.Lines.{blank_run}
use Rattle.escape.specs.declared.fault.DecodeFault.{DecodeFault}
use Rattle.decode.specs.Decoding.{decoded_len}
use Rattle.pieces.specs.declared.kind.Kind.TheVariants.{RawText, BlockEnd, Ident, Str, Int, Big}
use Rattle.pieces.specs.declared.kind.Operator.{Operator}
use Rattle.pieces.specs.declared.fault.FaultKind.TheVariants.{UnendedString, UnendedRaw, NoToken, TrailingUnderscore, BadInteger}
use Rattle.rules.specs.declared.BlockSentinel.TheVariants.{Variable, Block, LineStatement, Expression}
use Rattle.rules.specs.declared.LexerState.{LexerState}
use Rattle.rules.specs.declared.LexerState.TheVariants.{Template, Inside, Over}
use Rattle.rules.specs.declared.NumberState.{NumberState}
use Rattle.rules.specs.declared.NumberState.TheVariants.{RadixInteger, Integer, Fraction, Exponent, ExponentSign, ExponentDigits}
use Rattle.rules.specs.declared.Pending.{Pending}
use Rattle.rules.specs.declared.Pending.TheVariants.{Nothing, Trim, Tail, Marker, RawBody, RawClose}
use Rattle.rules.specs.declared.Step.{Step}
use Rattle.rules.specs.declared.whitespace.Whitespace.{Whitespace}
use Rattle.rules.specs.declared.whitespace.Whitespace.TheVariants.{Default}
use Rattle.rules.specs.Bytes.{is_digit, is_sign, sign_of, leads_name, is_name_part, run, last_is}
use Rattle.rules.specs.Config.{Config, Ended}
use Rattle.rules.specs.Numbers.{base_of, scan, Scanned, value_of, integer, number_by, scanned, number}
use Rattle.rules.specs.Reading.{left_len, rank}
use Rattle.rules.specs.Shapes.{Forward}
use Rattle.rules.specs.State.{told, plain, Verdict, fault}
use Rattle.rules.specs.Strings.{quote_end, decoded, string_of, string}
use Rattle.rules.specs.Tags.{operators, first_standing, dot_behind, literal, token_by, is_zero, close, blanks, statement_end, tag_verdict}
use Rattle.rules.specs.Texts.{Basic, basic_end, find_closer, raw_text_by, raw_body, text_verdict, over_verdict, verdict_by}
use Rattle.runs.specs.Named.{IsEnd, IsStatementEnd, IsNamed, HasBytes}

-- a verdict's piece leads to where the rank is at least r, but for a raw text and the end of a block
abbrev pub Firm : ℕ → Verdict → Type 0
Firm r (Ok (Some p)) = (r ≤ rank p.state p.pending) ⊎ (p.kind ≡ RawText) ⊎ (p.kind ≡ BlockEnd)
Firm r (Ok None) = Unit {0}
Firm r (Err f) = Unit {0}

-- of the rank 0 nothing is asked
firm_none : (v : Verdict) → Firm 0 v
firm_none (Ok (Some p)) = inl (omega arith)
firm_none (Ok None) = tt
firm_none (Err f) = tt

-- inside a line statement

module _ (s : Config) (behind : List ℕ) (b : ℤ) where
  abbrev m : LexerState
  m = Inside LineStatement b

  abbrev H : Verdict → Type 0
  H v = Firm 1 v

  integer_firm : (n : ℕ) (v : Option ℕ) → H (integer n m v)
  integer_firm n None = tt
  integer_firm n (Some v) = elim (ltb v (2 ^ 64)) as (λ c. H (elim c [ true ↦ told Int n 0 n (Some v) m Nothing | false ↦ elim (ltb v (2 ^ 128)) [ true ↦ plain Big n m Nothing | false ↦ fault BadInteger n ] ])) [
    | true ↦ inl (omega arith)
    | false ↦ elim (ltb v (2 ^ 128)) as (λ c. H (elim c [ true ↦ plain Big n m Nothing | false ↦ fault BadInteger n ])) [ true ↦ inl (omega arith) | false ↦ tt ]
  ]

  number_by_firm : (q : NumberState) (base n : ℕ) (xs : List ℕ) → H (number_by q base n m xs)
  number_by_firm RadixInteger base n xs = integer_firm n (value_of base xs)
  number_by_firm Integer base n xs = integer_firm n (value_of base xs)
  number_by_firm Fraction base n xs = inl (omega arith)
  number_by_firm Exponent base n xs = tt
  number_by_firm ExponentSign base n xs = tt
  number_by_firm ExponentDigits base n xs = inl (omega arith)

  scanned_firm : (base skip : ℕ) (xs : List ℕ) (r : Scanned) → H (scanned base skip m xs r)
  scanned_firm base skip xs r = elim (last_is 95 (take r.0 xs)) as (λ c. H (elim c [ true ↦ fault TrailingUnderscore (skip + r.0) | false ↦ number_by r.1 base (skip + r.0) m (take r.0 xs) ])) [
    | true ↦ tt
    | false ↦ number_by_firm r.1 base (skip + r.0) (take r.0 xs)
  ]

  number_firm : (dotted : Bool) (xs : List ℕ) → H (number dotted m xs)
  unfolding number
  number_firm dotted xs = elim (eqb (base_of xs) 10) as (λ c. H (elim c [ true ↦ scanned 10 0 m xs (scan 10 dotted Integer xs) | false ↦ scanned (base_of xs) 2 m (drop 2 xs) (scan (base_of xs) dotted RadixInteger (drop 2 xs)) ])) [
    | true ↦ scanned_firm 10 0 xs (scan 10 dotted Integer xs)
    | false ↦ scanned_firm (base_of xs) 2 (drop 2 xs) (scan (base_of xs) dotted RadixInteger (drop 2 xs))
  ]

  decoded_firm : (n : ℕ) (r : Result ℕ DecodeFault) → H (decoded n m r)
  decoded_firm n (Ok v) = inl (omega arith)
  decoded_firm n (Err f) = tt

  string_of_firm : (xs : List ℕ) → H (string_of m xs)
  string_of_firm xs = elim (first_in (92 ∷ []) xs) as (λ r. H (elim r [ None ↦ told Str (length xs + 2) 1 (length xs + 1) None m Nothing | Some j ↦ decoded (length xs) m (decoded_len xs) ])) [
    | None ↦ inl (omega arith)
    | Some j ↦ decoded_firm (length xs) (decoded_len xs)
  ]

  string_firm : (q : ℕ) (xs : List ℕ) → H (string q m xs)
  unfolding string
  string_firm q xs = elim (quote_end q false xs) as (λ r. H (elim r [ None ↦ fault UnendedString (suc (length xs)) | Some n ↦ string_of m (take n xs) ])) [
    | None ↦ tt
    | Some n ↦ string_of_firm (take n xs)
  ]

  module _ (x : ℕ) (xs : List ℕ) where
    abbrev name : Bool → Verdict
    name c = elim c [ true ↦ plain Ident (run is_name_part (x ∷ xs)) m Nothing | false ↦ fault NoToken 0 ]

    name_firm : (c : Bool) → H (name c)
    name_firm true = inl (omega arith)
    name_firm false = tt

    literal_firm : H (literal behind m x xs)
    unfolding literal
    literal_firm = elim (eqb x 34 || eqb x 39) as (λ c. H (elim c [ true ↦ string x m xs | false ↦ elim (is_digit x) [ true ↦ number (dot_behind behind) m (x ∷ xs) | false ↦ name (leads_name x) ] ])) [
      | true ↦ string_firm x xs
      | false ↦ elim (is_digit x) as (λ c. H (elim c [ true ↦ number (dot_behind behind) m (x ∷ xs) | false ↦ name (leads_name x) ])) [
        | true ↦ number_firm (dot_behind behind) (x ∷ xs)
        | false ↦ name_firm (leads_name x)
      ]
    ]

    token_firm : (o : Option Operator) → H (token_by o behind LineStatement b x xs)
    token_firm None = literal_firm
    token_firm (Some o) = inl (omega arith)

    -- no end but that of its line closes it
    blanks_firm : (n : ℕ) → H (blanks s behind LineStatement b x xs n)
    unfolding close
    blanks_firm zero = elim (is_zero b) as (λ c. H (elim (elim c as (λ _. Option Verdict) [ true ↦ None | false ↦ None ]) [ Some v ↦ v | None ↦ token_by (first_standing operators (x ∷ xs)) behind LineStatement b x xs ])) [
      | true ↦ token_firm (first_standing operators (x ∷ xs))
      | false ↦ token_firm (first_standing operators (x ∷ xs))
    ]
    blanks_firm (suc n) = inl (omega arith)

    statement_firm : (r : Option ℕ) → H (elim r [ Some n ↦ plain BlockEnd n Template Nothing | None ↦ blanks s behind LineStatement b x xs (blank_run (x ∷ xs)) ])
    statement_firm None = blanks_firm (blank_run (x ∷ xs))
    statement_firm (Some n) = inr (inr refl)

  line_firm : (xs : List ℕ) → H (tag_verdict s behind LineStatement b xs)
  unfolding tag_verdict
  line_firm [] = inr (inr refl)
  line_firm (x ∷ xs) = statement_firm x xs (statement_end s LineStatement b (x ∷ xs))

-- in a raw body
raw_firm : (s : Config) (behind xs : List ℕ) (os : List Opening) (g : Whitespace) → Firm 1 (text_verdict os s behind xs (RawBody g))
unfolding text_verdict raw_body
raw_firm s behind xs os g = elim (find_closer s xs) as (λ r. Firm 1 (elim r [ None ↦ fault UnendedRaw (length xs) | Some f ↦ raw_text_by s g behind (take f.0 xs) f.1 ])) [
  | None ↦ tt
  | Some f ↦ inr (inl refl)
]

-- a verdict's piece takes no rank away, but for these two kinds: so any other has a byte, since the rank or the bytes ahead must fall
pub firm : (os : List Opening) (s : Config) (behind xs : List ℕ) (m : LexerState) (w : Pending) → Firm (rank m w) (verdict_by os s behind xs m w)
firm os s behind xs Template Nothing = firm_none (text_verdict os s behind xs Nothing)
firm os s behind xs Template Trim = firm_none (text_verdict os s behind xs Trim)
firm os s behind xs Template (Tail n) = firm_none (text_verdict os s behind xs (Tail n))
firm os s behind xs Template (Marker m g n) = firm_none (text_verdict os s behind xs (Marker m g n))
firm os s behind xs Template (RawBody g) = raw_firm s behind xs os g
firm os s behind xs Template (RawClose n g) = firm_none (text_verdict os s behind xs (RawClose n g))
firm os s behind xs (Inside Variable b) w = firm_none (tag_verdict s behind Variable b xs)
firm os s behind xs (Inside Block b) w = firm_none (tag_verdict s behind Block b xs)
firm os s behind xs (Inside LineStatement b) w = line_firm s behind b xs
firm os s behind xs (Inside Expression b) w = firm_none (tag_verdict s behind Expression b xs)
firm os s behind xs Over w = firm_none (over_verdict xs)

-- the end of a tag has a byte, since what ends it has one
abbrev HasByte : Option Basic → Type 0
HasByte None = Unit {0}
HasByte (Some r) = 0 < r.0

end_has : (e xs : List ℕ) → 0 < length e → HasByte (basic_end e 0 xs)
end_has e [] h = tt
end_has e (x ∷ xs) h = elim (is_sign x && stands_at e xs) as (λ c. HasByte (elim c [ true ↦ Some (0 + suc (length e), sign_of x) | false ↦ elim (stands_at e (x ∷ xs)) [ true ↦ Some (0 + length e, Default) | false ↦ None ] ])) [
  | true ↦ omega arith
  | false ↦ elim (stands_at e (x ∷ xs)) as (λ c. HasByte (elim c [ true ↦ Some (0 + length e, Default) | false ↦ None ])) [ true ↦ omega arith | false ↦ tt ]
]

module _ (os : List Opening) (s : Config) (t : List ℕ) (i : ℕ) (m : LexerState) (w : Pending) (p : Step) where
  abbrev left : List ℕ
  left = take (left_len s t) t

  -- the end of a line statement that has no byte is at the template's end
  empty_end : p.kind ≡ BlockEnd → Ended s → IsEnd s.block_end left i (i + p.len) ⊎ IsStatementEnd s left i (i + p.len) → HasBytes s left i (i + p.len) p.kind
  empty_end e ends (inl a) = let h = subst HasByte a.1 (end_has s.block_end (drop i left) ends.block) in inl (omega (arith, h, a.2))
  empty_end e ends (inr a) = ⊎_elim
      (λ h. inl (omega (arith, a.4)))
      (λ h. inr (inr (e, a, h)))
      a.5

  -- only a raw text, and the end of a line statement at the template's end, may have no byte
  pub has_bytes : Ended s → Forward (left_len s t - i) m w p → Firm (rank m w) (Ok (Some p)) → IsNamed os s t i (i + p.len) p.kind → HasBytes s left i (i + p.len) p.kind
  has_bytes ends f c n = ⊎_elim
      (λ h. inl (omega arith))
      (λ z. ⊎_elim
      (λ h. let l = f.falls in inl (omega arith))
      (λ d. ⊎_elim
      (λ e. inr (inl e))
      (λ e. empty_end e ends (subst (IsNamed os s t i (i + p.len)) e n))
      d)
      c)
      (cases_lt 0 p.len)
