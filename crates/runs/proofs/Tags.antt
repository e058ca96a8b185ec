-- Nothing is misnamed inside tags.
use Rattle.std.proofs.Common.{◌≡◌, ℕ, zero, suc, ◌+◌, ◌<◌, ◌≤◌, Bool, true, false, ◌&&◌, ◌||◌, eqb, List, [], ◌∷◌, length, get_or, take, drop, ℤ, Some, None, Ok, Err, Option, Result, sym, refl, ap, ◌∙◌, subst, inl, inr, arith}
use Rattle.std.proofs.lemmas.List.{drop-drop, length-drop, length-take}
use Rattle.byte_search.specs.Search.{stands_at, first_in}
use Rattle.decode.specs.Decoding.{decoded_len}
use Rattle.finder.specs.Finding.{Opening}
use Rattle.spaces.specs.Lines.{blank_run, line_end, LineEnd}
use Rattle.spaces.specs.Runs.{run_after, white_run, AllPass, Longest}
use Rattle.spaces.specs.Spaces.{white_space}
use Rattle.spaces.proofs.Lines.{line_told}
use Rattle.spaces.proofs.Runs.{run_longest as white_longest}
use Rattle.escape.specs.declared.fault.DecodeFault.{DecodeFault}
use Rattle.pieces.specs.declared.kind.Kind.TheVariants.{BlockEnd, Ident, Str}
use Rattle.pieces.specs.declared.kind.Operator.{Operator}
use Rattle.pieces.specs.declared.fault.FaultKind.TheVariants.{UnendedString, NoToken}
use Rattle.rules.specs.declared.BlockSentinel.{BlockSentinel}
use Rattle.rules.specs.declared.BlockSentinel.TheVariants.{Variable, Block, LineStatement, Expression}
use Rattle.rules.specs.declared.LexerState.{LexerState}
use Rattle.rules.specs.declared.LexerState.TheVariants.{Template, Inside}
use Rattle.rules.specs.declared.Pending.TheVariants.{Nothing}
use Rattle.rules.specs.declared.whitespace.Whitespace.{Whitespace}
use Rattle.rules.specs.declared.whitespace.Whitespace.TheVariants.{Default, Preserve, Remove}
use Rattle.rules.specs.Config.{Config, white, inline_white}
use Rattle.rules.specs.Bytes.{is_digit, is_sign, sign_of, leads_name, is_name_part, run, LongestRun, behind_at}
use Rattle.rules.specs.Numbers.{number}
use Rattle.rules.specs.Reading.{left_len}
use Rattle.rules.specs.State.{told, plain, Verdict, fault}
use Rattle.rules.specs.Strings.{quote_end, decoded, string_of, string}
use Rattle.rules.specs.Tags.{operators, first_standing, dot_behind, literal, token_by, token, end_of, trim_by, closing, closes, close_by, is_zero, close, blanks, line_rest, statement_end, tag_end, tag_verdict}
use Rattle.rules.specs.Texts.{Basic, basic_end}
use Rattle.rules.proofs.Lengths.{blank_le, white_le, Below, quote_le}
use Rattle.rules.proofs.Runs.{run_longest}
use Rattle.runs.specs.Named.{IsQuoted, IsEnd, IsStatementEnd}
use Rattle.runs.proofs.Whites.{blanks_pass}
use Rattle.runs.proofs.Gaps.{WaitsAt, Holds, tail_waits, left_has, white_named}
use Rattle.runs.proofs.Numbers.{number_holds}
use Rattle.runs.proofs.Reached.{left_le}

module _ (os : List Opening) (s : Config) (t : List ℕ) (i : ℕ) where
  abbrev H : Verdict → Type 0
  H v = Holds os s t i v

  -- what the cut leaves
  abbrev left : List ℕ
  left = take (left_len s t) t

  -- the ends of tags

  trim_waits : (g : Whitespace) (j : ℕ) → WaitsAt os s (take (left_len s t) t) j (trim_by g)
  trim_waits Remove j = tt
  trim_waits Preserve j = tt
  trim_waits Default j = tt

  -- what is kept of the bytes before
  abbrev behind : List ℕ
  behind = behind_at t i

  -- a verdict that may not be there
  abbrev HoldsIf : Option Verdict → Type 0
  HoldsIf None = Unit {0}
  HoldsIf (Some v) = H v

  -- the end of a line statement that may not be there
  abbrev EndsIf : Option ℕ → Type 0
  EndsIf None = Unit {0}
  EndsIf (Some n) = IsStatementEnd s left i (i + n)

  module _ (x : ℕ) (xs : List ℕ) (e : x ∷ xs ≡ drop i left) where
    -- behind so many of the bytes ahead
    behind_them : (n : ℕ) → drop n (x ∷ xs) ≡ drop (i + n) left
    behind_them n = ap (drop n) e ∙ drop-drop n i left

    -- strings

    quoted_holds : (n : ℕ) → (eqb x 34 || eqb x 39) ≡ true → quote_end x false xs ≡ Some n → IsQuoted n left i (i + (length (take n xs) + 2))
    quoted_holds n q f =
        let b : n < length xs = subst (Below xs) f (quote_le x false xs) in
        let l = length-take n xs in
        let g : quote_end x false (drop (i + 1) left) ≡ Some n = subst (λ l. quote_end x false l ≡ Some n) (behind_them 1) f in
        (subst (λ l. (eqb (get_or l 0 0) 34 || eqb (get_or l 0 0) 39) ≡ true) e q, subst (λ l. quote_end (get_or l 0 0) false (drop (i + 1) left) ≡ Some n) e g, omega arith)

    module _ (m : LexerState) (n : ℕ) (quoted : IsQuoted n left i (i + (length (take n xs) + 2))) where
      decoded_holds : (k : ℕ) → first_in (92 ∷ []) (take n xs) ≡ Some k → (r : Result ℕ DecodeFault) → decoded_len (take n xs) ≡ r
          → H (decoded (length (take n xs)) m r)
      decoded_holds k f (Ok v) g =
          let a = subst (λ l. first_in (92 ∷ []) (take n l) ≡ Some k) (behind_them 1) f in
          let b = subst (λ l. decoded_len (take n l) ≡ Ok v) (behind_them 1) g in
          (tt, ((n, quoted, k, a), (n, quoted, v, b, refl)), tt)
      decoded_holds k f (Err h) g = tt

      string_of_by : (o : Option ℕ) → first_in (92 ∷ []) (take n xs) ≡ o → (r : Result ℕ DecodeFault) → decoded_len (take n xs) ≡ r
          → H (elim o [ None ↦ told Str (length (take n xs) + 2) 1 (length (take n xs) + 1) None m Nothing | Some k ↦ decoded (length (take n xs)) m r ])
      string_of_by None f r g = (tt, ((n, quoted, subst (λ l. first_in (92 ∷ []) (take n l) ≡ None) (behind_them 1) f), refl), tt)
      string_of_by (Some k) f r g = decoded_holds k f r g

      string_of_holds : H (string_of m (take n xs))
      string_of_holds = string_of_by (first_in (92 ∷ []) (take n xs)) refl (decoded_len (take n xs)) refl

    string_by : (m : LexerState) → (eqb x 34 || eqb x 39) ≡ true → (r : Option ℕ) → quote_end x false xs ≡ r → H (elim r [ None ↦ fault UnendedString (suc (length xs)) | Some n ↦ string_of m (take n xs) ])
    string_by m q None f = tt
    string_by m q (Some n) f = string_of_holds m n (quoted_holds n q f)

    string_holds : (m : LexerState) → (eqb x 34 || eqb x 39) ≡ true → H (string x m xs)
    unfolding string
    string_holds m q = string_by m q (quote_end x false xs) refl

    -- tokens

    abbrev name : LexerState → Bool → Verdict
    name m b = elim b [ true ↦ plain Ident (run is_name_part (x ∷ xs)) m Nothing | false ↦ fault NoToken 0 ]

    name_holds : (m : LexerState) (b : Bool) → leads_name x ≡ b → H (name m b)
    name_holds m true f =
        let n : ℕ = run is_name_part (x ∷ xs) in
        let l = subst (λ l. LongestRun is_name_part l n) e (run_longest is_name_part (x ∷ xs)) in
        (tt, ((n, subst (λ l. leads_name (get_or l 0 0) ≡ true) e f, l, refl), refl), tt)
    name_holds m false f = tt

    other_holds : (m : LexerState) (b : Bool) → is_digit x ≡ b → H (elim b [ true ↦ number (dot_behind behind) m (x ∷ xs) | false ↦ name m (leads_name x) ])
    other_holds m true f =
        let z = ap length e in
        let h : i ≤ length left = omega (arith, length-drop i left) in
        subst (λ l. H (number (dot_behind behind) m l)) (sym e) (number_holds os s t i h m (subst (λ l. is_digit (get_or l 0 0) ≡ true) e f))
    other_holds m false f = name_holds m (leads_name x) refl

    literal_by : (m : LexerState) (b : Bool) → (eqb x 34 || eqb x 39) ≡ b
        → H (elim b [ true ↦ string x m xs | false ↦ elim (is_digit x) [ true ↦ number (dot_behind behind) m (x ∷ xs) | false ↦ name m (leads_name x) ] ])
    literal_by m true q = string_holds m q
    literal_by m false q = other_holds m (is_digit x) refl

    literal_holds : (m : LexerState) → H (literal behind m x xs)
    unfolding literal
    literal_holds m = literal_by m (eqb x 34 || eqb x 39) refl

    token_by_holds : (k : BlockSentinel) (b : ℤ) (o : Option Operator) → first_standing operators (x ∷ xs) ≡ o → H (token_by o behind k b x xs)
    token_by_holds k b None f = literal_holds (Inside k b)
    token_by_holds k b (Some o) f = (tt, ((ap (first_standing operators) (sym e) ∙ f, refl), refl), tt)

    -- ends

    end_named : (d : List ℕ) (r : Basic) → basic_end d 0 (x ∷ xs) ≡ Some r → IsEnd d left i (i + r.0)
    end_named d r f = (r, ap (basic_end d 0) (sym e) ∙ f, refl)

    module _ (k : BlockSentinel) (d : List ℕ) (each : (r : Basic) → basic_end d 0 (x ∷ xs) ≡ Some r → H (closing s k r.1 r.0 (x ∷ xs))) where
      abbrev alone : Option Basic
      alone = elim (stands_at d (x ∷ xs)) [ true ↦ Some (0 + length d, Default) | false ↦ None ]

      abbrev signed : Bool → Option Basic
      signed b = elim b [ true ↦ Some (0 + suc (length d), sign_of x) | false ↦ alone ]

      closes_by : (b c : Bool) → (is_sign x && stands_at d xs) ≡ b → stands_at d (x ∷ xs) ≡ c
          → HoldsIf (elim b [ true ↦ Some (closing s k (sign_of x) (suc (length d)) (x ∷ xs)) | false ↦ elim c [ true ↦ Some (closing s k Default (length d) (x ∷ xs)) | false ↦ None ] ])
      closes_by true c p q =
          let z : 0 + suc (length d) ≡ suc (length d) = omega arith in
          each (suc (length d), sign_of x) (ap signed p ∙ ap (λ n. Some (n, sign_of x)) z)
      closes_by false true p q =
          let z : 0 + length d ≡ length d = omega arith in
          each (length d, Default) (ap signed p ∙ ap (λ b. elim b as (λ _. Option Basic) [ true ↦ Some (0 + length d, Default) | false ↦ None ]) q ∙ ap (λ n. Some (n, Default)) z)
      closes_by false false p q = tt

      closes_holds : HoldsIf (closes s k d x xs)
      closes_holds = closes_by (is_sign x && stands_at d xs) (stands_at d (x ∷ xs)) refl refl

    close_by_holds : (k : BlockSentinel) → HoldsIf (close_by s k (end_of s k) x xs)
    close_by_holds Variable = closes_holds Variable s.variable_end (λ r f. (tt, (end_named s.variable_end r f, refl), trim_waits r.1 (i + r.0)))
    close_by_holds Expression = closes_holds Expression s.variable_end (λ r f. (tt, (end_named s.variable_end r f, refl), tt))
    close_by_holds Block = closes_holds Block s.block_end (λ r f. (tt, (inl (end_named s.block_end r f), refl), tail_waits os s left (i + r.0) r.1 (drop r.0 (x ∷ xs)) (behind_them r.0)))
    close_by_holds LineStatement = tt

    close_holds : (k : BlockSentinel) (b : ℤ) → HoldsIf (close s k b x xs)
    unfolding close
    close_holds k b = elim (is_zero b) as (λ z. HoldsIf (elim z [ true ↦ close_by s k (end_of s k) x xs | false ↦ None ])) [ true ↦ close_by_holds k | false ↦ tt ]

    inside_holds : (k : BlockSentinel) (b : ℤ) (r : Option Verdict) → HoldsIf r → H (elim r [ Some v ↦ v | None ↦ token behind k b x xs ])
    inside_holds k b None h = token_by_holds k b (first_standing operators (x ∷ xs)) refl
    inside_holds k b (Some v) h = h

    blanks_holds : s.spaces ≡ white_space → (k : BlockSentinel) (b : ℤ) (n : ℕ) → n ≡ blank_run (x ∷ xs) → H (blanks s behind k b x xs n)
    blanks_holds w k b zero f = inside_holds k b (close s k b x xs) (close_holds k b)
    blanks_holds w k b (suc n) f =
        let a : AllPass (white s) (take (suc n) (drop i left)) = subst (λ l. AllPass (white s) (take (suc n) l)) e (subst (λ j. AllPass (white s) (take j (x ∷ xs))) (sym f) (blanks_pass s w (x ∷ xs))) in
        let l = blank_le (x ∷ xs) in
        let z = ap length e in
        (tt, (white_named os s t i (suc n) (left_has t (left_len s t) i (suc n) (omega arith) (omega arith)) a, refl), tt)

    -- the ends of line statements

    abbrev spaces : ℕ
    spaces = white_run (inline_white s) (x ∷ xs)

    spaces_longest : Longest (inline_white s) (drop i left) spaces
    spaces_longest = subst (λ l. Longest (inline_white s) l spaces) e (white_longest (inline_white s) (x ∷ xs))

    line_ends : (n : ℕ) → n ≡ line_end (drop spaces (x ∷ xs)) → LineEnd (drop (i + spaces) left) n
    line_ends n f = line_told (drop (i + spaces) left) n (f ∙ ap line_end (behind_them spaces))

    rest_ends : (ys : List ℕ) → ys ≡ drop spaces (x ∷ xs) → EndsIf (line_rest spaces ys)
    rest_ends [] f =
        let a = ap length f in
        let b = ap length e in
        let w = white_le (inline_white s) (x ∷ xs) in
        (spaces, spaces_longest, 0, line_ends 0 (ap line_end f), omega arith, inr (omega (arith, length-drop spaces (x ∷ xs), length-drop i left)))
    rest_ends (y ∷ ys) f = some_end (line_end (y ∷ ys)) (ap line_end f)
      where
        some_end : (n : ℕ) → n ≡ line_end (drop spaces (x ∷ xs)) → EndsIf (elim n [ zero ↦ None | suc k ↦ Some (spaces + suc k) ])
        some_end zero g = tt
        some_end (suc k) g = (spaces, spaces_longest, suc k, line_ends (suc k) g, omega arith, inl (omega arith))

    statement_ends : (k : BlockSentinel) (b : ℤ) → EndsIf (statement_end s k b (x ∷ xs))
    statement_ends Variable b = tt
    statement_ends Block b = tt
    statement_ends Expression b = tt
    statement_ends LineStatement b = elim (is_zero b) as (λ z. EndsIf (elim z [ true ↦ line_rest spaces (drop spaces (x ∷ xs)) | false ↦ None ])) [ true ↦ rest_ends (drop spaces (x ∷ xs)) refl | false ↦ tt ]

    statement_by : s.spaces ≡ white_space → (k : BlockSentinel) (b : ℤ) (r : Option ℕ) → EndsIf r → H (elim r [ Some n ↦ plain BlockEnd n Template Nothing | None ↦ blanks s behind k b x xs (blank_run (x ∷ xs)) ])
    statement_by w k b (Some n) h = (tt, (inr h, refl), tt)
    statement_by w k b None h = blanks_holds w k b (blank_run (x ∷ xs)) refl

  -- at the template's end
  end_holds : (k : BlockSentinel) → i ≤ left_len s t → [] ≡ drop i left → H (tag_end k)
  unfolding run_after
  end_holds Variable h e = tt
  end_holds Block h e = tt
  end_holds Expression h e = tt
  end_holds LineStatement h e =
      let a = ap length e in
      let z : i + 0 ≡ i = omega arith in
      let l : Longest (inline_white s) (drop i left) 0 = subst (λ l. Longest (inline_white s) l 0) e (white_longest (inline_white s) []) in
      let n : LineEnd (drop (i + 0) left) 0 = line_told (drop (i + 0) left) 0 (ap line_end (e ∙ ap (λ k. drop k left) (sym z))) in
      (tt, (inr (0, l, 0, n, omega arith, inr (omega (arith, length-drop i left, length-take (left_len s t) t, left_le s t))), refl), tt)

  -- inside a tag a piece is what its kind says, and so is what waits behind it
  pub tag_holds : s.spaces ≡ white_space → i ≤ left_len s t → (k : BlockSentinel) (b : ℤ) (xs : List ℕ) → xs ≡ drop i left → H (tag_verdict s behind k b xs)
  unfolding tag_verdict
  tag_holds w h k b [] e = end_holds k h e
  tag_holds w h k b (x ∷ xs) e = statement_by x xs e w k b (statement_end s k b (x ∷ xs)) (statement_ends x xs e k b)
