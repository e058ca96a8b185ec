-- Verdicts inside tags fit what is ahead.
use Rattle.std.proofs.Common.{◌≡◌, ℕ, zero, suc, ◌+◌, ◌^◌, ◌<◌, ◌≤◌, Bool, true, false, ◌&&◌, ◌||◌, eqb, ltb, List, [], ◌∷◌, length, take, drop, ℤ, pos, negsuc, ◌+ℤ◌, Some, None, Ok, Err, Option, Result, sym, refl, ap, subst, ⊎_elim, arith}
use lib.IntN.{suc_ℤ, pred_ℤ, +ℤ_one, -ℤ_one, +ℤ_idr}
use Rattle.std.proofs.lemmas.List.{length-drop, length-take}
use Rattle.std.proofs.lemmas.Bool.{cases_Bool, both_ways, and_parts}
use Rattle.std.proofs.lemmas.Bool.Decides.{nat_tests}
use Rattle.byte_search.specs.Search.{stands_at, first_in}
use Rattle.byte_search.proofs.Stands.{stands_fits}
use Rattle.spaces.specs.Lines.{blank_run, line_end}
use Rattle.spaces.specs.Runs.{white_run}
use Rattle.escape.specs.declared.fault.DecodeFault.{DecodeFault}
use Rattle.decode.specs.Decoding.{decoded_len}
use Rattle.pieces.specs.declared.kind.Kind.{Kind}
use Rattle.pieces.specs.declared.kind.Kind.TheVariants.{BlockEnd, Ident, Str, Int, Big, Float, White}
use Rattle.pieces.specs.declared.kind.Operator.{Operator}
use Rattle.pieces.specs.declared.kind.Operator.TheVariants.{Plus, Minus, Mul, Div, FloorDiv, Pow, Mod, Dot, Comma, Colon, Tilde, Assign, Pipe, Eq, Ne, Gt, Gte, Lt, Lte, BracketOpen, BracketClose, ParenOpen, ParenClose, BraceOpen, BraceClose}
use Rattle.pieces.specs.declared.fault.FaultKind.TheVariants.{UnendedString, NoToken, TrailingUnderscore, BadInteger}
use Rattle.pieces.specs.Kinds.{operator_text}
use Rattle.rules.specs.declared.BlockSentinel.{BlockSentinel}
use Rattle.rules.specs.declared.BlockSentinel.TheVariants.{Variable, Block, LineStatement, Expression}
use Rattle.rules.specs.declared.LexerState.{LexerState}
use Rattle.rules.specs.declared.LexerState.TheVariants.{Template, Inside}
use Rattle.rules.specs.declared.NumberState.{NumberState}
use Rattle.rules.specs.declared.NumberState.TheVariants.{RadixInteger, Integer, Fraction, Exponent, ExponentSign, ExponentDigits}
use Rattle.rules.specs.declared.Pending.{Pending}
use Rattle.rules.specs.declared.Pending.TheVariants.{Nothing}
use Rattle.rules.specs.declared.whitespace.Whitespace.{Whitespace}
use Rattle.rules.specs.declared.whitespace.Whitespace.TheVariants.{Default, Preserve, Remove}
use Rattle.rules.specs.Config.{Config, Ended, inline_white}
use Rattle.rules.specs.Bytes.{is_digit, is_sign, sign_of, leads_name, is_name_part, run, last_is}
use Rattle.rules.specs.Numbers.{base_of, turn, scan, Scanned, longer, value_of, integer, number_by, scanned, number}
use Rattle.rules.specs.Reading.{wait_rank}
use Rattle.rules.specs.Shapes.{held, least, magnitude, Fits}
use Rattle.rules.specs.State.{told, plain, Verdict, fault}
use Rattle.rules.specs.Strings.{quote_end, decoded, string_of, string}
use Rattle.rules.specs.Tags.{tail_of, tail, operators, first_standing, weight, dot_behind, literal, token_by, token, end_of, trim_by, closing, closes, close_by, is_zero, close, blanks, line_rest, statement_end, tag_end, tag_verdict}
use Rattle.rules.proofs.Lengths.{run_le, blank_le, white_le, line_end_le, Below, quote_le, scan_le}

-- what waits has a byte where it should, and is ahead
abbrev pub Fine : ℕ → Pending → Type 0
Fine n w = (0 < least w) × (held w ≤ n)

tail_of_fine : (k n : ℕ) → k ≤ n → Fine n (tail_of k)
tail_of_fine zero n h = (omega arith, omega arith)
tail_of_fine (suc k) n h = (omega arith, h)

pub tail_fine : (s : Config) (g : Whitespace) (xs : List ℕ) → Fine (length xs) (tail s g xs)
tail_fine s Remove xs = (omega arith, omega arith)
tail_fine s Preserve xs = (omega arith, omega arith)
tail_fine s Default xs = elim s.trim_blocks as (λ t. Fine (length xs) (elim t [ true ↦ tail_of (line_end xs) | false ↦ Nothing ])) [
  | true ↦ tail_of_fine (line_end xs) (length xs) (line_end_le xs)
  | false ↦ (omega arith, omega arith)
]

tail_of_rank : (k : ℕ) → wait_rank (tail_of k) ≡ 0
tail_of_rank zero = refl
tail_of_rank (suc k) = refl

pub tail_rank : (s : Config) (g : Whitespace) (xs : List ℕ) → wait_rank (tail s g xs) ≡ 0
tail_rank s Remove xs = refl
tail_rank s Preserve xs = refl
tail_rank s Default xs = elim s.trim_blocks as (λ t. wait_rank (elim t [ true ↦ tail_of (line_end xs) | false ↦ Nothing ]) ≡ 0) [ true ↦ tail_of_rank (line_end xs) | false ↦ refl ]

-- a piece that is all text, after which Tail follows
pub tailed : (s : Config) (g : Whitespace) (c : Kind) (n : ℕ) (xs : List ℕ) (m : LexerState) (w : Pending) → 0 < n → n ≤ length xs → Fits (length xs) m w (plain c n Template (tail s g (drop n xs)))
tailed s g c n xs m w p h =
    let f = tail_fine s g (drop n xs) in
    let l = length-drop n xs in
    let r = tail_rank s g (drop n xs) in
    record { ahead = omega (arith, f.1); lively = f.0; ordered = omega arith; inside = omega arith; falls = omega (arith, r); level = omega arith }

trim_fine : (g : Whitespace) (n : ℕ) → Fine n (trim_by g)
trim_fine Remove n = (omega arith, omega arith)
trim_fine Preserve n = (omega arith, omega arith)
trim_fine Default n = (omega arith, omega arith)

trim_rank : (g : Whitespace) → wait_rank (trim_by g) ≡ 0
trim_rank Remove = refl
trim_rank Preserve = refl
trim_rank Default = refl

trim_held : (g : Whitespace) → held (trim_by g) ≡ 0
trim_held Remove = refl
trim_held Preserve = refl
trim_held Default = refl

module _ (s : Config) (b : ℤ) (w : Pending) where
  closing_fits : (k : BlockSentinel) (g : Whitespace) (n : ℕ) (xs : List ℕ) → 0 < n → n ≤ length xs → Fits (length xs) (Inside k b) w (closing s k g n xs)
  closing_fits Variable g n xs p h =
      record { ahead = omega (arith, trim_held g); lively = (trim_fine g n).0; ordered = omega arith; inside = omega arith; falls = omega (arith, trim_rank g); level = omega arith }
  closing_fits Expression g n xs p h = record { ahead = omega arith; lively = omega arith; ordered = omega arith; inside = omega arith; falls = omega arith; level = omega arith }
  closing_fits Block g n xs p h = tailed s g BlockEnd n xs (Inside Block b) w p h
  closing_fits LineStatement g n xs p h = record { ahead = omega arith; lively = omega arith; ordered = omega arith; inside = omega arith; falls = omega arith; level = omega arith }

  -- a verdict that may not be there
  abbrev FitsIf : BlockSentinel → ℕ → Option Verdict → Type 0
  FitsIf k n None = Unit {0}
  FitsIf k n (Some v) = Fits n (Inside k b) w v

  closes_fits : (k : BlockSentinel) (e : List ℕ) (x : ℕ) (xs : List ℕ) → 0 < length e → FitsIf k (length (x ∷ xs)) (closes s k e x xs)
  closes_fits k e x xs p =
      let alone : Option Verdict = elim (stands_at e (x ∷ xs)) [ true ↦ Some (closing s k Default (length e) (x ∷ xs)) | false ↦ None ] in
      ⊎_elim
      (λ h.
      let l : length e ≤ length xs = stands_fits e xs (and_parts (is_sign x) (stands_at e xs) h).1 in
      subst (λ t. FitsIf k (length (x ∷ xs)) (elim t [ true ↦ Some (closing s k (sign_of x) (suc (length e)) (x ∷ xs)) | false ↦ alone ])) (sym h) (closing_fits k (sign_of x) (suc (length e)) (x ∷ xs) (omega arith) (omega arith)))
      (λ h.
      subst (λ t. FitsIf k (length (x ∷ xs)) (elim t [ true ↦ Some (closing s k (sign_of x) (suc (length e)) (x ∷ xs)) | false ↦ alone ])) (sym h)
      (⊎_elim
      (λ g. subst (λ t. FitsIf k (length (x ∷ xs)) (elim t [ true ↦ Some (closing s k Default (length e) (x ∷ xs)) | false ↦ None ])) (sym g) (closing_fits k Default (length e) (x ∷ xs) p (stands_fits e (x ∷ xs) g)))
      (λ g. subst (λ t. FitsIf k (length (x ∷ xs)) (elim t [ true ↦ Some (closing s k Default (length e) (x ∷ xs)) | false ↦ None ])) (sym g) tt)
      (cases_Bool (stands_at e (x ∷ xs)))))
      (cases_Bool (is_sign x && stands_at e xs))

  close_by_fits : Ended s → (k : BlockSentinel) (x : ℕ) (xs : List ℕ) → FitsIf k (length (x ∷ xs)) (close_by s k (end_of s k) x xs)
  close_by_fits e Variable x xs = closes_fits Variable s.variable_end x xs e.variable
  close_by_fits e Expression x xs = closes_fits Expression s.variable_end x xs e.variable
  close_by_fits e Block x xs = closes_fits Block s.block_end x xs e.block
  close_by_fits e LineStatement x xs = tt

  close_fits : Ended s → (k : BlockSentinel) (x : ℕ) (xs : List ℕ) → FitsIf k (length (x ∷ xs)) (close s k b x xs)
  unfolding close
  close_fits e k x xs = elim (is_zero b) as (λ t. FitsIf k (length (x ∷ xs)) (elim t [ true ↦ close_by s k (end_of s k) x xs | false ↦ None ])) [ true ↦ close_by_fits e k x xs | false ↦ tt ]

  -- a token of n bytes that stays inside the tag
  stays : (k : BlockSentinel) (c : Kind) (n l : ℕ) → 0 < n → n ≤ l → Fits l (Inside k b) w (plain c n (Inside k b) Nothing)
  stays k c n l p h = record { ahead = omega arith; lively = omega arith; ordered = omega arith; inside = omega arith; falls = omega arith; level = omega arith }

  -- numbers

  integer_fits : (k : BlockSentinel) (n l : ℕ) (v : Option ℕ) → 0 < n → n ≤ l → Fits l (Inside k b) w (integer n (Inside k b) v)
  integer_fits k n l None p h = h
  integer_fits k n l (Some v) p h =
      elim (ltb v (2 ^ 64)) as (λ t. Fits l (Inside k b) w (elim t [ true ↦ told Int n 0 n (Some v) (Inside k b) Nothing | false ↦ elim (ltb v (2 ^ 128)) [ true ↦ plain Big n (Inside k b) Nothing | false ↦ fault BadInteger n ] ])) [
        | true ↦ record { ahead = omega arith; lively = omega arith; ordered = omega arith; inside = omega arith; falls = omega arith; level = omega arith }
        | false ↦ elim (ltb v (2 ^ 128)) as (λ t. Fits l (Inside k b) w (elim t [ true ↦ plain Big n (Inside k b) Nothing | false ↦ fault BadInteger n ])) [ true ↦ stays k Big n l p h | false ↦ h ]
      ]

  number_by_fits : (q : NumberState) (base : ℕ) (k : BlockSentinel) (n l : ℕ) (xs : List ℕ) → 0 < n → n ≤ l → Fits l (Inside k b) w (number_by q base n (Inside k b) xs)
  number_by_fits RadixInteger base k n l xs p h = integer_fits k n l (value_of base xs) p h
  number_by_fits Integer base k n l xs p h = integer_fits k n l (value_of base xs) p h
  number_by_fits Fraction base k n l xs p h = stays k Float n l p h
  number_by_fits Exponent base k n l xs p h = h
  number_by_fits ExponentSign base k n l xs p h = h
  number_by_fits ExponentDigits base k n l xs p h = stays k Float n l p h

  scanned_fits : (base skip : ℕ) (k : BlockSentinel) (l : ℕ) (xs : List ℕ) (r : Scanned) → 0 < skip + r.0 → skip + r.0 ≤ l → Fits l (Inside k b) w (scanned base skip (Inside k b) xs r)
  scanned_fits base skip k l xs r p h =
      elim (last_is 95 (take r.0 xs)) as (λ t. Fits l (Inside k b) w (elim t [ true ↦ fault TrailingUnderscore (skip + r.0) | false ↦ number_by r.1 base (skip + r.0) (Inside k b) (take r.0 xs) ])) [
        | true ↦ h
        | false ↦ number_by_fits r.1 base k (skip + r.0) l (take r.0 xs) p h
      ]

-- a digit goes on with an integer
digit_turns : (dotted : Bool) (x : ℕ) (xs : List ℕ) → is_digit x ≡ true → turn 10 dotted Integer x xs ≡ Some Integer
digit_turns dotted x xs e = grind (arith, nat_tests)

scan_some : (dotted : Bool) (x : ℕ) (xs : List ℕ) → is_digit x ≡ true → 0 < (scan 10 dotted Integer (x ∷ xs)).0
unfolding scan
scan_some dotted x xs e = subst (λ r. 0 < (elim r as (λ _. Scanned) [ None ↦ (0, Integer) | Some q ↦ longer (scan 10 dotted q xs) ]).0) (sym (digit_turns dotted x xs e)) (omega arith)

prefix_fits : (x : ℕ) (xs : List ℕ) → eqb (base_of (x ∷ xs)) 10 ≡ false → 2 ≤ length (x ∷ xs)
prefix_fits x [] e = absurd (both_ways true e refl)
prefix_fits x (y ∷ ys) e = omega arith

module _ (s : Config) (b : ℤ) (w : Pending) where
  number_fits : (dotted : Bool) (k : BlockSentinel) (x : ℕ) (xs : List ℕ) → is_digit x ≡ true → Fits (length (x ∷ xs)) (Inside k b) w (number dotted (Inside k b) (x ∷ xs))
  unfolding number
  number_fits dotted k x xs d =
      let P : Bool → Type 0 = λ t. Fits (length (x ∷ xs)) (Inside k b) w (elim t [ true ↦ scanned 10 0 (Inside k b) (x ∷ xs) (scan 10 dotted Integer (x ∷ xs)) | false ↦ scanned (base_of (x ∷ xs)) 2 (Inside k b) (drop 2 (x ∷ xs)) (scan (base_of (x ∷ xs)) dotted RadixInteger (drop 2 (x ∷ xs))) ]) in
      ⊎_elim
      (λ e. subst P (sym e) (scanned_fits s b w 10 0 k (length (x ∷ xs)) (x ∷ xs) (scan 10 dotted Integer (x ∷ xs)) (omega (arith, scan_some dotted x xs d)) (omega (arith, scan_le 10 dotted Integer (x ∷ xs)))))
      (λ e.
      let two = prefix_fits x xs e in
      let l = length-drop 2 (x ∷ xs) in
      let u = scan_le (base_of (x ∷ xs)) dotted RadixInteger (drop 2 (x ∷ xs)) in
      subst P (sym e) (scanned_fits s b w (base_of (x ∷ xs)) 2 k (length (x ∷ xs)) (drop 2 (x ∷ xs)) (scan (base_of (x ∷ xs)) dotted RadixInteger (drop 2 (x ∷ xs))) (omega arith) (omega arith)))
      (cases_Bool (eqb (base_of (x ∷ xs)) 10))

  -- strings

  decoded_fits : (k : BlockSentinel) (n l : ℕ) (r : Result ℕ DecodeFault) → n + 2 ≤ l → Fits l (Inside k b) w (decoded n (Inside k b) r)
  decoded_fits k n l (Ok v) h = record { ahead = omega arith; lively = omega arith; ordered = omega arith; inside = omega arith; falls = omega arith; level = omega arith }
  decoded_fits k n l (Err f) h = h

  string_of_fits : (k : BlockSentinel) (l : ℕ) (xs : List ℕ) → length xs + 2 ≤ l → Fits l (Inside k b) w (string_of (Inside k b) xs)
  string_of_fits k l xs h =
      elim (first_in (92 ∷ []) xs) as (λ r. Fits l (Inside k b) w (elim r [ None ↦ told Str (length xs + 2) 1 (length xs + 1) None (Inside k b) Nothing | Some j ↦ decoded (length xs) (Inside k b) (decoded_len xs) ])) [
        | None ↦ record { ahead = omega arith; lively = omega arith; ordered = omega arith; inside = omega arith; falls = omega arith; level = omega arith }
        | Some j ↦ decoded_fits k (length xs) l (decoded_len xs) h
      ]

  string_by_fits : (k : BlockSentinel) (xs : List ℕ) (r : Option ℕ) → Below xs r → Fits (suc (length xs)) (Inside k b) w (elim r [ None ↦ fault UnendedString (suc (length xs)) | Some n ↦ string_of (Inside k b) (take n xs) ])
  string_by_fits k xs None h = omega arith
  string_by_fits k xs (Some n) h = let l = length-take n xs in string_of_fits k (suc (length xs)) (take n xs) (omega arith)

  string_fits : (q : ℕ) (k : BlockSentinel) (xs : List ℕ) → Fits (suc (length xs)) (Inside k b) w (string q (Inside k b) xs)
  unfolding string
  string_fits q k xs = string_by_fits k xs (quote_end q false xs) (quote_le q false xs)

  name_some : (x : ℕ) (xs : List ℕ) → leads_name x ≡ true → 0 < run is_name_part (x ∷ xs)
  unfolding run
  name_some x xs e = subst (λ t. 0 < elim t [ true ↦ suc (run is_name_part xs) | false ↦ 0 ]) (sym (ap (λ t. t || is_digit x) e)) (omega arith)

  literal_fits : (behind : List ℕ) (k : BlockSentinel) (x : ℕ) (xs : List ℕ) → Fits (length (x ∷ xs)) (Inside k b) w (literal behind (Inside k b) x xs)
  unfolding literal
  literal_fits behind k x xs =
      let third : Verdict = elim (leads_name x) [ true ↦ plain Ident (run is_name_part (x ∷ xs)) (Inside k b) Nothing | false ↦ fault NoToken 0 ] in
      let second : Verdict = elim (is_digit x) [ true ↦ number (dot_behind behind) (Inside k b) (x ∷ xs) | false ↦ third ] in
      let P : Verdict → Type 0 = λ v. Fits (length (x ∷ xs)) (Inside k b) w v in
      ⊎_elim
      (λ e. subst (λ t. P (elim t [ true ↦ string x (Inside k b) xs | false ↦ second ])) (sym e) (string_fits x k xs))
      (λ e. subst (λ t. P (elim t [ true ↦ string x (Inside k b) xs | false ↦ second ])) (sym e)
      (⊎_elim
      (λ f. subst (λ t. P (elim t [ true ↦ number (dot_behind behind) (Inside k b) (x ∷ xs) | false ↦ third ])) (sym f) (number_fits (dot_behind behind) k x xs f))
      (λ f. subst (λ t. P (elim t [ true ↦ number (dot_behind behind) (Inside k b) (x ∷ xs) | false ↦ third ])) (sym f)
      (⊎_elim
      (λ g. subst (λ t. P (elim t [ true ↦ plain Ident (run is_name_part (x ∷ xs)) (Inside k b) Nothing | false ↦ fault NoToken 0 ])) (sym g) (stays s b w k Ident (run is_name_part (x ∷ xs)) (length (x ∷ xs)) (name_some x xs g) (run_le is_name_part (x ∷ xs))))
      (λ g. subst (λ t. P (elim t [ true ↦ plain Ident (run is_name_part (x ∷ xs)) (Inside k b) Nothing | false ↦ fault NoToken 0 ])) (sym g) (omega arith))
      (cases_Bool (leads_name x))))
      (cases_Bool (is_digit x))))
      (cases_Bool (eqb x 34 || eqb x 39))

-- operators

abbrev Stood : List ℕ → Option Operator → Type 0
Stood xs None = Unit {0}
Stood xs (Some o) = stands_at (operator_text o) xs ≡ true

stood : (os : List Operator) (xs : List ℕ) → Stood xs (first_standing os xs)
unfolding first_standing
stood [] xs = tt
stood (o ∷ os) xs = ⊎_elim
    (λ e. subst (λ t. Stood xs (elim t [ true ↦ Some o | false ↦ first_standing os xs ])) (sym e) e)
    (λ e. subst (λ t. Stood xs (elim t [ true ↦ Some o | false ↦ first_standing os xs ])) (sym e) (stood os xs))
    (cases_Bool (stands_at (operator_text o) xs))

suc_level : (b : ℤ) → magnitude (suc_ℤ b) ≤ magnitude b + 1
suc_level (pos n) = omega arith
suc_level (negsuc zero) = omega arith
suc_level (negsuc (suc n)) = omega arith

pred_level : (b : ℤ) → magnitude (pred_ℤ b) ≤ magnitude b + 1
pred_level (pos zero) = omega arith
pred_level (pos (suc n)) = omega arith
pred_level (negsuc n) = omega arith

up_level : (b : ℤ) (n : ℕ) → 0 < n → magnitude (b +ℤ pos 1) ≤ magnitude b + n
up_level b n p = let e = ap magnitude (+ℤ_one b) in omega (arith, e, suc_level b)

down_level : (b : ℤ) (n : ℕ) → 0 < n → magnitude (b +ℤ negsuc 0) ≤ magnitude b + n
down_level b n p = let e = ap magnitude (-ℤ_one b) in omega (arith, e, pred_level b)

same_level : (b : ℤ) (n : ℕ) → magnitude (b +ℤ pos 0) ≤ magnitude b + n
same_level b n = let e = ap magnitude (+ℤ_idr b) in omega (arith, e)

weigh : (b : ℤ) (o : Operator) → (0 < length (operator_text o)) × (magnitude (b +ℤ weight o) ≤ magnitude b + length (operator_text o))
weigh b Plus = (omega arith, same_level b 1)
weigh b Minus = (omega arith, same_level b 1)
weigh b Mul = (omega arith, same_level b 1)
weigh b Div = (omega arith, same_level b 1)
weigh b FloorDiv = (omega arith, same_level b 2)
weigh b Pow = (omega arith, same_level b 2)
weigh b Mod = (omega arith, same_level b 1)
weigh b Dot = (omega arith, same_level b 1)
weigh b Comma = (omega arith, same_level b 1)
weigh b Colon = (omega arith, same_level b 1)
weigh b Tilde = (omega arith, same_level b 1)
weigh b Assign = (omega arith, same_level b 1)
weigh b Pipe = (omega arith, same_level b 1)
weigh b Eq = (omega arith, same_level b 2)
weigh b Ne = (omega arith, same_level b 2)
weigh b Gt = (omega arith, same_level b 1)
weigh b Gte = (omega arith, same_level b 2)
weigh b Lt = (omega arith, same_level b 1)
weigh b Lte = (omega arith, same_level b 2)
weigh b BracketOpen = (omega arith, up_level b 1 (omega arith))
weigh b BracketClose = (omega arith, down_level b 1 (omega arith))
weigh b ParenOpen = (omega arith, up_level b 1 (omega arith))
weigh b ParenClose = (omega arith, down_level b 1 (omega arith))
weigh b BraceOpen = (omega arith, up_level b 1 (omega arith))
weigh b BraceClose = (omega arith, down_level b 1 (omega arith))

module _ (s : Config) (b : ℤ) (w : Pending) where
  token_by_fits : (behind : List ℕ) (k : BlockSentinel) (x : ℕ) (xs : List ℕ) (o : Option Operator) → Stood (x ∷ xs) o → Fits (length (x ∷ xs)) (Inside k b) w (token_by o behind k b x xs)
  token_by_fits behind k x xs None h = literal_fits s b w behind k x xs
  token_by_fits behind k x xs (Some o) h =
      let f = weigh b o in
      let l = stands_fits (operator_text o) (x ∷ xs) h in
      record { ahead = omega arith; lively = omega arith; ordered = omega arith; inside = omega arith; falls = omega (arith, f.0); level = f.1 }

  token_fits : (behind : List ℕ) (k : BlockSentinel) (x : ℕ) (xs : List ℕ) → Fits (length (x ∷ xs)) (Inside k b) w (token behind k b x xs)
  token_fits behind k x xs = token_by_fits behind k x xs (first_standing operators (x ∷ xs)) (stood operators (x ∷ xs))

  inside_by_fits : (behind : List ℕ) (k : BlockSentinel) (x : ℕ) (xs : List ℕ) (r : Option Verdict) → FitsIf s b w k (length (x ∷ xs)) r → Fits (length (x ∷ xs)) (Inside k b) w (elim r [ Some v ↦ v | None ↦ token behind k b x xs ])
  inside_by_fits behind k x xs None h = token_fits behind k x xs
  inside_by_fits behind k x xs (Some v) h = h

  blanks_fits : Ended s → (behind : List ℕ) (k : BlockSentinel) (x : ℕ) (xs : List ℕ) (n : ℕ) → n ≤ length (x ∷ xs) → Fits (length (x ∷ xs)) (Inside k b) w (blanks s behind k b x xs n)
  blanks_fits e behind k x xs zero h = inside_by_fits behind k x xs (close s k b x xs) (close_fits s b w e k x xs)
  blanks_fits e behind k x xs (suc n) h = stays s b w k White (suc n) (length (x ∷ xs)) (omega arith) h

  -- how much a line statement's end takes, if it stands here
  abbrev EndsLine : ℕ → Option ℕ → Type 0
  EndsLine l None = Unit {0}
  EndsLine l (Some n) = (0 < n) × (n ≤ l)

  line_rest_fits : (n l : ℕ) (xs : List ℕ) → n + length xs ≡ l → 0 < l → EndsLine l (line_rest n xs)
  line_rest_fits n l [] h p = (omega arith, omega arith)
  line_rest_fits n l (x ∷ xs) h p = by (line_end (x ∷ xs)) (line_end_le (x ∷ xs))
    where
      by : (e : ℕ) → e ≤ length (x ∷ xs) → EndsLine l (elim e [ zero ↦ None | suc k ↦ Some (n + suc k) ])
      by zero f = tt
      by (suc k) f = (omega arith, omega arith)

  statement_fits : (k : BlockSentinel) (x : ℕ) (xs : List ℕ) → EndsLine (length (x ∷ xs)) (statement_end s k b (x ∷ xs))
  statement_fits Variable x xs = tt
  statement_fits Block x xs = tt
  statement_fits Expression x xs = tt
  statement_fits LineStatement x xs =
      let n : ℕ = white_run (inline_white s) (x ∷ xs) in
      let l = length-drop n (x ∷ xs) in
      let h = white_le (inline_white s) (x ∷ xs) in
      elim (is_zero b) as (λ t. EndsLine (length (x ∷ xs)) (elim t [ true ↦ line_rest n (drop n (x ∷ xs)) | false ↦ None ])) [
        | true ↦ line_rest_fits n (length (x ∷ xs)) (drop n (x ∷ xs)) (omega arith) (omega arith)
        | false ↦ tt
      ]

  line_fits : Ended s → (behind : List ℕ) (k : BlockSentinel) (x : ℕ) (xs : List ℕ) (r : Option ℕ) → EndsLine (length (x ∷ xs)) r
      → Fits (length (x ∷ xs)) (Inside k b) w (elim r [ Some n ↦ plain BlockEnd n Template Nothing | None ↦ blanks s behind k b x xs (blank_run (x ∷ xs)) ])
  line_fits e behind k x xs None h = blanks_fits e behind k x xs (blank_run (x ∷ xs)) (blank_le (x ∷ xs))
  line_fits e behind k x xs (Some n) h = record { ahead = omega (arith, h.1); lively = omega arith; ordered = omega arith; inside = omega arith; falls = omega (arith, h.0); level = omega arith }

  end_fits : (k : BlockSentinel) → Fits 0 (Inside k b) w (tag_end k)
  end_fits Variable = refl
  end_fits Block = refl
  end_fits Expression = refl
  end_fits LineStatement = record { ahead = omega arith; lively = omega arith; ordered = omega arith; inside = omega arith; falls = omega arith; level = omega arith }

  pub tag_fits : Ended s → (behind : List ℕ) (k : BlockSentinel) (xs : List ℕ) → Fits (length xs) (Inside k b) w (tag_verdict s behind k b xs)
  unfolding tag_verdict
  tag_fits e behind k [] = end_fits k
  tag_fits e behind k (x ∷ xs) = line_fits e behind k x xs (statement_end s k b (x ∷ xs)) (statement_fits k x xs)
