-- A line of white space: its run at the end begins where the line does.
use Rattle.std.proofs.Common.{◌≡◌, ℕ, ◌-◌, ◌<◌, ◌≤◌, Bool, true, false, List, [], ◌∷◌, length, get_or, take, drop, Decides, sym, ap, ◌∙◌, subst, arith}
use Rattle.std.specs.Str.{NoCharPasses, NonePass}
use Rattle.std.specs.List.{AllByRecursion}
use Rattle.std.proofs.lemmas.List.{append-nil, length-drop, length-take, length-take-le, get_or-drop, get_or-take, get_or_past, take_all}
use Rattle.std.proofs.lemmas.Bool.{eqb-true, eq-eqb}
use Rattle.std.proofs.lemmas.Str.{NoCharPasses-byte}
use Rattle.std.proofs.lemmas.Bool.Decides.{same_from_decides, Decides-like}
use Rattle.finder.specs.Finding.{is_line_end}
use Rattle.spaces.specs.Runs.{white_run, all_pass, kept, AllPass}
use Rattle.spaces.specs.Spaces.{white_space, in_line}
use Rattle.spaces.proofs.Runs.{all_run, run_all}
use Rattle.spaces.proofs.Tails.{kept_le, kept_passes, kept_least}
use Rattle.rules.specs.Bytes.{pushes, behind_at, line_before}
use Rattle.strips.specs.Lines.{LineBegins, WhiteLine}
use Rattle.strips.proofs.Behind.{Since, since_all}

-- White_Space other than CR and LF
abbrev inline : ℕ → Bool
inline c = in_line white_space c

pub pass_decides : (p : ℕ → Bool) (xs : List ℕ) → Decides (all_pass p xs) (AllPass p xs)
pass_decides p xs = (λ e. run_all p xs (eqb-true (white_run p xs) (length xs) e), λ a. eq-eqb (white_run p xs) (length xs) (all_run p xs a))

no_end : (c : ℕ) → inline c ≡ true → is_line_end c ≡ false
no_end c e = grind arith

no_ends : (cs : List ℕ) → AllByRecursion (λ c. inline c ≡ true) cs → NonePass is_line_end cs
no_ends [] a = tt
no_ends (c ∷ cs) a = (no_end c a.0, no_ends cs a.1)

small : (b : ℕ) → is_line_end b ≡ true → b < 128
small b e = grind arith

-- such white space holds no CR or LF
pub pass_plain : (xs : List ℕ) (k : ℕ) → AllPass inline xs → k < length xs → is_line_end (get_or xs k 0) ≡ false
pass_plain xs k a h =
    let w : NoCharPasses is_line_end xs = (a.0, a.3, no_ends a.0 a.2) in
    let n = NoCharPasses-byte is_line_end xs k w h in
    grind (arith, n, small)

-- a line that begins at or behind the run of white space at the end begins with the run
pub begins_run : (xs : List ℕ) (i : ℕ) → LineBegins xs i → kept inline xs ≤ i → kept inline xs ≡ i
begins_run xs i b h =
    let f = pass_plain (drop (kept inline xs) xs) (i - 1 - kept inline xs) (kept_passes inline xs) in
    grind (arith, f, length-drop, get_or-drop, get_or_past)

-- the line before the end is white, exactly if a line begins with the run of white space at the end
line_run : (xs : List ℕ) (i : ℕ) → Since xs (length xs) i → LineBegins xs (kept inline xs) → AllPass inline (drop i xs)
line_run xs i s b =
    let h : kept inline xs ≤ i = grind (arith, kept_le, s.plain, s.before) in
    subst (λ j. AllPass inline (drop j xs)) (begins_run xs i s.begins h) (kept_passes inline xs)

run_line : (xs : List ℕ) (i : ℕ) → Since xs (length xs) i → AllPass inline (drop i xs) → LineBegins xs (kept inline xs)
run_line xs i s a = subst (LineBegins xs) (sym (begins_run xs i s.begins (kept_least inline xs i a))) s.begins

since_bytes : (xs : List ℕ) (i : ℕ) → Since xs (length xs) i → line_before (pushes xs []) [] ≡ drop i xs
since_bytes xs i s =
    let t = take_all (length xs) xs (omega arith) in
    ap (λ ys. line_before (pushes ys []) []) (sym t) ∙ s.bytes [] ∙ append-nil (drop i (take (length xs) xs)) ∙ ap (drop i) t

pub line_decides : (xs : List ℕ) → Decides (all_pass inline (line_before (pushes xs []) [])) (LineBegins xs (kept inline xs))
line_decides xs =
    let p = since_all xs in
    let e = since_bytes xs p.0 p.1 in
    let d = pass_decides inline (drop p.0 xs) in
    (λ t. run_line xs p.0 p.1 (d.0 (ap (all_pass inline) (sym e) ∙ t)), λ b. ap (all_pass inline) e ∙ d.1 (line_run xs p.0 p.1 b))

-- in words, at a place of a source
begins_take : (xs : List ℕ) (k j : ℕ) → j ≤ k → LineBegins (take k xs) j → LineBegins xs j
begins_take xs k j h b = grind (arith, get_or-take)

take_begins : (xs : List ℕ) (k j : ℕ) → j ≤ k → LineBegins xs j → LineBegins (take k xs) j
take_begins xs k j h b = grind (arith, get_or-take)

pub run_words : (xs : List ℕ) (k : ℕ) → LineBegins (take k xs) (kept inline (take k xs)) → WhiteLine xs k
run_words xs k b =
    let n : ℕ = kept inline (take k xs) in
    let h : n ≤ k = grind (arith, kept_le, length-take) in
    (n, h, begins_take xs k n h b, kept_passes inline (take k xs))

pub words_run : (xs : List ℕ) (k : ℕ) → WhiteLine xs k → LineBegins (take k xs) (kept inline (take k xs))
words_run xs k w =
    let b = take_begins xs k w.0 w.1 w.2 in
    subst (LineBegins (take k xs)) (sym (begins_run (take k xs) w.0 b (kept_least inline (take k xs) w.0 w.3))) b

-- what a test of the byte before the run tells
abbrev pub Told : List ℕ → ℕ → Bool → Type 0
Told xs k r = (r ≡ all_pass inline (line_before (behind_at xs k) [])) × Decides r (WhiteLine xs k)

told_by : (xs : List ℕ) (k : ℕ) (r : Bool) → Decides r (LineBegins (take k xs) (kept inline (take k xs))) → Told xs k r
told_by xs k r c = (same_from_decides r (all_pass inline (line_before (behind_at xs k) [])) c (line_decides (take k xs)), Decides-like r (run_words xs k) (words_run xs k) c)

-- the last of the bytes that are left when the run is taken off
pub last_left : (ys : List ℕ) (n : ℕ) → n ≤ length ys → 1 ≤ length (take n ys) → get_or (take n ys) (length (take n ys) - 1) 0 ≡ get_or ys (n - 1) 0
last_left ys n h l = grind (arith, length-take-le, get_or-take)

module _ (xs ys zs : List ℕ) (k n : ℕ) (e : ys ≡ take k xs) (f : n ≡ kept inline ys) (h : n ≤ length ys) (g : zs ≡ take n ys) where
  decides : (r : Bool) → Decides r (LineBegins ys n) → Told xs k r
  decides r d = told_by xs k r (subst (λ l. Decides r (LineBegins l (kept inline l))) e (subst (λ m. Decides r (LineBegins ys m)) f d))

  -- nothing is left
  pub told_none : length zs < 1 → Told xs k true
  told_none l = decides true (grind (arith, g, length-take-le))

  -- this is the last byte that is left
  pub told_last : (r : Bool) → 1 ≤ length zs → r ≡ is_line_end (get_or zs (length zs - 1) 0) → Told xs k r
  told_last r l p = decides r (grind (arith, p, g, last_left, length-take-le))
