-- What waits behind a piece, in the bytes ahead, and what a verdict is to say.
use Rattle.std.proofs.Common.{◌≡◌, ℕ, zero, suc, ◌+◌, ◌-◌, ◌<◌, ◌≤◌, true, false, List, length, take, drop, Some, None, Ok, Err, sym, refl, subst, arith}
use Rattle.std.proofs.lemmas.List.{length-drop, length-take}
use Rattle.finder.specs.Finding.{Opening}
use Rattle.spaces.specs.Lines.{line_end}
use Rattle.spaces.specs.Runs.{AllPass}
use Rattle.pieces.specs.declared.kind.Kind.{Kind}
use Rattle.pieces.specs.declared.kind.Kind.TheVariants.{White, Cut}
use Rattle.rules.specs.declared.EndRaw.{EndRaw}
use Rattle.rules.specs.declared.Pending.{Pending}
use Rattle.rules.specs.declared.Pending.TheVariants.{Nothing, Trim, Tail, Marker, RawBody, RawClose}
use Rattle.rules.specs.declared.whitespace.Whitespace.{Whitespace}
use Rattle.rules.specs.declared.whitespace.Whitespace.TheVariants.{Default, Preserve, Remove}
use Rattle.rules.specs.Config.{Config, white}
use Rattle.rules.specs.Reading.{left_len}
use Rattle.rules.specs.State.{Verdict}
use Rattle.rules.specs.Tags.{tail_of, tail}
use Rattle.raws.specs.Closers.{Closes}
use Rattle.rules.proofs.Whole.{part_of}
use Rattle.runs.specs.Named.{OpensAt, IsRawOpen, IsRawText, IsNamed, HasValue}

-- what waits stands at the place i of u: white space and an opening, a line end, a raw body behind its tag, or the closing tag behind such a body
abbrev pub WaitsAt : List Opening → Config → List ℕ → ℕ → Pending → Type 0
WaitsAt os s u i Nothing = Unit {0}
WaitsAt os s u i Trim = Unit {0}
WaitsAt os s u i (Tail n) = line_end (drop i u) ≡ n
WaitsAt os s u i (Marker m g n) = AllPass (white s) (take g (drop i u)) × OpensAt os m u (i + g) n
WaitsAt os s u i (RawBody g) = (h : ℕ) × IsRawOpen os s u h i
WaitsAt os s u i (RawClose n g) = (h : ℕ) × IsRawText os s u h i × (r : EndRaw) × Closes s u i r × (r.len ≡ n)

-- any kind but Cut
abbrev pub NotCut : Kind → Type 0
NotCut Cut = ⊥
NotCut k = Unit {0}

-- a piece that is told at the place i is not the cut, it is what its kind says, has its value, and what waits behind it stands there
abbrev pub Holds : List Opening → Config → List ℕ → ℕ → Verdict → Type 0
Holds os s t i (Ok (Some p)) =
    NotCut p.kind
    × (IsNamed os s t i (i + p.len) p.kind × HasValue (take (left_len s t) t) i (i + p.len) p.kind p.value)
    × WaitsAt os s (take (left_len s t) t) (i + p.len) p.pending
Holds os s t i (Ok None) = Unit {0}
Holds os s t i (Err f) = Unit {0}

module _ (os : List Opening) (s : Config) (u : List ℕ) (j : ℕ) where
  tail_of_waits : (k : ℕ) → line_end (drop j u) ≡ k → WaitsAt os s u j (tail_of k)
  tail_of_waits zero e = tt
  tail_of_waits (suc k) e = e

  -- behind an end
  pub tail_waits : (g : Whitespace) (xs : List ℕ) → xs ≡ drop j u → WaitsAt os s u j (tail s g xs)
  tail_waits Remove xs e = tt
  tail_waits Preserve xs e = tt
  tail_waits Default xs e = elim s.trim_blocks as (λ t. WaitsAt os s u j (elim t [ true ↦ tail_of (line_end xs) | false ↦ Nothing ])) [
    | true ↦ tail_of_waits (line_end xs) (subst (λ l. line_end l ≡ line_end xs) e refl)
    | false ↦ tt
  ]

-- some bytes that are ahead are in what is left
pub left_has : (t : List ℕ) (n i k : ℕ) → 0 < k → k ≤ length (drop i (take n t)) → i + k ≤ n
left_has t n i k p h = let a = length-drop i (take n t) in let b = length-take n t in omega arith

-- a piece of white space
pub white_named : (os : List Opening) (s : Config) (t : List ℕ) (i k : ℕ) → i + k ≤ left_len s t → AllPass (white s) (take k (drop i (take (left_len s t) t))) → IsNamed os s t i (i + k) White
white_named os s t i k h a =
    let z : i + k - i ≡ k = omega arith in
    subst (λ n. AllPass (white s) (take n (drop i t))) (sym z) (subst (AllPass (white s)) (part_of t (left_len s t) i k h) a)
