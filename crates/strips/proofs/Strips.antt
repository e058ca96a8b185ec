-- What a strip leaves.
use Rattle.std.proofs.Common.{◌≡◌, ℕ, ◌+◌, ◌-◌, ◌≤◌, Bool, List, length, get_or, take, drop, sym, refl, ap, ◌∙◌, inl, inr, arith}
use Rattle.std.proofs.lemmas.List.{take_all, length-take-le}
use Rattle.finder.specs.Finding.{is_line_end}
use Rattle.finder.specs.declared.StartMarker.{StartMarker}
use Rattle.spaces.specs.Runs.{kept, white_tail}
use Rattle.spaces.specs.Spaces.{white_space, in_line}
use Rattle.spaces.proofs.Tails.{kept_le, kept_least}
use Rattle.rules.specs.declared.whitespace.Whitespace.{Whitespace}
use Rattle.rules.specs.declared.whitespace.Whitespace.TheVariants.{Default, Preserve, Remove}
use Rattle.rules.specs.Bytes.{pushes, behind_at}
use Rattle.rules.specs.Config.{Config}
use Rattle.rules.specs.Texts.{lead}
use Rattle.strips.specs.Lines.{Strips, Left, LineBegins, left_before}
use Rattle.strips.proofs.Behind.{behind_further}
use Rattle.strips.proofs.Whites.{begins_run, last_left}

-- what is left before the run at the end
pub kept_tail : (p : ℕ → Bool) (xs : List ℕ) (n : ℕ) → n ≡ white_tail p (take (length xs) xs) → length xs - n ≡ kept p xs
kept_tail p xs n e = grind (arith, take_all, kept_le)

abbrev inline : ℕ → Bool
inline c = in_line white_space c

module _ (xs zs : List ℕ) (n : ℕ) (e : n ≡ kept inline xs) (g : zs ≡ take n xs) where
  -- a text of which a strip leaves something ends there with the run
  strips_begins : (m : ℕ) → Strips xs m → LineBegins xs m
  strips_begins m (inl z, a) = inl z
  strips_begins m (inr f, a) = inr (ap is_line_end f)

  -- where the run does not end behind LF, a strip can leave nothing but all
  pub left_all : 1 ≤ length zs → (get_or zs (length zs - 1) 0 ≡ 10 → ⊥) → Left xs (length xs)
  left_all l f = inr (
    refl,
    λ m s.
        let q : n ≡ m = e ∙ begins_run xs m (strips_begins m s) (kept_least inline xs m s.1) in
        let w = kept_le inline xs in
        grind (arith, last_left, length-take-le, f, s.0, g),
  )

by_lead : (s : Config) (m : StartMarker) (g : Whitespace) (b xs : List ℕ) → left_before s m g (pushes xs b) xs ≡ lead s m g b xs
unfolding lead
by_lead s m Remove b xs = refl
by_lead s m Preserve b xs = refl
by_lead s m Default b xs = refl

-- what is left before an opening behind a text
pub lead_left : (s : Config) (m : StartMarker) (g : Whitespace) (xs : List ℕ) (i d : ℕ) → left_before s m g (behind_at xs (i + d)) (take d (drop i xs)) ≡ lead s m g (behind_at xs i) (take d (drop i xs))
lead_left s m g xs i d = ap (λ b. left_before s m g b (take d (drop i xs))) (sym (behind_further xs i d)) ∙ by_lead s m g (behind_at xs i) (take d (drop i xs))
