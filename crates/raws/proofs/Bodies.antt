-- The body of a raw block, and its text.
use Rattle.std.proofs.Common.{◌≡◌, ℕ, ◌+◌, List, length, take, drop, Some, None, sym, refl, ap, ◌∙◌}
use Rattle.pieces.specs.declared.fault.FaultKind.TheVariants.{UnendedRaw}
use Rattle.finder.specs.declared.StartMarker.TheVariants.{Block}
use Rattle.rules.specs.declared.EndRaw.{EndRaw}
use Rattle.rules.specs.declared.whitespace.Whitespace.{Whitespace}
use Rattle.rules.specs.declared.whitespace.Whitespace.TheVariants.{Default, Preserve, Remove}
use Rattle.rules.specs.Bytes.{pushes, behind_at}
use Rattle.rules.specs.Config.{Config}
use Rattle.rules.specs.State.{fault}
use Rattle.rules.specs.Texts.{find_closer, raw_to, raw_text_by, raw_body}
use Rattle.strips.specs.Lines.{left_before}
use Rattle.strips.proofs.Behind.{behind_further}

-- before a closing tag as much is left as before a block
by_block : (s : Config) (g : Whitespace) (b ys : List ℕ) → left_before s Block g b ys ≡ raw_to s g b ys
by_block s Remove b ys = refl
by_block s Preserve b ys = refl
by_block s Default b ys = refl

pub raw_left : (s : Config) (g : Whitespace) (xs ys : List ℕ) (i d : ℕ) → left_before s Block g (behind_at xs (i + d)) ys ≡ raw_to s g (pushes (take d (drop i xs)) (behind_at xs i)) ys
raw_left s g xs ys i d = by_block s g (behind_at xs (i + d)) ys ∙ ap (λ b. raw_to s g b ys) (sym (behind_further xs i d))

module _ (s : Config) (g : Whitespace) (b xs : List ℕ) where
  pub body_none : find_closer s xs ≡ None → raw_body s g b xs ≡ fault UnendedRaw (length xs)
  unfolding raw_body
  body_none e = ap (λ o. elim o [ None ↦ fault UnendedRaw (length xs) | Some r ↦ raw_text_by s g b (take r.0 xs) r.1 ]) e

  pub body_some : (d : ℕ) (tag : EndRaw) → find_closer s xs ≡ Some (d, tag) → raw_body s g b xs ≡ raw_text_by s g b (take d xs) tag
  unfolding raw_body
  body_some d tag e = ap (λ o. elim o [ None ↦ fault UnendedRaw (length xs) | Some r ↦ raw_text_by s g b (take r.0 xs) r.1 ]) e
