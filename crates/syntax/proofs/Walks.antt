-- The walks of building, place by place.
use Rattle.std.proofs.Common.{◌≡◌, ℕ, ◌+◌, ◌<◌, ◌≤◌, Bool, true, false, List, [], ◌∷◌, ◌++◌, length, take, drop, Some, None, sym, ap, ◌∙◌}
use Rattle.std.proofs.lemmas.List.{drop_more, drop_all, take_more}
use Rattle.syntax.specs.declared.name.DelimiterName.{DelimiterName}
use Rattle.syntax.specs.declared.name.DelimiterName.TheVariants.{BlockStart}
use Rattle.syntax.specs.Names.{name_at}
use Rattle.syntax.specs.Building.{Table, is_empty, any_same, repeats, first_equal}

-- no name before the place repeats an earlier one
abbrev pub EqualFrom : Table → List DelimiterName → ℕ → Type 0
EqualFrom t ns i = first_equal t [] ns ≡ first_equal t (take i ns) (drop i ns)

-- bytes that are not empty are looked for among those of the earlier names
pub repeats_by : (t : Table) (earlier : List DelimiterName) (n : DelimiterName) (bs : List ℕ) (b : Bool) → bs ≡ t n → false ≡ is_empty bs → b ≡ any_same t bs earlier → b ≡ repeats t earlier n
repeats_by t earlier n bs b p q r = r ∙ ap (λ l. any_same t l earlier) p ∙ ap (λ z. elim z [ true ↦ false | false ↦ any_same t (t n) earlier ]) (q ∙ ap is_empty p)

module _ (t : Table) (ns : List DelimiterName) (i : ℕ) where
  pub equal_here : i < length ns → EqualFrom t ns i → repeats t (take i ns) (name_at ns i) ≡ true → Some (name_at ns i) ≡ first_equal t [] ns
  unfolding first_equal
  equal_here h w e = sym (w ∙ ap (first_equal t (take i ns)) (drop_more ns i BlockStart h) ∙ ap (λ b. elim b [ true ↦ Some (name_at ns i) | false ↦ first_equal t (take i ns ++ name_at ns i ∷ []) (drop (i + 1) ns) ]) e)

  pub equal_more : i < length ns → EqualFrom t ns i → repeats t (take i ns) (name_at ns i) ≡ false → EqualFrom t ns (i + 1)
  unfolding first_equal
  equal_more h w e =
      w ∙ ap (first_equal t (take i ns)) (drop_more ns i BlockStart h)
      ∙ ap (λ b. elim b [ true ↦ Some (name_at ns i) | false ↦ first_equal t (take i ns ++ name_at ns i ∷ []) (drop (i + 1) ns) ]) e
      ∙ ap (λ l. first_equal t l (drop (i + 1) ns)) (sym (take_more ns i BlockStart h))

  pub equal_all : length ns ≤ i → EqualFrom t ns i → None ≡ first_equal t [] ns
  unfolding first_equal
  equal_all h w = sym (w ∙ ap (first_equal t (take i ns)) (drop_all i ns h))
