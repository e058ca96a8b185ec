-- The default openings: `{` and one of three bytes.
use Rattle.std.proofs.Common.{◌≡◌, ℕ, ◌<◌, ◌≤◌, false, List, [], ◌∷◌, length, get_or, drop, Some, None, sym, refl, ap, ◌∙◌, ⊎_elim, arith}
use Rattle.std.proofs.lemmas.Bool.{cases_Bool}
use Rattle.byte_search.specs.Search.{stands_at, Among}
use Rattle.byte_search.proofs.Stands.{stands_same, stands_other, stands_fits}
use Rattle.finder.specs.declared.StartMarker.TheVariants.{Variable, Block, Comment}
use Rattle.finder.specs.Finding.{Opening, longest}
use Rattle.finders.specs.Defaults.{default_openings, opened}
use Rattle.finders.proofs.Clear.{Led, led_none, led_cons}

pub default_led : Led (123 ∷ []) default_openings
default_led =
    let ns : List ℕ = 123 ∷ [] in
    let a : Among ns 123 = (0, omega arith, refl) in
    let v : Opening = record { marker = Variable; bytes = 123 ∷ 123 ∷ [] } in
    let k : Opening = record { marker = Block; bytes = 123 ∷ 37 ∷ [] } in
    let c : Opening = record { marker = Comment; bytes = 123 ∷ 35 ∷ [] } in
    led_cons ns v (k ∷ c ∷ []) (omega arith) a (led_cons ns k (c ∷ []) (omega arith) a (led_cons ns c [] (omega arith) a (led_none ns)))

-- two bytes at the front
two : (s : List ℕ) (x : ℕ) → 2 ≤ length s → get_or s 0 0 ≡ 123 → get_or s 1 0 ≡ x → s ≡ 123 ∷ x ∷ drop 2 s
two [] x h e f = absurd (omega arith)
two (y ∷ []) x h e f = absurd (omega arith)
two (y ∷ z ∷ s) x h e f = cc

module _ (b : List ℕ) where
  stands_variable : (xs : List ℕ) → opened (longest default_openings b (123 ∷ 123 ∷ xs)) ≡ Some (Variable, 2)
  unfolding longest stands_at
  stands_variable xs = refl

  stands_block : (xs : List ℕ) → opened (longest default_openings b (123 ∷ 37 ∷ xs)) ≡ Some (Block, 2)
  unfolding longest stands_at
  stands_block xs = refl

  stands_comment : (xs : List ℕ) → opened (longest default_openings b (123 ∷ 35 ∷ xs)) ≡ Some (Comment, 2)
  unfolding longest stands_at
  stands_comment xs = refl

  -- where none of the three stands, none opens
  none_stands : (s : List ℕ) → stands_at (123 ∷ 123 ∷ []) s ≡ false → stands_at (123 ∷ 37 ∷ []) s ≡ false → stands_at (123 ∷ 35 ∷ []) s ≡ false → opened (longest default_openings b s) ≡ None
  unfolding longest
  none_stands s v k c = rw (v, k, c, longest) refl

  short : (ds s : List ℕ) → length s < length ds → stands_at ds s ≡ false
  short ds s h = ⊎_elim (λ e. absurd (omega (arith, stands_fits ds s e))) (λ e. e) (cases_Bool (stands_at ds s))

  pub opens_short : (s : List ℕ) → length s < 2 → opened (longest default_openings b s) ≡ None
  opens_short s h = none_stands s (short (123 ∷ 123 ∷ []) s h) (short (123 ∷ 37 ∷ []) s h) (short (123 ∷ 35 ∷ []) s h)

  apart : (d : ℕ) (s : List ℕ) → 2 ≤ length s → (get_or s 0 0 ≡ 123 → ⊥) → stands_at (123 ∷ d ∷ []) s ≡ false
  apart d [] h f = absurd (omega arith)
  apart d (x ∷ s) h f = stands_other 123 x (d ∷ []) s (λ e. f (sym e))

  pub opens_apart : (s : List ℕ) → 2 ≤ length s → (get_or s 0 0 ≡ 123 → ⊥) → opened (longest default_openings b s) ≡ None
  opens_apart s h f = none_stands s (apart 123 s h f) (apart 37 s h f) (apart 35 s h f)

  module _ (s : List ℕ) (h : 2 ≤ length s) (e : get_or s 0 0 ≡ 123) where
    pub at_variable : get_or s 1 0 ≡ 123 → opened (longest default_openings b s) ≡ Some (Variable, 2)
    at_variable f = ap (λ t. opened (longest default_openings b t)) (two s 123 h e f) ∙ stands_variable (drop 2 s)

    pub at_block : get_or s 1 0 ≡ 37 → opened (longest default_openings b s) ≡ Some (Block, 2)
    at_block f = ap (λ t. opened (longest default_openings b t)) (two s 37 h e f) ∙ stands_block (drop 2 s)

    pub at_comment : get_or s 1 0 ≡ 35 → opened (longest default_openings b s) ≡ Some (Comment, 2)
    at_comment f = ap (λ t. opened (longest default_openings b t)) (two s 35 h e f) ∙ stands_comment (drop 2 s)

    second : (d : ℕ) → (get_or s 1 0 ≡ d → ⊥) → stands_at (123 ∷ d ∷ []) s ≡ false
    second d f =
        ap (stands_at (123 ∷ d ∷ [])) (two s (get_or s 1 0) h e refl)
        ∙ stands_same 123 123 (d ∷ []) (get_or s 1 0 ∷ drop 2 s) refl
        ∙ stands_other d (get_or s 1 0) [] (drop 2 s) (λ q. f (sym q))

    pub at_other : (get_or s 1 0 ≡ 123 → ⊥) → (get_or s 1 0 ≡ 37 → ⊥) → (get_or s 1 0 ≡ 35 → ⊥) → opened (longest default_openings b s) ≡ None
    at_other v k c = none_stands s (second 123 v) (second 37 k) (second 35 c)
