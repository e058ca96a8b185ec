-- Two lists of the same openings read alike.
use Rattle.std.proofs.Common.{◌≡◌, ℕ, zero, suc, ◌<◌, ◌≤◌, true, List, [], ◌∷◌, length, get_or, take, drop, Some, None, Option, sym, refl, ap, ◌∙◌, ⊎_elim, arith}
use Rattle.std.proofs.lemmas.List.{take_at}
use Rattle.std.proofs.lemmas.Bool.{cases_lt}
use Rattle.std.specs.List.{ContainsAt as Has}
use Rattle.byte_search.specs.Search.{stands_at}
use Rattle.byte_search.proofs.Stands.{stands_split}
use Rattle.finder.specs.Finding.{Opening, found, longest, further}
use Rattle.finder.proofs.Longest.{Best, longest_best}
use Rattle.rules.specs.declared.LexerState.{LexerState}
use Rattle.rules.specs.declared.LexerState.TheVariants.{Template, Inside, Over}
use Rattle.rules.specs.declared.Pending.{Pending}
use Rattle.rules.specs.declared.Pending.TheVariants.{Nothing, Trim, Tail, Marker, RawBody, RawClose}
use Rattle.rules.specs.Config.{Config, white}
use Rattle.rules.specs.Texts.{Same, met, real, text, trimmed, text_verdict, verdict_by}
use Rattle.spaces.specs.Runs.{white_run}
use Rattle.rules.proofs.Lengths.{stands_of}

-- no two openings have the same bytes
abbrev pub Apart : List Opening → Type 0
Apart os = (j k : ℕ) (o : Opening) → j < k → k < length os → (get_or os j o).bytes ≡ (get_or os k o).bytes → ⊥

module _ (ps : List Opening) (apart : Apart ps) where
  -- two of them that stand at one place and are equally long are one
  one : (xs : List ℕ) (p q : Opening) → Has ps p → Has ps q → stands_at p.bytes xs ≡ true → stands_at q.bytes xs ≡ true → length p.bytes ≡ length q.bytes → p ≡ q
  one xs p q a b s t e =
      let u : take (length p.bytes) xs ≡ p.bytes = ap (take (length p.bytes)) (stands_split p.bytes xs s) ∙ take_at p.bytes (drop (length p.bytes) xs) (length p.bytes) refl in
      let v : take (length q.bytes) xs ≡ q.bytes = ap (take (length q.bytes)) (stands_split q.bytes xs t) ∙ take_at q.bytes (drop (length q.bytes) xs) (length q.bytes) refl in
      let same : p.bytes ≡ q.bytes = sym u ∙ ap (λ n. take n xs) e ∙ v in
      ⊎_elim
      (λ l. absurd (apart a.0 b.0 p l b.1 (ap (λ o. o.bytes) (a.2 p) ∙ same ∙ sym (ap (λ o. o.bytes) (b.2 p)))))
      (λ l.
      ⊎_elim
      (λ m. absurd (apart b.0 a.0 p m a.1 (ap (λ o. o.bytes) (b.2 p) ∙ sym same ∙ sym (ap (λ o. o.bytes) (a.2 p)))))
      (λ m. let z : a.0 ≡ b.0 = omega arith in sym (a.2 p) ∙ ap (λ k. get_or ps k p) z ∙ b.2 p)
      (cases_lt b.0 a.0))
      (cases_lt a.0 b.0)

  longest_by : (os : List Opening) → Same os ps → (behind xs : List ℕ) (r q : Option Opening) → Best os behind xs r → Best ps behind xs q → r ≡ q
  longest_by os h behind xs None None f g = refl
  longest_by os h behind xs None (Some q) f g = absurd (f q ((h q).1 g.0) g.1)
  longest_by os h behind xs (Some p) None f g = absurd (g p ((h p).0 f.0) f.1)
  longest_by os h behind xs (Some p) (Some q) f g =
      let a : length q.bytes ≤ length p.bytes = f.2 q ((h q).1 g.0) g.1 in
      let b : length p.bytes ≤ length q.bytes = g.2 p ((h p).0 f.0) f.1 in
      let e : length p.bytes ≡ length q.bytes = omega arith in
      ap Some (one xs p q ((h p).0 f.0) g.0 (stands_of p behind xs f.1) (stands_of q behind xs g.1) e)

  same_longest : (os : List Opening) → Same os ps → (behind xs : List ℕ) → longest os behind xs ≡ longest ps behind xs
  same_longest os h behind xs = longest_by os h behind xs (longest os behind xs) (longest ps behind xs) (longest_best behind xs os) (longest_best behind xs ps)

  -- the same place is found
  pub same_found : (os : List Opening) → Same os ps → (behind xs : List ℕ) → found os behind xs ≡ found ps behind xs
  unfolding found
  same_found os h behind [] = refl
  same_found os h behind (x ∷ xs) =
      ap (λ r. elim r [ Some o ↦ Some (0, o.marker, length o.bytes) | None ↦ further (found os (x ∷ behind) xs) ]) (same_longest os h behind (x ∷ xs))
      ∙ ap (λ f. elim (longest ps behind (x ∷ xs)) [ Some o ↦ Some (0, o.marker, length o.bytes) | None ↦ further f ]) (same_found os h (x ∷ behind) xs)

  same_text : (os : List Opening) → Same os ps → (s : Config) (behind xs : List ℕ) → text os s behind xs ≡ text ps s behind xs
  unfolding text
  same_text os h s behind [] = refl
  same_text os h s behind (x ∷ xs) = ap (λ r. met s behind (x ∷ xs) (real r)) (same_found os h behind (x ∷ xs))

  same_trimmed : (os : List Opening) → Same os ps → (s : Config) (behind xs : List ℕ) (n : ℕ) → trimmed os s behind xs n ≡ trimmed ps s behind xs n
  same_trimmed os h s behind xs zero = same_text os h s behind xs
  same_trimmed os h s behind xs (suc n) = refl

  same_waiting : (os : List Opening) → Same os ps → (s : Config) (behind xs : List ℕ) (w : Pending) → text_verdict os s behind xs w ≡ text_verdict ps s behind xs w
  unfolding text_verdict
  same_waiting os h s behind xs Nothing = same_text os h s behind xs
  same_waiting os h s behind xs Trim = same_trimmed os h s behind xs (white_run (white s) xs)
  same_waiting os h s behind xs (Tail n) = refl
  same_waiting os h s behind xs (Marker m g n) = refl
  same_waiting os h s behind xs (RawBody g) = refl
  same_waiting os h s behind xs (RawClose n g) = refl

  -- the same verdict comes
  pub same_verdict : (os : List Opening) → Same os ps → (s : Config) (behind xs : List ℕ) (m : LexerState) (w : Pending) → verdict_by os s behind xs m w ≡ verdict_by ps s behind xs m w
  same_verdict os h s behind xs Template w = same_waiting os h s behind xs w
  same_verdict os h s behind xs (Inside k b) w = refl
  same_verdict os h s behind xs Over w = refl
