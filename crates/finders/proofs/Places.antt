-- A walk over the places of the byte with which openings begin.
use Rattle.std.proofs.Common.{◌≡◌, ℕ, zero, suc, ◌+◌, ◌-◌, ◌<◌, ◌≤◌, Bool, false, cond, List, [], ◌∷◌, length, get_or, drop, Some, None, sym, refl, ap, ◌∙◌, subst, ⊎_elim, arith}
use Rattle.std.proofs.lemmas.List.{get_or-drop, length-drop}
use Rattle.std.proofs.lemmas.Bool.{cases_Bool, cases_lt, both_ways, eq-eqb}
use Rattle.byte_search.specs.Search.{Among}
use Rattle.memchr.specs.Find.{is_byte, places_from, places}
use Rattle.finder.specs.declared.StartMarker.{StartMarker}
use Rattle.finder.specs.Finding.{Opening, longest}
use Rattle.finder.proofs.Found.{behind_at, NoneAt}
use Rattle.finders.specs.Defaults.{opened}
use Rattle.finders.proofs.Clear.{Led, Clear, Told, told_by, clear_none, clear_more, clear_here, nowhere, lead_at}

module _ (test : ℕ → Bool) (hay : List ℕ) where
  -- of the places among n from k on, d is the first and ds are the others
  record Front (k n d : ℕ) (ds : List ℕ) : Type 0 where
    low : k ≤ d
    high : d < k + n
    before : (m : ℕ) → k ≤ m → m < d → test (get_or hay m 0) ≡ false
    later : ds ≡ places_from test hay (d + 1) (k + n - (d + 1))

  front : (k n d : ℕ) (ds : List ℕ) → places_from test hay k n ≡ d ∷ ds → Front k n d ds
  unfolding places_from
  front k zero d ds e = cc
  front k (suc n) d ds e =
      let behind = places_from test hay (k + 1) n in
      ⊎_elim
      (λ q.
      let z : k ∷ behind ≡ d ∷ ds = sym (ap (λ t. cond t (k ∷ behind) behind) q) ∙ e in
      let w : k ≡ d = cc in
      let v : behind ≡ ds = cc in
      let l : n ≡ k + suc n - (d + 1) = omega arith in
      record { low = omega arith; high = omega arith; before = λ m a b. absurd (omega arith); later = sym v ∙ (λ j. places_from test hay (w j + 1) (l j)) })
      (λ q.
      let z : behind ≡ d ∷ ds = sym (ap (λ t. cond t (k ∷ behind) behind) q) ∙ e in
      let f = front (k + 1) n d ds z in
      let l : k + 1 + n ≡ k + suc n = omega arith in
      record {
        low = omega (arith, f.low);
        high = omega (arith, f.high);
        before = λ m a b. ⊎_elim (λ h. f.before m (omega arith) b) (λ h. let s : k ≡ m = omega arith in subst (λ x. test (get_or hay x 0) ≡ false) s q) (cases_lt k m);
        later = f.later ∙ ap (λ x. places_from test hay (d + 1) (x - (d + 1))) l;
      })
      (cases_Bool (test (get_or hay k 0)))

  no_front : (k n : ℕ) → places_from test hay k n ≡ [] → (m : ℕ) → k ≤ m → m < k + n → test (get_or hay m 0) ≡ false
  unfolding places_from
  no_front k zero e m a b = absurd (omega arith)
  no_front k (suc n) e m a b =
      let behind = places_from test hay (k + 1) n in
      ⊎_elim
      (λ q. let z : k ∷ behind ≡ [] = sym (ap (λ t. cond t (k ∷ behind) behind) q) ∙ e in cc)
      (λ q.
      let z : behind ≡ [] = sym (ap (λ t. cond t (k ∷ behind) behind) q) ∙ e in
      ⊎_elim (λ h. no_front (k + 1) n z m (omega arith) (omega arith)) (λ h. let s : k ≡ m = omega arith in subst (λ x. test (get_or hay x 0) ≡ false) s q) (cases_lt k m))
      (cases_Bool (test (get_or hay k 0)))

one : (b x : ℕ) → Among (b ∷ []) x → x ≡ b
one b x w = by w.0 w.1 w.2
  where
    by : (j : ℕ) → j < length {A = ℕ} (b ∷ []) → get_or (b ∷ []) j 0 ≡ x → x ≡ b
    by zero l e = sym e
    by (suc j) l e = absurd (omega arith)

-- nothing qualifies before a place, and these are the byte's places from there on
abbrev pub Walked : ℕ → List Opening → List ℕ → List ℕ → ℕ → List ℕ → Type 0
Walked b os xs hay i rest = (k : ℕ) × (k ≤ length hay) × (rest ≡ places_from (is_byte b) hay k (length hay - k)) × Clear os xs i (i + k)

module _ (b : ℕ) (os : List Opening) (xs hay : List ℕ) (i : ℕ) (led : Led (b ∷ []) os) (y : hay ≡ drop i xs) where
  -- where the byte does not stand, nothing qualifies
  not_there : (m : ℕ) → is_byte b (get_or hay m 0) ≡ false → NoneAt os xs (i + m)
  not_there m e o h q =
      let w = lead_at (b ∷ []) os xs (i + m) o led h q in
      let z : get_or hay m 0 ≡ b = ap (λ l. get_or l m 0) y ∙ get_or-drop i xs m 0 ∙ one b (get_or xs (i + m) 0) w.1 in
      both_ways (is_byte b (get_or hay m 0)) e (eq-eqb (get_or hay m 0) b z)

  pub walk_start : Walked b os xs hay i (places (is_byte b) hay)
  walk_start = let z : i ≡ i + 0 = omega arith in (0, omega arith, refl, subst (Clear os xs i) z (clear_none os xs i))

  clear_to : (k d : ℕ) → k ≤ d → Clear os xs i (i + k) → ((m : ℕ) → k ≤ m → m < d → is_byte b (get_or hay m 0) ≡ false) → Clear os xs i (i + d)
  clear_to k d l c f = (omega arith, λ j p h. ⊎_elim (λ q. c.1 j p q) (λ q. let z : i + (j - i) ≡ j = omega arith in subst (NoneAt os xs) z (not_there (j - i) (f (j - i) (omega arith) (omega arith)))) (cases_lt j (i + k)))

  pub walk_end : (rest : List ℕ) → Walked b os xs hay i rest → rest ≡ [] → Told os xs i None
  walk_end rest w e =
      let c = clear_to w.0 (length hay) w.1 w.3 (λ m a h. no_front (is_byte b) hay w.0 (length hay - w.0) (sym w.2 ∙ e) m a (omega (arith, w.1))) in
      told_by os xs i None (nowhere os xs i (λ k l o h q. c.1 k l (omega (arith, q.0, ap length y, length-drop i xs)) o h q))

  module _ (rest ds : List ℕ) (d : ℕ) (w : Walked b os xs hay i rest) (e : rest ≡ d ∷ ds) where
    first : Front (is_byte b) hay w.0 (length hay - w.0) d ds
    first = front (is_byte b) hay w.0 (length hay - w.0) d ds (sym w.2 ∙ e)

    inside : d < length hay
    inside = omega (arith, first.high, w.1)

    there : i + d < length xs
    there = omega (arith, inside, ap length y, length-drop i xs)

    to : Clear os xs i (i + d)
    to = clear_to w.0 d first.low w.3 first.before

    pub walk_here : (m : StartMarker) (n : ℕ) → opened (longest os (behind_at xs (i + d)) (drop (i + d) xs)) ≡ Some (m, n) → Told os xs i (Some (d, m, n))
    walk_here m n f = let z : i + d - i ≡ d = omega arith in told_by os xs i (Some (d, m, n)) (sym (ap (λ k. Some (k, m, n)) z) ∙ clear_here os xs i (i + d) there to m n f)

    pub walk_more : opened (longest os (behind_at xs (i + d)) (drop (i + d) xs)) ≡ None → Walked b os xs hay i ds
    walk_more f =
        let z : i + d + 1 ≡ i + (d + 1) = omega arith in
        let l : w.0 + (length hay - w.0) - (d + 1) ≡ length hay - (d + 1) = omega (arith, w.1) in
        (d + 1, omega (arith, inside), first.later ∙ ap (places_from (is_byte b) hay (d + 1)) l, subst (Clear os xs i) z (clear_more os xs i (i + d) there to f))
