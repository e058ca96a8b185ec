-- A search that has found nothing so far.
use Rattle.std.proofs.Common.{◌≡◌, ℕ, ◌+◌, ◌-◌, ◌<◌, ◌≤◌, List, [], ◌∷◌, length, get_or, drop, Some, None, Option, sym, refl, ap, ◌∙◌, subst, ⊎_elim, arith}
use Rattle.std.proofs.lemmas.List.{get_or-drop, length-drop}
use Rattle.std.proofs.lemmas.Bool.{cases_lt}
use Rattle.std.specs.List.{ContainsAt as Has}
use Rattle.byte_search.specs.Search.{first_in, First, Among, HoldsAny}
use Rattle.byte_search.proofs.Firsts.{stands_lead, first_in_first}
use Rattle.finder.specs.declared.StartMarker.{StartMarker}
use Rattle.finder.specs.Finding.{Opening, Triple, longest, found_from, QualifiesAt, Finds, Inside}
use Rattle.finder.proofs.Found.{behind_at, NoneAt, moved, words_qualify, found_here, found_passed, found_finds, found_inside}
use Rattle.finder.proofs.Longest.{Best, longest_best, has_cases, has_none}
use Rattle.finders.specs.Defaults.{opened}

-- all three clauses of a finder from the first
pub record Told (os : List Opening) (xs : List ℕ) (i : ℕ) (r : Option Triple) : Type 0 where
  pub value : r ≡ found_from os xs i
  pub finds : Finds os xs i r
  pub inside : Inside xs i r

pub told_by : (os : List Opening) (xs : List ℕ) (i : ℕ) (r : Option Triple) → r ≡ found_from os xs i → Told os xs i r
told_by os xs i r e = record {
  value = e;
  finds = subst (Finds os xs i) (sym e) (found_finds os xs i);
  inside = subst (Inside xs i) (sym e) (found_inside os xs i);
}

-- no opening qualifies from i to j
abbrev pub Clear : List Opening → List ℕ → ℕ → ℕ → Type 0
Clear os xs i j = (i ≤ j) × ((k : ℕ) → i ≤ k → k < j → NoneAt os xs k)

pub clear_none : (os : List Opening) (xs : List ℕ) (i : ℕ) → Clear os xs i i
clear_none os xs i = (omega arith, λ k l h. absurd (omega arith))

-- every opening begins with one of these bytes
abbrev pub Led : List ℕ → List Opening → Type 0
Led ns os = (o : Opening) → Has os o → (0 < length o.bytes) × Among ns (get_or o.bytes 0 0)

pub led_none : (ns : List ℕ) → Led ns []
led_none ns o h = absurd (has_none o h)

pub led_cons : (ns : List ℕ) (o : Opening) (os : List Opening) → 0 < length o.bytes → Among ns (get_or o.bytes 0 0) → Led ns os → Led ns (o ∷ os)
led_cons ns o os l a w p h = ⊎_elim
    (λ e. subst (λ q. (0 < length q.bytes) × Among ns (get_or q.bytes 0 0)) e (l, a))
    (λ k. w p k)
    (has_cases o p os h)

-- where an opening qualifies, one of the bytes is
pub lead_at : (ns : List ℕ) (os : List Opening) (xs : List ℕ) (k : ℕ) (o : Opening) → Led ns os → Has os o → QualifiesAt o xs k → HoldsAny ns xs k
lead_at ns os xs k o d h q =
    let w = stands_lead o.bytes xs k (d o h).0 (omega (arith, q.0), q.1) in
    (w.0, subst (Among ns) (sym w.1) (d o h).1)

none_longest : (os : List Opening) (xs : List ℕ) (i : ℕ) → longest os (behind_at xs i) (drop i xs) ≡ None → NoneAt os xs i
none_longest os xs i e o h q = subst (Best os (behind_at xs i) (drop i xs)) e (longest_best (behind_at xs i) (drop i xs) os) o h (words_qualify o xs i q)

opened_none : (r : Option Opening) → opened r ≡ None → r ≡ None
opened_none None e = refl
opened_none (Some o) e = absurd (let z : ◌≡◌ {A = ℕ} 0 1 = cc in omega arith)

-- nothing is found where nothing qualifies
pub nowhere : (os : List Opening) (xs : List ℕ) (i : ℕ) → ((k : ℕ) → i ≤ k → NoneAt os xs k) → None ≡ found_from os xs i
nowhere os xs i none = by (found_from os xs i) (found_finds os xs i)
  where
    by : (r : Option Triple) → Finds os xs i r → None ≡ r
    by None w = refl
    by (Some t) w = absurd (none (i + t.0) (omega arith) w.0.0 w.0.1 w.0.2)

module _ (ns : List ℕ) (os : List Opening) (xs ys : List ℕ) (i j : ℕ) (led : Led ns os) (y : ys ≡ drop j xs) (clear : Clear os xs i j) where
  behind : (k : ℕ) → j ≤ k → HoldsAny ns xs k → HoldsAny ns ys (k - j)
  behind k l p =
      let z : j + (k - j) ≡ k = omega arith in
      (omega (arith, p.0, length-drop j xs, ap length y), subst (Among ns) (sym (ap (λ t. get_or t (k - j) 0) y ∙ get_or-drop j xs (k - j) 0 ∙ ap (λ n. get_or xs n 0) z)) p.1)

  -- nothing qualifies before the next of the bytes
  pub clear_to : (d : ℕ) → First (HoldsAny ns ys) (Some d) → Clear os xs i (j + d)
  clear_to d f = (omega (arith, clear.0), λ k l h o p q. ⊎_elim (λ b. clear.1 k l b o p q) (λ b. f.1 (k - j) (omega arith) (behind k b (lead_at ns os xs k o led p q))) (cases_lt k j))

  -- nothing qualifies where none of the bytes is left
  pub clear_all : First (HoldsAny ns ys) None → None ≡ found_from os xs i
  clear_all f = nowhere os xs i (λ k l o p q. ⊎_elim (λ b. clear.1 k l b o p q) (λ b. f (k - j) (behind k b (lead_at ns os xs k o led p q))) (cases_lt k j))

-- an opening at once
abbrev at_once : Option (StartMarker × ℕ) → Option Triple
at_once None = None
at_once (Some q) = Some (0, q.0, q.1)

module _ (os : List Opening) (xs : List ℕ) (i j : ℕ) (h : j < length xs) (clear : Clear os xs i j) where
  -- nothing qualifies at the place either
  pub clear_more : opened (longest os (behind_at xs j) (drop j xs)) ≡ None → Clear os xs i (j + 1)
  clear_more e = (omega (arith, clear.0), λ k l b. ⊎_elim (λ c. clear.1 k l c) (λ c. let z : j ≡ k = omega arith in subst (NoneAt os xs) z (none_longest os xs j (opened_none (longest os (behind_at xs j) (drop j xs)) e))) (cases_lt k j))

  here : (r : Option Opening) (m : StartMarker) (n : ℕ) → longest os (behind_at xs j) (drop j xs) ≡ r → opened r ≡ Some (m, n) → found_from os xs j ≡ Some (0, m, n)
  here None m n e f = absurd (let z : ◌≡◌ {A = ℕ} 0 1 = cc in omega arith)
  here (Some o) m n e f = found_here os xs j o h e ∙ ap at_once f

  -- the first place at which an opening qualifies
  pub clear_here : (m : StartMarker) (n : ℕ) → opened (longest os (behind_at xs j) (drop j xs)) ≡ Some (m, n) → Some (j - i, m, n) ≡ found_from os xs i
  clear_here m n e =
      let z : i + (j - i) ≡ j = omega (arith, clear.0) in
      let w : (j - i) + 0 ≡ j - i = omega arith in
      sym (found_passed os xs i (j - i) (λ k l b. clear.1 k l (omega arith))
      ∙ ap (λ k. moved (j - i) (found_from os xs k)) z
      ∙ ap (moved (j - i)) (here (longest os (behind_at xs j) (drop j xs)) m n refl e)
      ∙ ap (λ d. Some (d, m, n)) w)

-- one turn of a search by the bytes with which openings begin
module _ (ns : List ℕ) (os : List Opening) (xs ys : List ℕ) (i j : ℕ) (led : Led ns os) (y : ys ≡ drop j xs) (clear : Clear os xs i j) where
  pub turn_end : None ≡ first_in ns ys → Told os xs i None
  turn_end e = told_by os xs i None (clear_all ns os xs ys i j led y clear (subst (First (HoldsAny ns ys)) (sym e) (first_in_first ns ys)))

  module _ (d : ℕ) (e : Some d ≡ first_in ns ys) (h : j + d < length xs) where
    turn_to : Clear os xs i (j + d)
    turn_to = clear_to ns os xs ys i j led y clear d (subst (First (HoldsAny ns ys)) (sym e) (first_in_first ns ys))

    pub turn_here : (m : StartMarker) (n : ℕ) → opened (longest os (behind_at xs (j + d)) (drop (j + d) xs)) ≡ Some (m, n) → Told os xs i (Some ((j + d) - i, m, n))
    turn_here m n f = told_by os xs i (Some ((j + d) - i, m, n)) (clear_here os xs i (j + d) h turn_to m n f)

    pub turn_more : opened (longest os (behind_at xs (j + d)) (drop (j + d) xs)) ≡ None → Clear os xs i (j + d + 1)
    turn_more f = clear_more os xs i (j + d) h turn_to f
