-- Openings in order are found as they are without it.
use Rattle.std.proofs.Common.{◌≡◌, ℕ, ◌<◌, ◌≤◌, true, false, ltb, List, [], ◌∷◌, ◌++◌, reverse, length, take, drop, Some, None, Option, sym, refl, ap, ◌∙◌, ⊎_elim, append-nil, arith}
use Rattle.std.proofs.lemmas.Bool.{cases_Bool, ltb-true, ltb-false, lt-ltb, le-ltb}
use Rattle.std.specs.List.{ContainsAt as Has}
use Rattle.finder.specs.Finding.{Opening, qualifies, longer, longest, further, found, found_from}
use Rattle.finder.proofs.Longest.{longest_yes, longest_no, has_first, has_later, has_cases}
use Rattle.finders.specs.Order.{entered, entered_all, ordered, Falling}
use Rattle.finders.proofs.Sorted.{falling_head, falling_tail, entered_yes, entered_no, entered_none, entered_falling}

-- of two, the longer is taken whichever comes first
longer_long : (o p : Opening) → length o.bytes < length p.bytes → longer o (Some p) ≡ Some p
longer_long o p h = ap (λ t. elim t [ true ↦ Some p | false ↦ Some o ]) (lt-ltb (length o.bytes) (length p.bytes) h)

longer_short : (o p : Opening) → length p.bytes ≤ length o.bytes → longer o (Some p) ≡ Some o
longer_short o p h = ap (λ t. elim t [ true ↦ Some p | false ↦ Some o ]) (le-ltb (length o.bytes) (length p.bytes) h)

longer_swap : (o p : Opening) (r : Option Opening) → length p.bytes < length o.bytes → longer o (longer p r) ≡ longer p (longer o r)
longer_swap o p None h = longer_short o p (omega arith) ∙ sym (longer_long p o h)
longer_swap o p (Some q) h = ⊎_elim
    (λ e. let a = ltb-true (length o.bytes) (length q.bytes) e in
    ap (longer o) (longer_long p q (omega arith)) ∙ longer_long o q a ∙ sym (ap (longer p) (longer_long o q a) ∙ longer_long p q (omega arith)))
    (λ e. let a = ltb-false (length o.bytes) (length q.bytes) e in
    left (omega arith) ∙ sym (ap (longer p) (longer_short o q a) ∙ longer_long p o h))
    (cases_Bool (ltb (length o.bytes) (length q.bytes)))
  where
    left : length q.bytes ≤ length o.bytes → longer o (longer p (Some q)) ≡ Some o
    left a = ⊎_elim
        (λ e. ap (longer o) (longer_long p q (ltb-true (length p.bytes) (length q.bytes) e)) ∙ longer_short o q a)
        (λ e. ap (longer o) (longer_short p q (ltb-false (length p.bytes) (length q.bytes) e)) ∙ longer_short o p (omega arith))
        (cases_Bool (ltb (length p.bytes) (length q.bytes)))

module _ (behind ahead : List ℕ) where
  abbrev best : List Opening → Option Opening
  best os = longest os behind ahead

  behind_one : (p : Opening) (os ps : List Opening) → best os ≡ best ps → best (p ∷ os) ≡ best (p ∷ ps)
  behind_one p os ps e = ⊎_elim
      (λ q. longest_yes behind ahead p os q ∙ ap (longer p) e ∙ sym (longest_yes behind ahead p ps q))
      (λ q. longest_no behind ahead p os q ∙ e ∙ sym (longest_no behind ahead p ps q))
      (cases_Bool (qualifies p behind ahead))

  swap : (o p : Opening) (os : List Opening) → length p.bytes < length o.bytes → best (o ∷ p ∷ os) ≡ best (p ∷ o ∷ os)
  swap o p os h = ⊎_elim
      (λ q. ⊎_elim
      (λ r.
      longest_yes behind ahead o (p ∷ os) q ∙ ap (longer o) (longest_yes behind ahead p os r) ∙ longer_swap o p (best os) h
      ∙ sym (longest_yes behind ahead p (o ∷ os) r ∙ ap (longer p) (longest_yes behind ahead o os q)))
      (λ r.
      behind_one o (p ∷ os) os (longest_no behind ahead p os r) ∙ sym (longest_no behind ahead p (o ∷ os) r))
      (cases_Bool (qualifies p behind ahead)))
      (λ q. longest_no behind ahead o (p ∷ os) q ∙ sym (behind_one p (o ∷ os) os (longest_no behind ahead o os q)))
      (cases_Bool (qualifies o behind ahead))

  -- an opening sinks behind shorter ones
  sink : (o : Opening) (ps rest : List Opening) → ((p : Opening) → Has ps p → length p.bytes < length o.bytes) → best (o ∷ (ps ++ rest)) ≡ best (ps ++ (o ∷ rest))
  sink o [] rest f = refl
  sink o (p ∷ ps) rest f =
      swap o p (ps ++ rest) (f p (has_first p ps))
      ∙ behind_one p (o ∷ (ps ++ rest)) (ps ++ (o ∷ rest)) (sink o ps rest (λ q h. f q (has_later p q ps h)))

  shorter_all : (o p : Opening) (ps : List Opening) → Falling (p ∷ ps) → length p.bytes < length o.bytes → (q : Opening) → Has (p ∷ ps) q → length q.bytes < length o.bytes
  shorter_all o p ps f l q h = ⊎_elim (λ z. omega (arith, ap (λ t. length t.bytes) z)) (λ k. omega (arith, falling_head p ps f q k)) (has_cases p q ps h)

  enter_same : (o : Opening) (ps rest : List Opening) → Falling ps → best (entered o ps ++ rest) ≡ best (ps ++ (o ∷ rest))
  enter_same o [] rest f = ap (λ l. best (l ++ rest)) (entered_none o)
  enter_same o (p ∷ ps) rest f = ⊎_elim
      (λ e. ap (λ l. best (l ++ rest)) (entered_yes o p ps e) ∙ sink o (p ∷ ps) rest (shorter_all o p ps f (ltb-true (length p.bytes) (length o.bytes) e)))
      (λ e. ap (λ l. best (l ++ rest)) (entered_no o p ps e) ∙ behind_one p (entered o ps ++ rest) (ps ++ (o ∷ rest)) (enter_same o ps rest (falling_tail p ps f)))
      (cases_Bool (ltb (length p.bytes) (length o.bytes)))

  all_same : (os placed : List Opening) → Falling placed → best (entered_all os placed) ≡ best (placed ++ os)
  unfolding entered_all
  all_same [] placed f = ap best (sym (append-nil placed))
  all_same (o ∷ os) placed f = all_same os (entered o placed) (entered_falling o placed f) ∙ enter_same o placed os f

-- the longest opening is the same
pub ordered_longest : (os : List Opening) (behind ahead : List ℕ) → longest (ordered os) behind ahead ≡ longest os behind ahead
ordered_longest os behind ahead = all_same behind ahead os [] (λ j k l h. absurd (omega arith))

-- openings of which everywhere the same is the longest are found alike
pub found_alike : (os ps : List Opening) → ((behind ahead : List ℕ) → longest os behind ahead ≡ longest ps behind ahead) → (behind ahead : List ℕ) → found os behind ahead ≡ found ps behind ahead
unfolding found
found_alike os ps f behind [] = refl
found_alike os ps f behind (x ∷ xs) =
    ap (λ r. elim r [ Some o ↦ Some (0, o.marker, length o.bytes) | None ↦ further (found os (x ∷ behind) xs) ]) (f behind (x ∷ xs))
    ∙ ap (λ n. elim (longest ps behind (x ∷ xs)) [ Some o ↦ Some (0, o.marker, length o.bytes) | None ↦ further n ]) (found_alike os ps f (x ∷ behind) xs)

-- what is found is the same
pub ordered_same : (os : List Opening) (xs : List ℕ) (i : ℕ) → found_from (ordered os) xs i ≡ found_from os xs i
ordered_same os xs i = found_alike (ordered os) os (ordered_longest os) (reverse (take i xs)) (drop i xs)
