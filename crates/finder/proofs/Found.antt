-- What is found: the first place where an opening qualifies, and the longest there.
use Rattle.std.proofs.Common.{◌≡◌, ℕ, zero, suc, ◌+◌, ◌<◌, ◌≤◌, Bool, true, false, ◌⊎◌, List, [], ◌∷◌, reverse, length, get_or, take, drop, Some, None, Option, sym, refl, ap, ◌∙◌, subst, inl, ⊎_elim, add-one, arith}
use Rattle.std.proofs.lemmas.List.{drop_more, drop_all, length-drop}
use Rattle.std.proofs.lemmas.Bool.{cases_lt, both_ways}
use Rattle.std.specs.List.{ContainsAt as Has}
use Rattle.byte_search.specs.Search.{stands_at}
use Rattle.byte_search.proofs.Stands.{stands_fits}
use Rattle.finder.specs.declared.StartMarker.{StartMarker}
use Rattle.finder.specs.declared.StartMarker.TheVariants.{Variable, Block, Comment, LineStatement, LineComment}
use Rattle.finder.specs.Finding.{Opening, Triple, blank_line, fitting, qualifies, longest, further, found, found_from, QualifiesAt, Finds, Inside}
use Rattle.finder.proofs.Lines.{before_more, blank_words, words_blank}
use Rattle.finder.proofs.Longest.{Best, longest_best}

-- the bytes before a place, the newest first
abbrev pub behind_at : List ℕ → ℕ → List ℕ
behind_at xs k = reverse (take k xs)

fits_by : (m : StartMarker) (b : List ℕ) → (m ≡ LineStatement → blank_line b ≡ true) → fitting m b ≡ true
fits_by Variable b h = refl
fits_by Block b h = refl
fits_by Comment b h = refl
fits_by LineStatement b h = h refl
fits_by LineComment b h = refl

both_true : (s f : Bool) → elim s [ true ↦ f | false ↦ false ] ≡ true → (s ≡ true) × (f ≡ true)
both_true true f e = (refl, e)
both_true false f e = absurd (both_ways false refl e)

-- an opening qualifies at a place as the test has it, and as the words have it
pub qualifies_words : (o : Opening) (xs : List ℕ) (k : ℕ) → k < length xs → qualifies o (behind_at xs k) (drop k xs) ≡ true → QualifiesAt o xs k
qualifies_words o xs k h e =
    let p = both_true (stands_at o.bytes (drop k xs)) (fitting o.marker (behind_at xs k)) e in
    (h, p.0, λ m. blank_words xs k (omega arith) (ap (λ x. fitting x (behind_at xs k)) (sym m) ∙ p.1))

pub words_qualify : (o : Opening) (xs : List ℕ) (k : ℕ) → QualifiesAt o xs k → qualifies o (behind_at xs k) (drop k xs) ≡ true
words_qualify o xs k q =
    ap (λ t. elim t [ true ↦ fitting o.marker (behind_at xs k) | false ↦ false ]) q.1
    ∙ fits_by o.marker (behind_at xs k) (λ m. words_blank xs k (omega (arith, q.0)) (q.2 m))

-- one step of the search

pub found_here : (os : List Opening) (xs : List ℕ) (i : ℕ) (o : Opening) → i < length xs → longest os (behind_at xs i) (drop i xs) ≡ Some o → found_from os xs i ≡ Some (0, o.marker, length o.bytes)
unfolding found
found_here os xs i o h e =
    ap (found os (behind_at xs i)) (drop_more xs i 0 h)
    ∙ ap (λ r. elim r [ Some p ↦ Some (0, p.marker, length p.bytes) | None ↦ further (found os (get_or xs i 0 ∷ behind_at xs i) (drop (i + 1) xs)) ]) (ap (longest os (behind_at xs i)) (sym (drop_more xs i 0 h)) ∙ e)

pub found_on : (os : List Opening) (xs : List ℕ) (i : ℕ) → i < length xs → longest os (behind_at xs i) (drop i xs) ≡ None → found_from os xs i ≡ further (found_from os xs (suc i))
unfolding found
found_on os xs i h e =
    ap (found os (behind_at xs i)) (drop_more xs i 0 h)
    ∙ ap (λ r. elim r [ Some p ↦ Some (0, p.marker, length p.bytes) | None ↦ further (found os (get_or xs i 0 ∷ behind_at xs i) (drop (i + 1) xs)) ]) (ap (longest os (behind_at xs i)) (sym (drop_more xs i 0 h)) ∙ e)
    ∙ ap (λ b. further (found os b (drop (i + 1) xs))) (sym (before_more xs i h)) ∙ ap (λ n. further (found os (behind_at xs (suc i)) (drop n xs))) (add-one i)

pub found_end : (os : List Opening) (xs : List ℕ) (i : ℕ) → length xs ≤ i → found_from os xs i ≡ None
unfolding found
found_end os xs i h = ap (found os (behind_at xs i)) (drop_all i xs h)

-- no opening qualifies at the place
abbrev pub NoneAt : List Opening → List ℕ → ℕ → Type 0
NoneAt os xs k = (o : Opening) → Has os o → QualifiesAt o xs k → ⊥

none_longest : (os : List Opening) (xs : List ℕ) (i : ℕ) (r : Option Opening) → i < length xs → NoneAt os xs i → Best os (behind_at xs i) (drop i xs) r → r ≡ None
none_longest os xs i None h n b = refl
none_longest os xs i (Some o) h n b = absurd (n o b.0 (qualifies_words o xs i h b.1))

-- a place where none qualifies is passed over
pub found_skip : (os : List Opening) (xs : List ℕ) (i : ℕ) → i < length xs → NoneAt os xs i → found_from os xs i ≡ further (found_from os xs (suc i))
found_skip os xs i h n = found_on os xs i h (none_longest os xs i (longest os (behind_at xs i) (drop i xs)) h n (longest_best (behind_at xs i) (drop i xs) os))

-- n bytes further
abbrev pub moved : ℕ → Option Triple → Option Triple
moved n None = None
moved n (Some t) = Some (n + t.0, t.1, t.2)

moved_further : (n : ℕ) (r : Option Triple) → moved n (further r) ≡ moved (suc n) r
moved_further n None = refl
moved_further n (Some t) = let z : n + suc t.0 ≡ suc n + t.0 = omega arith in ap (λ d. Some (d, t.1, t.2)) z

moved_none : (r : Option Triple) → r ≡ moved 0 r
moved_none None = refl
moved_none (Some t) = let z : t.0 ≡ 0 + t.0 = omega arith in ap (λ d. Some (d, t.1, t.2)) z

-- as many places as none qualifies at are passed over
pub found_passed : (os : List Opening) (xs : List ℕ) (i n : ℕ) → ((k : ℕ) → i ≤ k → k < i + n → NoneAt os xs k) → found_from os xs i ≡ moved n (found_from os xs (i + n))
found_passed os xs i zero f = let z : i ≡ i + 0 = omega arith in moved_none (found_from os xs i) ∙ ap (λ k. moved 0 (found_from os xs k)) z
found_passed os xs i (suc n) f =
    let z : suc (i + n) ≡ i + suc n = omega arith in
    found_passed os xs i n (λ k l h. f k l (omega arith))
    ∙ ap (moved n) (⊎_elim (λ h. found_skip os xs (i + n) h (f (i + n) (omega arith) (omega arith))) (λ h. found_end os xs (i + n) h ∙ sym (ap further (found_end os xs (suc (i + n)) (omega arith)))) (cases_lt (i + n) (length xs)))
    ∙ moved_further n (found_from os xs (suc (i + n))) ∙ ap (λ k. moved (suc n) (found_from os xs k)) z

-- the law

here_finds : (os : List Opening) (xs : List ℕ) (i : ℕ) (o : Opening) → i < length xs → Best os (behind_at xs i) (drop i xs) (Some o) → Finds os xs i (Some (0, o.marker, length o.bytes))
here_finds os xs i o h b =
    let z : i + 0 ≡ i = omega arith in (
      (o, b.0, subst (QualifiesAt o xs) (sym z) (qualifies_words o xs i h b.1), refl, refl),
      (λ k p l m q r. omega arith),
      λ p q r. b.2 p q (words_qualify p xs i (subst (QualifiesAt p xs) z r)),
    )

on_finds : (os : List Opening) (xs : List ℕ) (i : ℕ) (r : Option Triple) → NoneAt os xs i → Finds os xs (suc i) r → Finds os xs i (further r)
on_finds os xs i None n f = λ k o l h q. ⊎_elim (λ p. f k o p h q) (λ p. let z : k ≡ i = omega arith in n o h (subst (QualifiesAt o xs) z q)) (cases_lt i k)
on_finds os xs i (Some t) n f =
    let z : suc i + t.0 ≡ i + suc t.0 = omega arith in
    let g = f.0 in (
      (g.0, g.1, subst (QualifiesAt g.0 xs) z g.2, g.3, g.4),
      (λ k o l h p q. ⊎_elim (λ a. f.1 k o a (omega arith) p q) (λ a. let e : k ≡ i = omega arith in n o p (subst (QualifiesAt o xs) e q)) (cases_lt i k)),
      λ o h q. f.2 o h (subst (QualifiesAt o xs) (sym z) q),
    )

finds_by : (os : List Opening) (xs : List ℕ) (i : ℕ) (r : Option Opening) → i < length xs → longest os (behind_at xs i) (drop i xs) ≡ r → Finds os xs (suc i) (found_from os xs (suc i)) → Finds os xs i (found_from os xs i)
finds_by os xs i None h e f =
    let b = subst (Best os (behind_at xs i) (drop i xs)) e (longest_best (behind_at xs i) (drop i xs) os) in
    subst (Finds os xs i) (sym (found_on os xs i h e)) (on_finds os xs i (found_from os xs (suc i)) (λ o p q. b o p (words_qualify o xs i q)) f)
finds_by os xs i (Some o) h e f =
    let b = subst (Best os (behind_at xs i) (drop i xs)) e (longest_best (behind_at xs i) (drop i xs) os) in
    subst (Finds os xs i) (sym (found_here os xs i o h e)) (here_finds os xs i o h b)

finds_within : (os : List Opening) (xs : List ℕ) (n i : ℕ) → length xs ≤ i + n → Finds os xs i (found_from os xs i)
finds_within os xs zero i h = subst (Finds os xs i) (sym (found_end os xs i (omega arith))) (λ k o l p q. omega (arith, q.0))
finds_within os xs (suc n) i h =
    ⊎_elim
    (λ l. finds_by os xs i (longest os (behind_at xs i) (drop i xs)) l refl (finds_within os xs n (suc i) (omega arith)))
    (λ l. subst (Finds os xs i) (sym (found_end os xs i l)) (λ k o p q r. omega (arith, r.0)))
    (cases_lt i (length xs))

pub found_finds : (os : List Opening) (xs : List ℕ) (i : ℕ) → Finds os xs i (found_from os xs i)
found_finds os xs i = finds_within os xs (length xs) i (omega arith)

-- what is found lies in the source
pub finds_inside : (os : List Opening) (xs : List ℕ) (i : ℕ) (r : Option Triple) → Finds os xs i r → Inside xs i r
finds_inside os xs i None f = tt
finds_inside os xs i (Some t) f =
    let g = f.0 in
    let l = stands_fits g.0.bytes (drop (i + t.0) xs) g.2.1 in
    (g.2.0, omega (arith, l, length-drop (i + t.0) xs, g.2.0, g.4))

pub found_inside : (os : List Opening) (xs : List ℕ) (i : ℕ) → Inside xs i (found_from os xs i)
found_inside os xs i = finds_inside os xs i (found_from os xs i) (found_finds os xs i)

-- all three clauses of a finder from the first
pub found_none : (xs : List ℕ) (i : ℕ) → None ≡ found_from [] xs i
found_none xs i = ⊎_elim (λ r. r) (λ r. r) (by (found_from [] xs i) (found_finds [] xs i))
  where
    by : (r : Option Triple) → Finds [] xs i r → (None ≡ r) ⊎ (None ≡ r)
    by None f = inl refl
    by (Some t) f = absurd (omega (arith, f.0.1.1))
