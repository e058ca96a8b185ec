-- What the walks of building find, in words.
use Rattle.std.proofs.Common.{◌≡◌, ℕ, zero, suc, ◌<◌, true, false, cond, List, [], ◌∷◌, ◌++◌, ◌||◌, length, take, Some, None, Ok, Err, Option, sym, refl, ap, ◌∙◌, subst, ⊎_elim, append_assoc, append-nil, arith, eqb-true}
use borrow.Author.Tests.{eqb-false}
use Rattle.std.proofs.lemmas.Bool.{cases_Bool, both_ways}
use Rattle.std.proofs.lemmas.Slice.Eq.{bytes_eq-Decides}
use Rattle.std.specs.Str.{bytes_eq}
use Rattle.syntax.specs.declared.name.DelimiterName.{DelimiterName}
use Rattle.syntax.specs.Names.{name_at, required_names, opening_names, line_prefix}
use Rattle.syntax.specs.declared.name.DelimiterName.TheVariants.{BlockStart, BlockEnd, VariableStart, VariableEnd, CommentStart, CommentEnd, LineStatementPrefix, LineCommentPrefix}
use Rattle.syntax.specs.Building.{Table, is_empty, first_empty, any_same, repeats, first_equal, equal_told, empty_told, build_told, passes, EmptyAt, Repeats, EqualAt, Nowhere, FirstAt, Fit}

pub empty_true : (xs : List ℕ) → is_empty xs ≡ true → xs ≡ []
empty_true [] e = refl
empty_true (x ∷ xs) e = let h = eqb-true (length (x ∷ xs)) 0 e in absurd (omega arith)

pub empty_false : (xs : List ℕ) → is_empty xs ≡ false → xs ≡ [] → ⊥
empty_false xs e p = eqb-false (length xs) 0 e (ap length p)

-- a name of these bytes is among the names exactly where the test says so
pub any_true : (t : Table) (xs : List ℕ) (ns : List DelimiterName) → any_same t xs ns ≡ true → (j : ℕ) × (j < length ns) × (t (name_at ns j) ≡ xs)
any_true t xs [] e = absurd (both_ways false refl e)
any_true t xs (n ∷ ns) e = ⊎_elim
    (λ p. (0, omega arith, (bytes_eq-Decides (t n) xs).0 p))
    (λ p. let w = any_true t xs ns (sym (ap (λ b. b || any_same t xs ns) p) ∙ e) in (suc w.0, omega arith, w.2))
    (cases_Bool (bytes_eq (t n) xs))

pub any_false : (t : Table) (xs : List ℕ) (ns : List DelimiterName) → any_same t xs ns ≡ false → (j : ℕ) → j < length ns → t (name_at ns j) ≡ xs → ⊥
any_false t xs [] e j h q = absurd (omega arith)
any_false t xs (n ∷ ns) e zero h q = both_ways (any_same t xs (n ∷ ns)) e (ap (λ b. b || any_same t xs ns) ((bytes_eq-Decides (t n) xs).1 q))
any_false t xs (n ∷ ns) e (suc j) h q = ⊎_elim
    (λ p. both_ways (any_same t xs (n ∷ ns)) e (ap (λ b. b || any_same t xs ns) p))
    (λ p. any_false t xs ns (sym (ap (λ b. b || any_same t xs ns) p) ∙ e) j (omega arith) q)
    (cases_Bool (bytes_eq (t n) xs))

module _ (t : Table) (earlier : List DelimiterName) (n : DelimiterName) where
  pub repeats_true : repeats t earlier n ≡ true → Repeats t earlier n
  repeats_true e = ⊎_elim
      (λ p. absurd (both_ways (repeats t earlier n) (ap (λ b. elim b [ true ↦ false | false ↦ any_same t (t n) earlier ]) p) e))
      (λ p. (empty_false (t n) p, any_true t (t n) earlier (sym (ap (λ b. elim b [ true ↦ false | false ↦ any_same t (t n) earlier ]) p) ∙ e)))
      (cases_Bool (is_empty (t n)))

  pub repeats_false : repeats t earlier n ≡ false → Repeats t earlier n → ⊥
  repeats_false e w = ⊎_elim
      (λ p. w.0 (empty_true (t n) p))
      (λ p. any_false t (t n) earlier (sym (ap (λ b. elim b [ true ↦ false | false ↦ any_same t (t n) earlier ]) p) ∙ e) w.1.0 w.1.1 w.1.2)
      (cases_Bool (is_empty (t n)))

-- the first place that has the property, or none
abbrev pub FirstIn : (ℕ → Type 0) → List DelimiterName → Option DelimiterName → Type 0
FirstIn P ns None = Nowhere P
FirstIn P ns (Some n) = FirstAt P ns n

unless_first : (P Q : ℕ → Type 0) → (P 0 → ⊥) → ((k : ℕ) → P (suc k) → Q k) → Nowhere Q → Nowhere P
unless_first P Q z s w zero p = z p
unless_first P Q z s w (suc k) p = w k (s k p)

unless_before : (P Q : ℕ → Type 0) (i : ℕ) → (P 0 → ⊥) → ((k : ℕ) → P (suc k) → Q k) → ((j : ℕ) → j < i → Q j → ⊥) → (j : ℕ) → j < suc i → P j → ⊥
unless_before P Q i z s w zero h p = z p
unless_before P Q i z s w (suc j) h p = w j (omega arith) (s j p)

-- where the first name has it not, the walk goes on behind it
behind : (P Q : ℕ → Type 0) (n : DelimiterName) (ns : List DelimiterName) (r : Option DelimiterName) → (P 0 → ⊥) → ((k : ℕ) → P (suc k) → Q k) → ((k : ℕ) → Q k → P (suc k)) → FirstIn Q ns r → FirstIn P (n ∷ ns) r
behind P Q n ns None z s u w = unless_first P Q z s w
behind P Q n ns (Some m) z s u w = (suc w.0, w.1, u w.0 w.2, unless_before P Q w.0 z s w.3)

in_front : (P : ℕ → Type 0) (n : DelimiterName) (ns : List DelimiterName) → P 0 → FirstIn P (n ∷ ns) (Some n)
in_front P n ns p = (0, refl, p, λ j h q. absurd (omega arith))

-- the walk over empty delimiters finds the first
pub first_empty_is : (t : Table) (ns : List DelimiterName) → FirstIn (EmptyAt t ns) ns (first_empty t ns)
first_empty_is t [] = λ k p. absurd (let h = p.0 in omega arith)
first_empty_is t (n ∷ ns) = ⊎_elim
    (λ e. subst (FirstIn (EmptyAt t (n ∷ ns)) (n ∷ ns)) (sym (ap (λ b. cond b (Some n) (first_empty t ns)) e))
    (in_front (EmptyAt t (n ∷ ns)) n ns (omega arith, empty_true (t n) e)))
    (λ e. subst (FirstIn (EmptyAt t (n ∷ ns)) (n ∷ ns)) (sym (ap (λ b. cond b (Some n) (first_empty t ns)) e))
    (behind (EmptyAt t (n ∷ ns)) (EmptyAt t ns) n ns (first_empty t ns) (λ p. empty_false (t n) e p.1)
    (λ k p. (let h = p.0 in omega arith, p.1)) (λ k p. (let h = p.0 in omega arith, p.1)) (first_empty_is t ns)))
    (cases_Bool (is_empty (t n)))

-- at this place stands an opening that equals one of the earlier ones, or one that stands before it
abbrev AfterAt : Table → List DelimiterName → List DelimiterName → ℕ → Type 0
AfterAt t earlier ns k = (k < length ns) × Repeats t (earlier ++ take k ns) (name_at ns k)

-- the walk over openings finds the first
pub first_equal_is : (t : Table) (earlier ns : List DelimiterName) → FirstIn (AfterAt t earlier ns) ns (first_equal t earlier ns)
unfolding first_equal
first_equal_is t earlier [] = λ k p. absurd (let h = p.0 in omega arith)
first_equal_is t earlier (n ∷ ns) = ⊎_elim
    (λ e. subst (FirstIn (AfterAt t earlier (n ∷ ns)) (n ∷ ns)) (sym (ap (λ b. elim b [ true ↦ Some n | false ↦ first_equal t (earlier ++ n ∷ []) ns ]) e))
    (in_front (AfterAt t earlier (n ∷ ns)) n ns (omega arith, subst (λ l. Repeats t l n) (sym (append-nil earlier)) (repeats_true t earlier n e))))
    (λ e. subst (FirstIn (AfterAt t earlier (n ∷ ns)) (n ∷ ns)) (sym (ap (λ b. elim b [ true ↦ Some n | false ↦ first_equal t (earlier ++ n ∷ []) ns ]) e))
    (behind (AfterAt t earlier (n ∷ ns)) (AfterAt t (earlier ++ n ∷ []) ns) n ns (first_equal t (earlier ++ n ∷ []) ns)
    (λ p. repeats_false t earlier n e (subst (λ l. Repeats t l n) (append-nil earlier) p.1))
    (λ k p. (let h = p.0 in omega arith, subst (λ l. Repeats t l (name_at ns k)) (sym (append_assoc earlier (n ∷ []) (take k ns))) p.1))
    (λ k p. (let h = p.0 in omega arith, subst (λ l. Repeats t l (name_at ns k)) (append_assoc earlier (n ∷ []) (take k ns)) p.1))
    (first_equal_is t (earlier ++ n ∷ []) ns)))
    (cases_Bool (repeats t earlier n))

-- what was told of the empty ones, and of the openings
pub told_empty : (t : Table) (r : Option DelimiterName) → r ≡ first_empty t required_names → FirstIn (EmptyAt t required_names) required_names r
told_empty t r e = subst (FirstIn (EmptyAt t required_names) required_names) (sym e) (first_empty_is t required_names)

pub told_equal : (t : Table) (r : Option DelimiterName) → r ≡ first_equal t [] opening_names → FirstIn (EqualAt t opening_names) opening_names r
told_equal t r e = subst (FirstIn (EqualAt t opening_names) opening_names) (sym e) (first_equal_is t [] opening_names)

nothing_told : (a b : Option DelimiterName) → elim (empty_told a (equal_told b)) [ Ok u ↦ true | Err f ↦ false ] ≡ true → (None ≡ a) × (None ≡ b)
nothing_told None None e = (refl, refl)
nothing_told None (Some n) e = absurd (both_ways false refl e)
nothing_told (Some m) b e = absurd (both_ways false refl e)

-- a table that passes has nothing to refuse
pub passes_fit : (t : Table) → passes t ≡ true → Fit t
passes_fit t e = let w = nothing_told (first_empty t required_names) (first_equal t [] opening_names) e in (told_empty t None w.0, told_equal t None w.1)

-- what is told of what the two walks found
pub told_build : (t : Table) (a b : Option DelimiterName) → a ≡ first_empty t required_names → b ≡ first_equal t [] opening_names → empty_told a (equal_told b) ≡ build_told t
told_build t a b p q = ap (λ b. empty_told a (equal_told b)) q ∙ ap (λ a. empty_told a (equal_told (first_equal t [] opening_names))) p

some_bytes : (xs : List ℕ) → (xs ≡ [] → ⊥) → 0 < length xs
some_bytes [] h = absurd (h refl)
some_bytes (x ∷ xs) h = omega arith

-- a delimiter of a table with nothing to refuse has bytes, unless it is a line prefix
pub fit_filled : (t : Table) → Fit t → (n : DelimiterName) → line_prefix n ≡ false → 0 < length (t n)
fit_filled t w BlockStart e = some_bytes (t BlockStart) (λ p. w.0 0 (omega arith, p))
fit_filled t w BlockEnd e = some_bytes (t BlockEnd) (λ p. w.0 1 (omega arith, p))
fit_filled t w VariableStart e = some_bytes (t VariableStart) (λ p. w.0 2 (omega arith, p))
fit_filled t w VariableEnd e = some_bytes (t VariableEnd) (λ p. w.0 3 (omega arith, p))
fit_filled t w CommentStart e = some_bytes (t CommentStart) (λ p. w.0 4 (omega arith, p))
fit_filled t w CommentEnd e = some_bytes (t CommentEnd) (λ p. w.0 5 (omega arith, p))
fit_filled t w LineStatementPrefix e = absurd (both_ways true e refl)
fit_filled t w LineCommentPrefix e = absurd (both_ways true e refl)
