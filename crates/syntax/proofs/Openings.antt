-- The openings of settings.
use Rattle.std.proofs.Common.{◌≡◌, ℕ, zero, suc, ◌<◌, ◌≤◌, true, false, List, [], ◌∷◌, map, length, get_or, take, sym, ap, ◌∙◌, subst, ⊎_elim, arith, length-take, get_or-take}
use Rattle.std.proofs.lemmas.Bool.{cases_Bool}
use Rattle.finder.specs.declared.StartMarker.{StartMarker}
use Rattle.finder.specs.declared.StartMarker.TheVariants.{Variable, Block, Comment, LineStatement, LineComment}
use Rattle.finder.specs.Finding.{Opening}
use Rattle.syntax.specs.declared.name.DelimiterName.TheVariants.{BlockStart}
use Rattle.syntax.specs.Names.{opener, markers, name_at, opening_names}
use Rattle.syntax.specs.Building.{Table, is_empty, passes, EqualAt, Nowhere, Fit}
use Rattle.syntax.specs.Openings.{openings_by, Lawful}
use Rattle.syntax.proofs.Laws.{empty_true, empty_false, passes_fit}

-- the opening of a marker
abbrev one : Table → StartMarker → Opening
one t m = record { marker = m; bytes = t (opener m) }

module _ (t : Table) (m : StartMarker) (ms : List StartMarker) where
  skipped : is_empty (t (opener m)) ≡ true → openings_by t (m ∷ ms) ≡ openings_by t ms
  unfolding openings_by
  skipped e = ap (λ b. elim b [ true ↦ openings_by t ms | false ↦ one t m ∷ openings_by t ms ]) e

  kept : is_empty (t (opener m)) ≡ false → openings_by t (m ∷ ms) ≡ one t m ∷ openings_by t ms
  unfolding openings_by
  kept e = ap (λ b. elim b [ true ↦ openings_by t ms | false ↦ one t m ∷ openings_by t ms ]) e

  kept_length : (t (opener m) ≡ [] → ⊥) → length (openings_by t (m ∷ ms)) ≡ suc (length (openings_by t ms))
  kept_length h = ⊎_elim (λ e. absurd (h (empty_true (t (opener m)) e))) (λ e. ap length (kept e)) (cases_Bool (is_empty (t (opener m))))

-- each of the openings has the property
abbrev Each : (List ℕ → Type 0) → List Opening → Type 0
Each P os = (k : ℕ) (o : Opening) → k < length os → P (get_or os k o).bytes

each_cons : (P : List ℕ → Type 0) (o : Opening) (os : List Opening) → P o.bytes → Each P os → Each P (o ∷ os)
each_cons P o os p w zero d h = p
each_cons P o os p w (suc k) d h = w k d (omega arith)

-- what holds of the bytes of each name that has some holds of each opening
pub each : (t : Table) (P : List ℕ → Type 0) (ms : List StartMarker) → ((k : ℕ) → k < length (map opener ms) → (t (name_at (map opener ms) k) ≡ [] → ⊥) → P (t (name_at (map opener ms) k))) → Each P (openings_by t ms)
unfolding openings_by
each t P [] f = λ k o h. absurd (omega arith)
each t P (m ∷ ms) f =
    let w : Each P (openings_by t ms) = each t P ms (λ k h. f (suc k) (omega arith)) in
    ⊎_elim
    (λ e. subst (Each P) (sym (skipped t m ms e)) w)
    (λ e. subst (Each P) (sym (kept t m ms e)) (each_cons P (one t m) (openings_by t ms) (f 0 (omega arith) (empty_false (t (opener m)) e)) w))
    (cases_Bool (is_empty (t (opener m))))

-- no two of the openings have the same bytes
abbrev Distinct : List Opening → Type 0
Distinct os = (j k : ℕ) (o : Opening) → j < k → k < length os → (get_or os j o).bytes ≡ (get_or os k o).bytes → ⊥

distinct_cons : (o : Opening) (os : List Opening) → Each (λ xs. o.bytes ≡ xs → ⊥) os → Distinct os → Distinct (o ∷ os)
distinct_cons o os u w j zero d g h e = absurd (omega arith)
distinct_cons o os u w zero (suc k) d g h e = u k d (omega arith) e
distinct_cons o os u w (suc j) (suc k) d g h e = w j k d (omega arith) (omega arith) e

-- no name's bytes, where there are some, are those of an earlier one
abbrev Unlike : Table → List StartMarker → Type 0
Unlike t ms = (j k : ℕ) → j < k → k < length (map opener ms) → (t (name_at (map opener ms) k) ≡ [] → ⊥) → t (name_at (map opener ms) j) ≡ t (name_at (map opener ms) k) → ⊥

distinct : (t : Table) (ms : List StartMarker) → Unlike t ms → Distinct (openings_by t ms)
unfolding openings_by
distinct t [] f = λ j k o g h e. absurd (omega arith)
distinct t (m ∷ ms) f =
    let w : Distinct (openings_by t ms) = distinct t ms (λ j k g h. f (suc j) (suc k) (omega arith) (omega arith)) in
    ⊎_elim
    (λ e. subst Distinct (sym (skipped t m ms e)) w)
    (λ e. subst Distinct (sym (kept t m ms e)) (distinct_cons (one t m) (openings_by t ms) (each t (λ xs. t (opener m) ≡ xs → ⊥) ms (λ k h. f 0 (suc k) (omega arith) (omega arith))) w))
    (cases_Bool (is_empty (t (opener m))))

unlike : (t : Table) → Nowhere (EqualAt t opening_names) → Unlike t markers
unlike t w j k g h n e =
    let l : j < length (take k opening_names) = simp length-take (omega arith) in
    w k (h, (n, (j, l, ap t (get_or-take k opening_names j BlockStart g) ∙ e)))

at_most : (t : Table) (ms : List StartMarker) → length (openings_by t ms) ≤ length ms
unfolding openings_by
at_most t [] = omega arith
at_most t (m ∷ ms) =
    let h = at_most t ms in
    ⊎_elim
    (λ e. let q = ap length (skipped t m ms e) in omega arith)
    (λ e. let q = ap length (kept t m ms e) in omega arith)
    (cases_Bool (is_empty (t (opener m))))

-- the openings of a table with nothing to refuse
pub fit_lawful : (t : Table) → Fit t → Lawful (openings_by t markers)
fit_lawful t w =
    let a = kept_length t Variable (Block ∷ Comment ∷ LineStatement ∷ LineComment ∷ []) (λ e. w.0 2 (omega arith, e)) in
    let b = kept_length t Block (Comment ∷ LineStatement ∷ LineComment ∷ []) (λ e. w.0 0 (omega arith, e)) in
    let d = kept_length t Comment (LineStatement ∷ LineComment ∷ []) (λ e. w.0 4 (omega arith, e)) in
    record {
      filled = each t (λ xs. xs ≡ [] → ⊥) markers (λ k h n. n);
      apart = distinct t markers (unlike t w.1);
      three = omega arith;
      five = at_most t markers;
    }

pub passes_lawful : (t : Table) → passes t ≡ true → Lawful (openings_by t markers)
passes_lawful t e = fit_lawful t (passes_fit t e)
