-- The openings of settings, entered one after the other.
use Rattle.std.proofs.Common.{◌≡◌, ℕ, ◌+◌, ◌<◌, ◌≤◌, true, false, List, [], ◌∷◌, length, get_or, drop, sym, refl, ap, ◌∙◌}
use Rattle.std.proofs.lemmas.List.{drop_more, drop_all}
use Rattle.finder.specs.declared.StartMarker.{StartMarker}
use Rattle.finder.specs.Finding.{Opening}
use Rattle.syntax.specs.declared.name.DelimiterName.{DelimiterName}
use Rattle.syntax.specs.Building.{Table, is_empty}
use Rattle.syntax.specs.Drafts.{defaults}
use Rattle.syntax.specs.Names.{opener, markers}
use Rattle.syntax.specs.Openings.{openings_by}
use Rattle.finders.specs.Defaults.{default_openings}
use Rattle.finders.specs.Order.{entered, entered_all, ordered}

-- those that the markers from a place on name, put among those that have a place, are all in order
abbrev pub EntersFrom : Table → List StartMarker → ℕ → List Opening → Type 0
EntersFrom t ms i placed = entered_all (openings_by t (drop i ms)) placed ≡ ordered (openings_by t ms)

enter_one : (t : Table) (m : StartMarker) (ms : List StartMarker) (placed : List Opening) → entered_all (openings_by t (m ∷ ms)) placed ≡ entered_all (openings_by t ms) (elim (is_empty (t (opener m))) [ true ↦ placed | false ↦ entered (record { marker = m; bytes = t (opener m) }) placed ])
unfolding entered_all openings_by
enter_one t m ms placed = elim (is_empty (t (opener m))) as (λ b. entered_all (elim b [ true ↦ openings_by t ms | false ↦ record { marker = m; bytes = t (opener m) } ∷ openings_by t ms ]) placed ≡ entered_all (openings_by t ms) (elim b [ true ↦ placed | false ↦ entered (record { marker = m; bytes = t (opener m) }) placed ])) [ true ↦ refl | false ↦ refl ]

pub enters_more : (t : Table) (ms : List StartMarker) (i : ℕ) (d : StartMarker) (placed next : List Opening) (bs : List ℕ) → i < length ms → bs ≡ t (opener (get_or ms i d)) → next ≡ elim (is_empty bs) [ true ↦ placed | false ↦ entered (record { marker = get_or ms i d; bytes = bs }) placed ] → EntersFrom t ms i placed → EntersFrom t ms (i + 1) next
enters_more t ms i d placed next bs h b e f =
    let m = get_or ms i d in
    ap (entered_all (openings_by t (drop (i + 1) ms))) (e ∙ ap (λ x. elim (is_empty x) [ true ↦ placed | false ↦ entered (record { marker = m; bytes = x }) placed ]) b)
    ∙ sym (enter_one t m (drop (i + 1) ms) placed)
    ∙ sym (ap (λ l. entered_all (openings_by t l) placed) (drop_more ms i d h))
    ∙ f

pub enters_all : (t : Table) (ms : List StartMarker) (i : ℕ) (placed : List Opening) → length ms ≤ i → EntersFrom t ms i placed → placed ≡ ordered (openings_by t ms)
unfolding entered_all openings_by
enters_all t ms i placed h f = sym (ap (λ l. entered_all (openings_by t l) placed) (drop_all i ms h)) ∙ f

-- equal tables name equal openings
pub openings_same : (t u : Table) (ms : List StartMarker) → ((n : DelimiterName) → t n ≡ u n) → openings_by t ms ≡ openings_by u ms
unfolding openings_by
openings_same t u [] f = refl
openings_same t u (m ∷ ms) f =
    ap (λ bs. elim (is_empty bs) [ true ↦ openings_by t ms | false ↦ record { marker = m; bytes = bs } ∷ openings_by t ms ]) (f (opener m))
    ∙ ap (λ os. elim (is_empty (u (opener m))) [ true ↦ os | false ↦ record { marker = m; bytes = u (opener m) } ∷ os ]) (openings_same t u ms f)

pub defaults_ordered : ordered (openings_by defaults markers) ≡ default_openings
unfolding openings_by entered_all entered
defaults_ordered = refl

pub default_table : (t : Table) → ((n : DelimiterName) → t n ≡ defaults n) → ordered (openings_by t markers) ≡ default_openings
default_table t f = ap ordered (openings_same t defaults markers f) ∙ defaults_ordered
