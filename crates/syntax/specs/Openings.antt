-- What settings hold, and their openings.
use Rattle.std.specs.Prelude.{ℕ, ◌<◌, ◌≤◌, true, false, List, [], ◌∷◌, length, ◌≢◌, slice_index_or}
use Rattle.finder.specs.declared.StartMarker.{StartMarker}
use Rattle.finder.specs.Finding.{Opening}
use Rattle.syntax.specs.declared.settings.Settings.{Settings}
use Rattle.syntax.specs.Names.{opener, markers}
use Rattle.syntax.specs.Building.{Table, table_of, is_empty}

-- the delimiters of settings
abbrev pub setting_of : Settings → Table
setting_of s n = table_of s.delims n

-- the openings that the markers name, but for empty ones
unfoldable pub openings_by : Table → List StartMarker → List Opening
openings_by t [] = []
openings_by t (m ∷ ms) = elim (is_empty (t (opener m))) [
  | true ↦ openings_by t ms
  | false ↦ record { marker = m; bytes = t (opener m) } ∷ openings_by t ms
]

-- the openings of settings: variable, block, comment, line statement, line comment
abbrev pub openings_of : Settings → List Opening
openings_of s = openings_by (setting_of s) markers

-- the openings of settings: each has a byte, no two have the same bytes, and there are three to five
pub record Lawful (os : List Opening) : Type 0 where
  pub filled : (k : ℕ) (o : Opening) → k < length os → (slice_index_or os k o).bytes ≢ []
  pub apart : (j k : ℕ) (o : Opening) → j < k → k < length os → (slice_index_or os j o).bytes ≢ (slice_index_or os k o).bytes
  pub three : 3 ≤ length os
  pub five : length os ≤ 5
