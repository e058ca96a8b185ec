use Rattle.std.proofs.Common.{◌≡◌, get_or, ap, ◌∙◌, rules}
use Rattle.syntax.specs.declared.delimiter.Delimiter.{Delimiter}
use Rattle.syntax.specs.declared.name.DelimiterName.{DelimiterName}
use Rattle.syntax.specs.Delims.{bytes_of}
use Rattle.syntax.specs.Names.{index_of}
use Rattle.syntax.specs.Building.{table_of}
use Rattle.syntax.specs.Drafts.{defaults}
use Rattle.syntax.proofs.Defaults.{all_names, name_here, index_below, defaults_table, defaults_told}
use Rattle.syntax.proofs.draft.Draft.new.Goals as goal

-- the map gives the default delimiter of each name at its place
each : (c : goal.After-default) (n : DelimiterName) (d : Delimiter) → bytes_of (get_or c.map.result (index_of n) d) ≡ defaults n
each c n d =
    let told = (c.map.ensures.items.at (index_of n) n d (index_below n)).2 in
    let e : bytes_of (get_or c.map.result (index_of n) d) ≡ defaults (get_or all_names (index_of n) n) = search (rules, told) in
    e ∙ ap defaults (name_here n)

table : (c : goal.After-default) (n : DelimiterName) → table_of c.map.result n ≡ defaults n
table c = defaults_table c.map.result c.map.ensures.items.long (each c)

pub returns-clause-table : goal.returns-clause-table
returns-clause-table c = table c

pub returns-clause-builds : goal.returns-clause-builds
returns-clause-builds c = defaults_told (table_of c.map.result) (table c)
