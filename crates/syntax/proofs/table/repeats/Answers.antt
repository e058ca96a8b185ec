use Rattle.std.proofs.Common.{◌∙◌, rules, tests}
use Rattle.std.specs.Str.{bytes_eq}
use Rattle.std.proofs.lemmas.Iterator.{YieldsList-from_slice}
use Rattle.std.proofs.lemmas.Iterator.Search.{any_from_yields_List}
use Rattle.std.proofs.lemmas.Slice.Eq.{bytes_eq-Decides}
use Rattle.syntax.specs.Building.{table_of}
use Rattle.syntax.proofs.Walks.{repeats_by}
use Rattle.syntax.proofs.table.repeats.Goals as goal

pub returns-then-not-is_empty : goal.returns-then-not-is_empty
returns-then-not-is_empty c =
    let t = table_of c.args.delims.now in
    let bs = c.as_bytes-bytes.result.now in
    repeats_by t c.args.earlier.now c.args.name bs c.any.result (c.as_bytes-bytes.ensures.value ∙ c.entry.ensures) (search rules)
    (any_from_yields_List (λ m. bytes_eq (t m) bs) _ _ _ c.any.ensures.ran (YieldsList-from_slice c.args.earlier.now cc) (λ x b q k. search (rules, tests, bytes_eq-Decides)))
