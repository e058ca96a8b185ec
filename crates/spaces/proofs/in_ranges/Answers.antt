use Rattle.std.proofs.Common.{◌≡◌, ◌∙◌, rules, tests}
use Rattle.std.proofs.lemmas.Iterator.{YieldsList-from_slice}
use Rattle.std.proofs.lemmas.Iterator.Search.{any_from_yields_List}
use Rattle.spaces.specs.Spaces.{holds, in_ranges}
use Rattle.spaces.proofs.Sets.{any_holds, in_decides}
use Rattle.spaces.proofs.in_ranges.Goals as goal

pub returns : goal.returns
returns c =
    let rs = c.args.ranges.now in
    let e : c.any.result ≡ in_ranges rs c.args.c =
    any_from_yields_List (λ r. holds r c.args.c) _ _ c.any.result c.any.ensures.ran (YieldsList-from_slice rs cc) (λ x b q k. search (rules, tests)) ∙ any_holds rs c.args.c in
    record { value = e; held = in_decides rs c.args.c _ e }
