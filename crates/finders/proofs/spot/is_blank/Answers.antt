use Rattle.std.proofs.Common.{reverse, Some, None, sym, ap, ◌∙◌, rules, tests}
use Rattle.std.proofs.lemmas.Iterator.Adapters.{YieldsList-from_rev_slice}
use Rattle.std.proofs.lemmas.Iterator.Search.{find_from_yields_List}
use Rattle.std.proofs.lemmas.List.{reverse-append}
use Rattle.finder.specs.Finding.{blank_line}
use Rattle.finders.proofs.Blanks.{other, blank_found, blank_passed}
use Rattle.finders.proofs.spot.is_blank.Goals as goal

pub returns-in-Some : goal.returns-in-Some
returns-in-Some c =
    let xs = c.args.bytes.now in
    let f = find_from_yields_List other c.find.new.self _ (Some c.in-Some.b) c.in-Some.ensures.ran (YieldsList-from_rev_slice xs cc) (λ x b q k. search (rules, tests)) in
    λ before e. c.is_line_end.ensures ∙ sym (ap blank_line (reverse-append before xs) ∙ blank_found (reverse xs) (reverse before) c.in-Some.b.now (sym f))

pub returns-in-None : goal.returns-in-None
returns-in-None c =
    let xs = c.args.bytes.now in
    let f = find_from_yields_List other c.find.new.self _ None c.in-None.ensures.ran (YieldsList-from_rev_slice xs cc) (λ x b q k. search (rules, tests)) in
    λ before e. e ∙ sym (ap blank_line (reverse-append before xs) ∙ blank_passed (reverse xs) (reverse before) (sym f))
