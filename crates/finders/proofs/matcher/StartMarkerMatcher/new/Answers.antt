use Rattle.std.proofs.Common.{sym, ap, ◌∙◌, subst}
use Rattle.std.specs.List.{ContainsAt as Has}
use Rattle.finder.specs.Finding.{found_from}
use Rattle.syntax.specs.Openings.{setting_of, openings_of}
use Rattle.finders.proofs.Entries.{default_table}
use Rattle.finders.proofs.Same.{ordered_same}
use Rattle.finders.proofs.Sorted.{ordered_has, has_ordered}
use Rattle.finders.proofs.matcher.StartMarkerMatcher.new.Goals as goal

pub returns-clause-holds : goal.returns-clause-holds
returns-clause-holds c = λ o h. subst (λ l. Has l o) (sym c.of.ensures) (ordered_has (openings_of c.args.settings.now) o h)

pub returns-clause-only : goal.returns-clause-only
returns-clause-only c = λ o h. has_ordered (openings_of c.args.settings.now) o (subst (λ l. Has l o) c.of.ensures h)

pub returns-clause-same : goal.returns-clause-same
returns-clause-same c = λ xs i. ap (λ l. found_from l xs i) c.of.ensures ∙ ordered_same (openings_of c.args.settings.now) xs i

pub returns-clause-defaults : goal.returns-clause-defaults
returns-clause-defaults c = λ f. c.of.ensures ∙ default_table (setting_of c.args.settings.now) f

pub returns-clause-agrees : goal.returns-clause-agrees
returns-clause-agrees c = λ f xs i. ap (λ l. found_from l xs i) (c.of.ensures ∙ default_table (setting_of c.args.settings.now) f)
