use Rattle.std.proofs.Common.{sym, subst}
use Rattle.finder.specs.Finding.{Finds}
use Rattle.resume.specs.contracts.seeker.SeekerFinder.TheImpl.{openings-value}
use Rattle.resume.proofs.seeker.SeekerFinder.find.Goals as goal

pub returns-in-Default-clause-finds : goal.returns-in-Default-clause-finds
returns-in-Default-clause-finds c =
    subst (λ f. Finds (openings-value.it f) c.args.source.now c.args.offset c.find.result) (sym c.in-Default.is) c.find.ensures.finds
