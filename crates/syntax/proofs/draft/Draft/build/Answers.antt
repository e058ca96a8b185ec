use Rattle.std.proofs.Common.{[], Some, None, refl}
use Rattle.syntax.specs.Building.{first_equal, Fit}
use Rattle.syntax.specs.Drafts.{delim_of}
use Rattle.syntax.specs.Names.{opening_names}
use Rattle.syntax.proofs.Laws.{told_empty, told_equal, told_build}
use Rattle.syntax.proofs.Openings.{fit_lawful}
use Rattle.syntax.proofs.draft.Draft.build.Goals as goal

pub returns-in-Some-clause-told : goal.returns-in-Some-clause-told
returns-in-Some-clause-told c = let t = delim_of c.args.self.now in told_build t (Some c.in-Some.name) (first_equal t [] opening_names) c.in-Some.ensures refl

pub returns-in-Some-clause-found : goal.returns-in-Some-clause-found
returns-in-Some-clause-found c = told_empty (delim_of c.args.self.now) (Some c.in-Some.name) c.in-Some.ensures

pub returns-in-Some-first_equal-clause-told : goal.returns-in-Some-first_equal-clause-told
returns-in-Some-first_equal-clause-told c = told_build (delim_of c.args.self.now) None (Some c.in-Some-first_equal.name) c.in_default.ensures c.in-Some-first_equal.ensures

pub returns-in-Some-first_equal-clause-found : goal.returns-in-Some-first_equal-clause-found
returns-in-Some-first_equal-clause-found c =
    let t = delim_of c.args.self.now in
    (told_empty t None c.in_default.ensures, told_equal t (Some c.in-Some-first_equal.name) c.in-Some-first_equal.ensures)

pub returns : goal.returns
returns c =
    let t = delim_of c.args.self.now in
    let fit : Fit t = (told_empty t None c.in_default.ensures, told_equal t None c.in_default-first_equal.ensures) in
    record {
      told = told_build t None None c.in_default.ensures c.in_default-first_equal.ensures;
      found = fit;
      table = λ n. refl;
      flags = refl;
      openings = fit_lawful t fit;
    }
