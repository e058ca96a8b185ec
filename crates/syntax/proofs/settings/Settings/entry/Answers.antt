use Rattle.std.proofs.Common.{◌<◌, length, sym, subst}
use Rattle.syntax.specs.Openings.{setting_of}
use Rattle.syntax.proofs.Laws.{passes_fit, fit_filled}
use Rattle.syntax.proofs.settings.Settings.entry.Goals as goal

pub returns-clause-filled : goal.returns-clause-filled
returns-clause-filled c =
    let s = c.args.self.now in
    λ e. subst (λ l. 0 < length l) (sym c.entry.ensures) (fit_filled (setting_of s) (passes_fit (setting_of s) s.tested) c.args.which e)
