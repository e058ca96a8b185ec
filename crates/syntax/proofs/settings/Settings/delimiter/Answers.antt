use Rattle.syntax.specs.Openings.{setting_of}
use Rattle.syntax.proofs.Laws.{passes_fit}
use Rattle.syntax.proofs.Openings.{passes_lawful}
use Rattle.syntax.proofs.settings.Settings.delimiter.Goals as goal

pub returns-clause-sound : goal.returns-clause-sound
returns-clause-sound c = let s = c.args.self.now in passes_fit (setting_of s) s.tested

pub returns-clause-openings : goal.returns-clause-openings
returns-clause-openings c = let s = c.args.self.now in passes_lawful (setting_of s) s.tested
