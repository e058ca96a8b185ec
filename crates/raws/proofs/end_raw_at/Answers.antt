use Rattle.std.proofs.Common.{arith}
use Rattle.rules.specs.Config.{config_of}
use Rattle.raws.proofs.Tags.{closer_on}
use Rattle.raws.proofs.Spells.{closer_spelt_by}
use Rattle.raws.proofs.end_raw_at.Goals as goal

pub returns-clause-value : goal.returns-clause-value
returns-clause-value c = grind (arith, closer_on)

pub returns-clause-spelt : goal.returns-clause-spelt
returns-clause-spelt c = closer_spelt_by (config_of c.args.settings.now) c.args.rest.now _ (returns-clause-value c)
