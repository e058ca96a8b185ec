use Rattle.std.proofs.Common.{refl, ◌∙◌, arith}
use Rattle.rules.specs.Config.{config_of}
use Rattle.reader.proofs.Chops.{left_words}
use Rattle.reader.proofs.Moves.{balance_flat}
use Rattle.reader.proofs.Starts.{start_here, start_view}
use Rattle.reader.proofs.reading.Reading.start.Goals as goal

pub invariant_of-result : goal.invariant_of-result
invariant_of-result c =
    record { small = c.requires.small; within = c.left_len.ensures.within; inside = omega arith; lively = omega arith; shallow = omega arith; balanced = omega arith; agrees = balance_flat c.args.state c.requires.flat; here = c.start.ensures.value ∙ start_here c.args.template.now; wellformed = c.requires.wellformed; numbered = tt }

pub returns : goal.returns
returns c =
    record { template = refl; view = start_view (config_of c.args.settings.now) c.args.state c.args.template.now c.left_len.result c.left_len.ensures.value; leaves = left_words (config_of c.args.settings.now) c.args.template.now c.left_len.result c.left_len.ensures.value }
