use Rattle.escape.specs.Meaning.{coming}
use Rattle.escape.proofs.Steps.{octal_three}
use Rattle.escape.proofs.source.Source.octal_escape.Goals as goal

pub returns-clause-value : goal.returns-clause-value
returns-clause-value c =
    octal_three c.args.first (coming c.args.self.now) (coming c.take.new.self) (coming c.more_octal.new.self) (coming c.more_octal-2.new.self) c.take.ensures.rest
    c.from_u32.result c.in_ok-second.second c.in_ok-third.third c.in_ok-second.ensures.value c.in_ok-third.ensures.value c.from_u32.ensures.value
