use Rattle.std.proofs.Common.{◌∙◌}
use Rattle.numbers.proofs.Lasts.{ends_is, last_decides}
use Rattle.numbers.proofs.ends_in_underscore.Goals as goal

pub returns : goal.returns
returns c =
    let e = c.ends_with.ensures.value ∙ ends_is 95 c.args.digits.now in
    record { value = e; last = last_decides 95 c.args.digits.now c.ends_with.result e }
