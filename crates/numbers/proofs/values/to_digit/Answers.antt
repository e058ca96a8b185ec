use Rattle.std.proofs.Common.{◌<◌, subst, arith}
use Rattle.std.specs.Option.{SomeIff}
use Rattle.std.specs.Char.{digit_value}
use Rattle.std.proofs.lemmas.Grind.{common_steps}
use Rattle.std.proofs.lemmas.Bool.Decides.{nat_tests}
use Rattle.numbers.proofs.Digits.{hex_told}
use Rattle.numbers.proofs.values.to_digit.Goals as goal

pub returns : goal.returns
returns c =
    let e = hex_told c.to_digit.result c.args.c (subst (λ n. SomeIff c.to_digit.result (digit_value n < 16) (digit_value n)) c.from.ensures c.to_digit.ensures.value) in
    grind (arith, common_steps, e, nat_tests)
