use Rattle.escape.specs.Meaning.{coming}
use Rattle.std.proofs.Common.{rules}
use Rattle.escape.proofs.Steps.{quad, quad_none, quad_half}
use Rattle.escape.proofs.source.Source.four_digits.Goals as goal

pub returns-in_err-high-clause-value : goal.returns-in_err-high-clause-value
returns-in_err-high-clause-value c = search (rules, quad_none)

pub returns-in_err-low-clause-value : goal.returns-in_err-low-clause-value
returns-in_err-low-clause-value c =
    let h = c.in_ok-high.ensures.value in
    let l = c.in_err-low.ensures.value in
    rw c.from_residual-in_err-low.ensures (quad_half c.in_ok-high.high (coming c.args.self.now) (coming c.two_digits.new.self) (coming c.two_digits-2.new.self) h l)

pub returns-clause-value : goal.returns-clause-value
returns-clause-value c =
    let h = c.in_ok-high.ensures.value in
    let l = c.in_ok-low.ensures.value in
    quad _ _ _ _ _ h l
