use Rattle.std.proofs.Common.{◌+◌, ◌^◌, ◌<◌, Some, sym, ◌∙◌, subst}
use Rattle.numbers.proofs.Digits.{Walked, walked_underscore, walked_bad, walked_over, walked_more, walked_all, written_at}
use Rattle.numbers.proofs.values.from_str_radix.Goals as goal
use Rattle.numbers.proofs.values.from_str_radix.Goals.{then-c-ne95+in_ok-to_digit+in_ok-value, else-c-ne95}

pub returns-in_err-to_digit : goal.returns-in_err-to_digit
returns-in_err-to_digit c =
    let e = c.from_residual.ensures ∙ walked_bad c.args.radix c.args.digits.now c.loop-c.c-index c.loop-c.value c.loop-c-test.true c.loop-c.invariant.2 c.if-c-ne95.true c.in_err-to_digit.ensures in
    record { value = e; written = written_at c.args.radix c.args.digits.now c.from_residual.result e }

pub returns-in_err-value : goal.returns-in_err-value
returns-in_err-value c =
    let e =
    c.from_residual-in_err-value.ensures
    ∙ walked_over c.args.radix c.args.digits.now c.loop-c.c-index c.loop-c.value c.loop-c-test.true c.loop-c.invariant.2 c.in_ok-to_digit.field-0 c.if-c-ne95.true
    c.in_ok-to_digit.ensures c.in_err-value.ensures in
    record { value = e; written = written_at c.args.radix c.args.digits.now c.from_residual-in_err-value.result e }

pub loop-c-preserved : goal.loop-c-preserved
loop-c-preserved c =
    let h = c.loop-c-test.true in
    let i = c.loop-c.invariant in
    elim c.if-c-ne95.branch [
      | then-c-ne95+in_ok-to_digit+in_ok-value w ↦ (
        i.0,
        subst (λ n. n < 2 ^ 128) (sym (w.value-is ∙ w.in_ok-value.ensures.1)) w.in_ok-value.ensures.0,
        walked_more c.args.radix c.args.digits.now c.loop-c.c-index c.loop-c.value h i.2 w.in_ok-to_digit.field-0 c.if-c-ne95.value
            w.if-c-ne95.true w.in_ok-to_digit.ensures (w.value-is ∙ w.in_ok-value.ensures.1),
      )
      | else-c-ne95 w ↦ (
        i.0,
        subst (λ n. n < 2 ^ 128) (sym w.value-is) i.1,
        subst (Walked c.args.radix c.args.digits.now (c.loop-c.c-index + 1)) (sym w.value-is)
            (walked_underscore c.args.radix c.args.digits.now c.loop-c.c-index c.loop-c.value h i.2 w.if-c-ne95.false),
      )
    ]

pub returns : goal.returns
returns c =
    let e = walked_all c.args.radix c.args.digits.now c.loop-c.c-index c.loop-c.value c.loop-c.invariant.0 c.loop-c-test.false c.loop-c.invariant.1 c.loop-c.invariant.2 in
    record { value = e; written = written_at c.args.radix c.args.digits.now (Some c.loop-c.value) e }
