use Rattle.std.proofs.Common.{◌≡◌, length, ap, ◌∙◌, arith, rules}
use Rattle.rules.specs.Numbers.{scan}
use Rattle.numbers.proofs.Scans.{read_none, read_more, read_stop, read_all, longest_at}
use Rattle.numbers.proofs.parts.Scanner.scan.Goals as goal

pub loop-len-init : goal.loop-len-init
loop-len-init c = search (rules, read_none)

pub returns-in_default : goal.returns-in_default
returns-in_default c =
    let s = c.args.self in
    let e : (c.loop-len.len, c.loop-len.state) ≡ scan s.radix s.after_dot s.start c.args.rest.now = search (rules, read_stop) in
    record { value = e; longest = longest_at s.radix s.after_dot s.start c.args.rest.now (c.loop-len.len, c.loop-len.state) e }

pub loop-len-preserved : goal.loop-len-preserved
loop-len-preserved c = search (rules, read_more)

pub returns : goal.returns
returns c =
    let s = c.args.self in
    let z : length c.args.rest.now ≡ c.loop-len.len = omega arith in
    let e = ap (λ n. (n, c.loop-len.state)) z ∙ read_all s.radix s.after_dot s.start c.args.rest.now c.loop-len.state c.loop-len.len c.loop-len-test.false c.loop-len.invariant in
    record { value = e; longest = longest_at s.radix s.after_dot s.start c.args.rest.now (length c.args.rest.now, c.loop-len.state) e }
