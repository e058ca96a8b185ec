use Rattle.std.proofs.Common.{◌≡◌, None, rules, sym, ◌∙◌}
use Rattle.spaces.proofs.Runs.{ran_more, ran_none, ran_stop, longest_at}
use Rattle.spaces.proofs.run_forward.Goals as goal

pub returns-else-contains : goal.returns-else-contains
returns-else-contains g c =
    let e = ran_stop (g.C.CharSet.has c.args.set.now) c.args.s.now c.loop-c.end c.in-Some.c c.loop-c.invariant (sym c.in-Some.ensures.value) (sym c.contains.ensures ∙ c.if-contains.false) in
    record { value = e; longest = longest_at (g.C.CharSet.has c.args.set.now) c.args.s.now c.loop-c.end e }

pub loop-c-preserved : goal.loop-c-preserved
loop-c-preserved g c = ran_more (g.C.CharSet.has c.args.set.now) c.args.s.now c.loop-c.end c.in-Some.c c.loop-c.invariant (sym c.in-Some.ensures.value) (sym c.contains.ensures ∙ c.if-contains.true)

pub returns-in-loop-c : goal.returns-in-loop-c
returns-in-loop-c g c =
    let n : c.char_at.result ≡ None = search rules in
    let e = ran_none (g.C.CharSet.has c.args.set.now) c.args.s.now c.loop-c.end c.loop-c.invariant (sym c.char_at.ensures.value ∙ n) in
    record { value = e; longest = longest_at (g.C.CharSet.has c.args.set.now) c.args.s.now c.loop-c.end e }
