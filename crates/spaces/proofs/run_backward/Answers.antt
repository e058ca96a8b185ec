use Rattle.std.proofs.Common.{◌≡◌, None, take, subst, rules, sym, ◌∙◌}
use Rattle.spaces.proofs.Tails.{back_none, back_more, back_stop, back_end, tail_at}
use Rattle.spaces.specs.Runs.{kept, Ends}
use Rattle.spaces.proofs.run_backward.Goals as goal
use Rattle.spaces.proofs.run_backward.Goals.{in-None-1, in-Some+else-contains}

pub loop-c-init : goal.loop-c-init
loop-c-init g c = back_none (g.C.CharSet.has c.args.set.now) c.until-front.result.now

pub loop-c-preserved : goal.loop-c-preserved
loop-c-preserved g c = (back_more (g.C.CharSet.has c.args.set.now) c.until-front.result.now c.loop-c.start c.in-Some.c c.loop-c.invariant c.in-Some.ensures (sym c.contains.ensures ∙ c.if-contains.true)).1

pub returns : goal.returns
returns g c =
    let p = g.C.CharSet.has c.args.set.now in
    let front = c.until-front.result.now in
    let k : kept p front ≡ c.loop-c.start = elim c.match-char_before.branch [
      | in-None-1 w ↦ back_end p front c.loop-c.start c.loop-c.invariant (let n : c.char_before.result ≡ None = search rules in subst (Ends (take c.loop-c.start front)) n c.char_before.ensures)
      | in-Some+else-contains w ↦ back_stop p front c.loop-c.start w.in-Some.c c.loop-c.invariant w.in-Some.ensures (sym w.contains.ensures ∙ w.if-contains.false)
    ] in
    let t = tail_at p front _ c.loop-c.start c.until-front.ensures.value k in
    record { value = t.0; longest = t.1 }
