use Rattle.std.proofs.Common.{reverse, take, ap, ◌∙◌}
use Rattle.finder.specs.Finding.{blank_line}
use Rattle.finders.proofs.Blanks.{seen_on}
use Rattle.finders.proofs.spot.Spot.is_line_start.Goals as goal

pub invariant_of-self-clause-known : goal.invariant_of-self-clause-known
invariant_of-self-clause-known c =
    let s = c.args.self.now in
    c.is_blank-self.ensures (take s.seen s.source.now) s.known
    ∙ ap (λ l. blank_line (reverse l)) (seen_on s.source.now c.until.result.now c.after.result.now s.seen s.at s.order c.until.ensures.value c.after.ensures.value)
