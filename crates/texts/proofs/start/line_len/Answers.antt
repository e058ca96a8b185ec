use Rattle.std.proofs.Common.{sym, subst}
use Rattle.rules.specs.Bytes.{in_line, LongestRun}
use Rattle.rules.proofs.Runs.{run_by}
use Rattle.texts.proofs.Runs.{line_told}
use Rattle.texts.proofs.start.line_len.Goals as goal

pub returns : goal.returns
returns c =
    let xs = c.args.rest.now in
    let l = subst (LongestRun in_line xs) (sym c.unwrap_or.ensures) (line_told xs _ c.memchr_any.ensures.first) in
    record { value = run_by in_line xs _ l; longest = l }
