use Rattle.strips.proofs.Whites.{told_none, told_last}
use Rattle.strips.proofs.line_is_white.Goals as goal

pub returns-in-empty : goal.returns-in-empty
returns-in-empty c =
    let t = told_none c.args.source.now _ _ c.args.at _ c.until-front.ensures.value c.trim_end_inline.ensures.value c.trim_end_inline.ensures.within c.until.ensures.value c.in-empty.len_below in
    record { value = t.0; line = t.1 }

pub returns-in-len1-up : goal.returns-in-len1-up
returns-in-len1-up c =
    let t = told_last c.args.source.now _ _ c.args.at _ c.until-front.ensures.value c.trim_end_inline.ensures.value c.trim_end_inline.ensures.within c.until.ensures.value _ c.in-len1-up.len_at_least c.is_line_end.ensures in
    record { value = t.0; line = t.1 }
