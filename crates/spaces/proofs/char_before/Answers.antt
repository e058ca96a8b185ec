use Rattle.std.proofs.Common.{◌≡◌, None, sym, subst, rules}
use Rattle.spaces.specs.Runs.{Ends}
use Rattle.spaces.proofs.Before.{ends_none, ends_lead}
use Rattle.spaces.proofs.char_before.Goals as goal

pub returns-in_err-lead : goal.returns-in_err-lead
returns-in_err-lead c =
    let n : c.from_residual.result ≡ None = search rules in
    let e = ends_none c.until-front.result.now _ _ c.saturating_sub-skipped.ensures c.after.ensures.value _ c.last_lead.ensures c.in_err-lead.was in
    subst (λ l. Ends l c.from_residual.result) c.until-front.ensures.value (subst (Ends c.until-front.result.now) (sym n) e)

pub returns : goal.returns
returns c =
    subst (λ l. Ends l c.reaching.result) c.until-front.ensures.value
    (ends_lead c.until-front.result.now _ _ c.saturating_sub-skipped.ensures c.after.ensures.value _ c.last_lead.ensures c.in_ok-lead.lead _ c.in_ok-lead.was c.reaching.ensures)
