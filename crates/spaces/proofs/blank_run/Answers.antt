use Rattle.std.proofs.Common.{◌≡◌, true, false, sym, ◌∙◌, rules, tests}
use Rattle.std.proofs.lemmas.Iterator.{IsFirst-from_position, YieldsList-from_slice}
use Rattle.spaces.specs.Lines.{is_blank}
use Rattle.spaces.proofs.Lines.{blank_end}
use Rattle.spaces.proofs.blank_run.Goals as goal

pub returns-clause-value : goal.returns-clause-value
returns-clause-value c =
    c.unwrap_or.ensures ∙ sym (blank_end c.args.s.now _ (IsFirst-from_position _ _ _ (λ b. is_blank b ≡ false) (λ b. is_blank b ≡ true) c.position.ensures.ran (YieldsList-from_slice c.args.s.now cc) (λ x q k. search (rules, tests)) (λ x q k. search (rules, tests))))
