use Rattle.std.proofs.Common.{◌≡◌, ◌∙◌, None, inl, inr, arith, rules}
use Rattle.std.proofs.lemmas.Bool.Decides.{not_from_Decides}
use Rattle.utf8.proofs.Places.{no_lead, no_second, no_third, no_fourth, short_1, short_2, short_3, short_4, one_byte, two_bytes, three_bytes, four_bytes}
use Rattle.utf8.proofs.first_char.Goals as goal

pub returns-in_err-a : goal.returns-in_err-a
returns-in_err-a c = let n : c.from_residual.result ≡ None = search rules in n ∙ short_1 c.args.s.now (omega (arith, c.in_err-a.ensures.cases))

pub returns-in-0-to-127-default : goal.returns-in-0-to-127-default
returns-in-0-to-127-default c = one_byte c.args.s.now c.in_ok-a.a.now c.in_ok-a.later.now c.in_ok-a.ensures.cases.0 _ c.from.ensures (omega arith)

pub returns-in-194-to-223-len1-up : goal.returns-in-194-to-223-len1-up
returns-in-194-to-223-len1-up c = two_bytes c.args.s.now c.in_ok-a.a.now c.in_ok-a.later.now c.in_ok-a.ensures.cases.0 (omega arith) (omega arith) (omega arith) (c.second.ensures.0 c.if-second.true) _ _ c.character.ensures (omega arith)

pub returns-in-224-to-239-len2-up : goal.returns-in-224-to-239-len2-up
returns-in-224-to-239-len2-up c = three_bytes c.args.s.now c.in_ok-a.a.now c.in_ok-a.later.now c.in_ok-a.ensures.cases.0 (omega arith) (omega arith) (omega arith) (c.second-then-this-lt240.ensures.0 c.if-second-2.true) (c.is_continuation.ensures.0 c.if-is_continuation.true) _ _ c.character-in-224-to-239-len2-up.ensures (omega arith)

pub returns-in-240-to-244-len3-up : goal.returns-in-240-to-244-len3-up
returns-in-240-to-244-len3-up c = four_bytes c.args.s.now c.in_ok-a.a.now c.in_ok-a.later.now c.in_ok-a.ensures.cases.0 (omega arith) (omega arith) (omega arith) (c.second-then-this-lt245.ensures.0 c.if-second-3.true) (c.is_continuation-then-second-3.ensures.0 c.if-is_continuation-2.true) (c.is_continuation-then-is_continuation-2.ensures.0 c.if-is_continuation-3.true) _ _ c.character-in-240-to-244-len3-up.ensures (omega arith)

pub returns-in_default : goal.returns-in_default
returns-in_default c = no_lead c.args.s.now c.in_ok-a.a.now c.in_ok-a.later.now c.in_ok-a.ensures.cases.0 (omega arith) (inl (omega arith))

pub returns-in_default-2 : goal.returns-in_default-2
returns-in_default-2 c = short_2 c.args.s.now c.in_ok-a.a.now c.in_ok-a.later.now c.in_ok-a.ensures.cases.0 (omega arith) (omega arith)

pub returns-in_default-3 : goal.returns-in_default-3
returns-in_default-3 c = no_second c.args.s.now c.in_ok-a.a.now c.in_ok-a.later.now c.in_ok-a.ensures.cases.0 (omega arith) (not_from_Decides _ c.second.ensures c.if-second.false)

pub returns-in_default-4 : goal.returns-in_default-4
returns-in_default-4 c = short_3 c.args.s.now c.in_ok-a.a.now c.in_ok-a.later.now c.in_ok-a.ensures.cases.0 (omega arith) (omega arith)

pub returns-in_default-5 : goal.returns-in_default-5
returns-in_default-5 c = no_third c.args.s.now c.in_ok-a.a.now c.in_ok-a.later.now c.in_ok-a.ensures.cases.0 (omega arith) (not_from_Decides _ c.is_continuation.ensures c.if-is_continuation.false)

pub returns-in_default-6 : goal.returns-in_default-6
returns-in_default-6 c = no_second c.args.s.now c.in_ok-a.a.now c.in_ok-a.later.now c.in_ok-a.ensures.cases.0 (omega arith) (not_from_Decides _ c.second-then-this-lt240.ensures c.if-second-2.false)

pub returns-in_default-7 : goal.returns-in_default-7
returns-in_default-7 c = short_4 c.args.s.now c.in_ok-a.a.now c.in_ok-a.later.now c.in_ok-a.ensures.cases.0 (omega arith) (omega arith)

pub returns-in_default-8 : goal.returns-in_default-8
returns-in_default-8 c = no_fourth c.args.s.now c.in_ok-a.a.now c.in_ok-a.later.now c.in_ok-a.ensures.cases.0 (omega arith) (not_from_Decides _ c.is_continuation-then-is_continuation-2.ensures c.if-is_continuation-3.false)

pub returns-in_default-9 : goal.returns-in_default-9
returns-in_default-9 c = no_third c.args.s.now c.in_ok-a.a.now c.in_ok-a.later.now c.in_ok-a.ensures.cases.0 (omega arith) (not_from_Decides _ c.is_continuation-then-second-3.ensures c.if-is_continuation-2.false)

pub returns-in_default-10 : goal.returns-in_default-10
returns-in_default-10 c = no_second c.args.s.now c.in_ok-a.a.now c.in_ok-a.later.now c.in_ok-a.ensures.cases.0 (omega arith) (not_from_Decides _ c.second-then-this-lt245.ensures c.if-second-3.false)

pub returns-in_default-11 : goal.returns-in_default-11
returns-in_default-11 c = no_lead c.args.s.now c.in_ok-a.a.now c.in_ok-a.later.now c.in_ok-a.ensures.cases.0 (omega arith) (inr (omega arith))
