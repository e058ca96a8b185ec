use Rattle.std.proofs.Common.{◌≡◌, ◌<◌, length, drop, None, ⊎_elim, ◌∙◌, arith, rules}
use Rattle.std.proofs.lemmas.Grind.{common_steps}
use Rattle.utf8.specs.Utf8.{char_at}
use Rattle.utf8.proofs.Places.{past_end, encoded_at}
use Rattle.utf8.proofs.char_at.Goals as goal

pub returns-in_err-get : goal.returns-in_err-get
returns-in_err-get c =
    let h : length c.args.s.now < c.args.«at» = ⊎_elim (λ t. t) (λ t. absurd (omega arith)) c.in_err-get.ensures.lookup.0 in
    let n : c.from_residual.result ≡ None = search rules in
    let e = n ∙ past_end c.args.s.now c.args.«at» h in
    record { value = e; encoded = encoded_at c.args.s.now c.args.«at» _ e }

pub returns-clause-encoded : goal.returns-clause-encoded
returns-clause-encoded c =
    let e : c.first_char.result ≡ char_at (drop c.args.«at» c.args.s.now) = grind (arith, common_steps) in
    encoded_at c.args.s.now c.args.«at» _ e
