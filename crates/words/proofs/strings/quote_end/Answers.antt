use Rattle.std.proofs.Common.{sym, ◌∙◌, subst, ⊎_elim}
use Rattle.std.proofs.lemmas.Bool.{true≢false}
use Rattle.words.proofs.Quoting.{Open, open_none, open_by, open_here, open_all, first_none}
use Rattle.words.proofs.strings.quote_end.Goals as goal
use Rattle.words.proofs.strings.quote_end.Goals.{then-not-escaped-2, else-not-escaped-2}

pub loop-i-init : goal.loop-i-init
loop-i-init c = open_none c.args.quote c.args.rest.now

pub loop-i-preserved : goal.loop-i-preserved
loop-i-preserved c =
    let step = open_by c.args.quote c.args.rest.now c.loop-i.i c.loop-i-test.true c.loop-i.escaped c.if-not-escaped-2.escaped
    (⊎_elim (λ p h. p.1) (λ n h. absurd (n h)) c.else-b-quote.either) in
    elim c.if-not-escaped-2.branch [
      | then-not-escaped-2 w ↦ step (λ e. w.escaped-is) (λ e. absurd (true≢false (sym e ∙ w.if-not-escaped-2.true))) c.loop-i.invariant
      | else-not-escaped-2 w ↦ step (λ e. absurd (true≢false (sym w.if-not-escaped-2.false ∙ e))) (λ e. w.escaped-is) c.loop-i.invariant
    ]

pub returns-then-not-escaped-clause-value : goal.returns-then-not-escaped-clause-value
returns-then-not-escaped-clause-value c =
    let q = c.args.quote in
    let xs = c.args.rest.now in
    let i = c.loop-i.i in
    let o = subst (λ v. Open q xs v i) c.if-not-escaped.true c.loop-i.invariant in
    open_here q xs i c.loop-i-test.true c.if-b-quote.true o

pub returns : goal.returns
returns c =
    let q = c.args.quote in
    let xs = c.args.rest.now in
    let i = c.loop-i.i in
    let h = c.loop-i-test.false in
    record { value = open_all q xs c.loop-i.escaped i h c.loop-i.invariant; first = first_none q xs c.loop-i.escaped i h c.loop-i.invariant }
