use Rattle.std.proofs.Common.{length, get_or, Some, IfSome, refl, ap, ◌∙◌, arith}
use Rattle.std.proofs.lemmas.List.Elements.{AllWithin-none, AllWithin-more_set, AllWithin-upto, All-from_all_within}
use Rattle.rules.specs.Config.{config_of}
use Rattle.reader.specs.Views.{view_of, config}
use Rattle.runs.specs.Calls.{call_of, reply, behind_call}
use Rattle.runs.specs.Runs.{NumberedReply}
use Rattle.runs.proofs.Driven.{driven_none, driven_more, driven_all, driven_behind}
use Rattle.runs.proofs.ask_all.Goals as goal

pub loop-call-init : goal.loop-call-init
loop-call-init g c = (refl, driven_none g.F.Finder.openings (config c.args.reader.now) (view_of c.args.reader.now) c.args.calls.now, AllWithin-none (λ x. IfSome x.reply NumberedReply) c.args.calls.now 0)

pub loop-call-preserved : goal.loop-call-preserved
loop-call-preserved g c =
    let openings = g.F.Finder.openings in
    let w = view_of c.loop-call.reader in
    let e = c.loop-call.invariant.0 in
    let many = c.loop-call.invariant.1.many in
    let q = call_of openings (get_or c.loop-call.calls c.loop-call.call-index c.call-item.result).ask in (
      ap config_of c.answer.ensures.settings ∙ e,
      driven_more openings (config c.args.reader.now) (view_of c.args.reader.now) c.args.calls.now w (view_of c.answer.new.reader) c.loop-call.calls c.loop-call.call-index c.call-item.result c.answer.result
          c.loop-call.invariant.1
          c.loop-call-test.true
          (c.answer.ensures.value ∙ ap (λ s. reply s w q) e)
          (c.answer.ensures.view ∙ ap (λ s. behind_call s w q) e),
      AllWithin-more_set c.loop-call.calls c.loop-call.call-index (record { ask = (get_or c.loop-call.calls c.loop-call.call-index c.call-item.result).ask; reply = Some c.answer.result }) (omega (arith, many, c.loop-call-test.true)) (λ x. IfSome x.reply NumberedReply) c.loop-call.invariant.2 c.answer.ensures.numbered,
    )

pub returns-clause-replies : goal.returns-clause-replies
returns-clause-replies g c =
    let d = c.loop-call.invariant.1 in
    (d.asks, driven_all g.F.Finder.openings (config c.args.reader.now) (view_of c.args.reader.now) c.args.calls.now (view_of c.loop-call.reader) c.loop-call.calls c.loop-call.call-index c.loop-call-test.false d)

pub returns-clause-view : goal.returns-clause-view
returns-clause-view g c =
    driven_behind g.F.Finder.openings (config c.args.reader.now) (view_of c.args.reader.now) c.args.calls.now (view_of c.loop-call.reader) c.loop-call.calls c.loop-call.call-index c.loop-call-test.false
    c.loop-call.invariant.1

pub returns-clause-numbered : goal.returns-clause-numbered
returns-clause-numbered g c =
    All-from_all_within (λ x. IfSome x.reply NumberedReply) c.loop-call.calls (AllWithin-upto (λ x. IfSome x.reply NumberedReply) c.loop-call.calls 0 c.loop-call.call-index (length c.loop-call.calls) (omega (arith, c.loop-call.invariant.1.many, c.loop-call-test.false)) c.loop-call.invariant.2)
