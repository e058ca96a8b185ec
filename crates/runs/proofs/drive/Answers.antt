use Rattle.std.proofs.Common.{rules}
use Rattle.runs.proofs.Closing.{closed_by}
use Rattle.runs.proofs.Promises.{promised_by}
use Rattle.runs.proofs.Words.{lines_suffice}
use Rattle.runs.proofs.drive.Goals as goal

pub returns-in_err-reader-clause-lines : goal.returns-in_err-reader-clause-lines
returns-in_err-reader-clause-lines g c = lines_suffice c.args.template.now

pub returns-clause-lines : goal.returns-clause-lines
returns-clause-lines g c = lines_suffice c.args.template.now

pub returns-clause-closed : goal.returns-clause-closed
returns-clause-closed g c =
    closed_by g.F.Finder.openings c.args.settings.now c.args.mode c.args.template.now c.args.calls.now c.ask_all.new.calls c.in_ok-reader.reader c.ask_all.new.reader c.close.result
    (search rules)
    c.ask_all.ensures.replies
    c.ask_all.ensures.view
    (c.close.ensures.end, c.close.ensures.ending, c.close.ensures.balance)

pub returns-clause-promised : goal.returns-clause-promised
returns-clause-promised g c =
    promised_by g.F.Finder.openings c.args.settings.now c.args.mode c.args.template.now c.args.calls.now c.ask_all.new.calls c.in_ok-reader.reader c.close.result
    (search rules)
    (search rules)
    c.ask_all.ensures.replies
