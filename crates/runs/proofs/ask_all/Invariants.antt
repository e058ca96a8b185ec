use Rattle.std.proofs.Common.{◌≡◌, IfSome}
use Rattle.std.specs.List.{AllWithin}
use Rattle.reader.specs.Views.{view_of, config}
use Rattle.runs.specs.Runs.{NumberedReply}
use Rattle.runs.proofs.Driven.{Driven}
use Rattle.runs.proofs.ask_all.Given as goal

abbrev pub invariant-loop-call : goal.invariant-loop-call
invariant-loop-call g l =
    (config l.reader ≡ config l.fn.reader)
    × Driven g.F.Finder.openings (config l.fn.reader) (view_of l.fn.reader) l.fn.calls (view_of l.reader) l.calls l.call-index
    × AllWithin (λ c. IfSome c.reply NumberedReply) l.calls 0 l.call-index
