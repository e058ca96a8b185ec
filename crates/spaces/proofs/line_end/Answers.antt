use Rattle.std.proofs.Common.{◌≡◌, rules}
use Rattle.spaces.specs.Lines.{line_end}
use Rattle.spaces.proofs.Lines.{line_told}
use Rattle.spaces.proofs.line_end.Goals as goal

pub returns-in-13-2 : goal.returns-in-13-2
returns-in-13-2 c = let e : 1 ≡ line_end c.args.s.now = search rules in record { value = e; told = line_told c.args.s.now 1 e }

pub returns-in_default : goal.returns-in_default
returns-in_default c = let e : 0 ≡ line_end c.args.s.now = search rules in record { value = e; told = line_told c.args.s.now 0 e }
