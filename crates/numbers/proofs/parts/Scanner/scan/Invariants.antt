use Rattle.numbers.proofs.Scans.{Read}
use Rattle.numbers.proofs.parts.Scanner.scan.Given as goal

abbrev pub invariant-loop-len : goal.invariant-loop-len
invariant-loop-len l = Read l.self.radix l.self.after_dot l.self.start l.rest l.state l.len
