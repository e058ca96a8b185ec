use Rattle.std.proofs.Common.{arith}
use Rattle.syntax.proofs.Texts.{text_utf8}
use Rattle.syntax.proofs.delimiter.Delimiter.as_bytes.Goals as goal

pub returns-clause-text : goal.returns-clause-text
returns-clause-text c = text_utf8 c.args.self.now.bytes c.args.self.now.len (omega arith) c.args.self.now.text
