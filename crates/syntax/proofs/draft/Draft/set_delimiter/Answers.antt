use Rattle.std.proofs.Common.{arith}
use Rattle.syntax.proofs.Tables.{table_written}
use Rattle.syntax.proofs.draft.Draft.set_delimiter.Goals as goal

pub returns-clause-table : goal.returns-clause-table
returns-clause-table c = λ n. table_written c.args.self.now.delims c.args.which n c.index.result _ _ c.index.ensures.value (omega arith) c.rewrite.ensures
