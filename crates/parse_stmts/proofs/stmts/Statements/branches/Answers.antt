use Rattle.std.proofs.Common.{rules}
use Rattle.parse_cursor.specs.ListReading.{some}
use Rattle.parse_stmts.specs.StatementReading.{stmt, branches}
use Rattle.parse_stmts.proofs.stmts.Statements.branches.Goals as goal

pub returns : goal.returns
unfolding branches some
returns g c = c.some_items.ensures (stmt c.args.self.now.depth) (record { callable = λ old. search rules; reads = λ old new r post. search rules })
