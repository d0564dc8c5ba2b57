use Rattle.std.proofs.Common.{rules}
use Rattle.parse_stmts.specs.StatementReading.{stmt}
use Rattle.parse_stmts.proofs.stmts.Statements.all_stmts.Goals as goal

pub returns : goal.returns
returns g c = c.many.ensures (stmt c.args.self.now.depth) (record { callable = λ old. search rules; reads = λ old new r post. search rules })
