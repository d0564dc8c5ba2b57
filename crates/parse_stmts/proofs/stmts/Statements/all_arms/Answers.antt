use Rattle.std.proofs.Common.{rules}
use Rattle.parse_exprs.specs.ExpressionReading.{expr}
use Rattle.parse_stmts.specs.StatementReading.{stmt, arm, all_arms}
use Rattle.parse_stmts.proofs.stmts.Statements.all_arms.Goals as goal

pub returns : goal.returns
unfolding all_arms
returns g c = c.many.ensures (arm (expr c.args.self.now.depth) (stmt c.args.self.now.depth)) (record { callable = λ old. search rules; reads = λ old new r post. search rules })
