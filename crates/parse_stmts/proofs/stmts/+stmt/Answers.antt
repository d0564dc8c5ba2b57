use Rattle.std.proofs.Common.{arith}
use Rattle.parse_stmts.proofs.StatementDepths.{stmt_end, stmt_next}
use Rattle.parse_stmts.proofs.stmts.+stmt.Goals as goal

pub returns-then-depth-eq0 : goal.returns-then-depth-eq0
returns-then-depth-eq0 t c _ = stmt_end c.args.depth c.args.tokens.now.rest.now c.fault.result (omega arith) c.fault.ensures

pub returns : goal.returns
returns t c = rw (stmt_next c.args.depth c.args.tokens.now.rest.now (omega arith)) c.body.ensures
