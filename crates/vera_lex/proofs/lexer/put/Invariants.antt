use Rattle.std.proofs.Common.{◌≡◌, ◌++◌, map}
use Rattle.vera_lex.specs.Tokens.{on_line}
use Rattle.vera_lex.proofs.lexer.put.Given as goal

abbrev pub invariant-loop-kind : goal.invariant-loop-kind
invariant-loop-kind l = l.tokens.items ≡ l.fn.tokens.items ++ map (on_line l.line) l.yielded
