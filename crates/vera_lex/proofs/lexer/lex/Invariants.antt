use Rattle.std.proofs.Common.{length}
use Rattle.vera_lex.proofs.Whole.{SoFar}
use Rattle.vera_lex.proofs.lexer.lex.Given as goal

abbrev pub invariant-pieces : goal.invariant-pieces
invariant-pieces l = SoFar l.bytes l.lexer l.rest

abbrev pub decreases-pieces : goal.decreases-pieces
decreases-pieces l = length l.rest
