use Rattle.std.proofs.Common.{◌≡◌, drop}
use Rattle.vera_lex.specs.Tokens.{fresh_after}
use Rattle.vera_lex.proofs.lexer.fresh_after.Given as goal

abbrev pub invariant-loop-byte : goal.invariant-loop-byte
invariant-loop-byte l = fresh_after l.fresh (drop l.byte-index l.bytes) ≡ fresh_after l.fn.before l.bytes
