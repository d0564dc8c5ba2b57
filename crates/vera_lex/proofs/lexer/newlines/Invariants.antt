use Rattle.std.proofs.Common.{◌≡◌, ◌+◌, ◌≤◌, drop}
use Rattle.vera_lex.specs.Tokens.{newlines}
use Rattle.vera_lex.proofs.lexer.newlines.Given as goal

abbrev pub invariant-loop-byte : goal.invariant-loop-byte
invariant-loop-byte l = record {
  counted : l.count + newlines (drop l.byte-index l.bytes) ≡ newlines l.bytes;
  within : l.count ≤ l.byte-index;
}
