use Rattle.std.proofs.Common.{◌≡◌, ◌++◌, drop, false}
use Rattle.vera_lex.specs.Tokens.{string_bytes}
use Rattle.vera_lex.proofs.strings.string_text.Given as goal

abbrev pub invariant-loop-byte : goal.invariant-loop-byte
invariant-loop-byte l = l.bytes.items ++ string_bytes l.escape (drop l.byte-index l.inner) ≡ string_bytes false l.inner
