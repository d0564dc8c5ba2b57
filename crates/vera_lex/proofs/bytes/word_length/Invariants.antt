use Rattle.std.proofs.Common.{◌≡◌, ◌+◌, drop}
use Rattle.vera_lex.specs.Bytes.{in_word, run}
use Rattle.vera_lex.proofs.bytes.word_length.Given as goal

abbrev pub invariant-loop-i : goal.invariant-loop-i
invariant-loop-i l = l.i + run in_word (drop l.i l.bytes) ≡ run in_word l.bytes
