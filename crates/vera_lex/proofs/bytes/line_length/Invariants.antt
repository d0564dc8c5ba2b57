use Rattle.std.proofs.Common.{◌≡◌, ◌+◌, drop}
use Rattle.vera_lex.specs.Bytes.{run}
use Rattle.vera_lex.specs.Forms.{in_line}
use Rattle.vera_lex.proofs.bytes.line_length.Given as goal

abbrev pub invariant-loop-i : goal.invariant-loop-i
invariant-loop-i l = l.i + run in_line (drop l.i l.bytes) ≡ run in_line l.bytes
