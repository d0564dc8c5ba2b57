use Rattle.std.proofs.Common.{◌≡◌, drop, false}
use Rattle.vera_lex.specs.Reading.{more, string_end}
use Rattle.vera_lex.proofs.strings.string_end.Given as goal

abbrev pub invariant-loop-i : goal.invariant-loop-i
invariant-loop-i l = more l.i (string_end l.escape (drop l.i l.bytes)) ≡ string_end false l.bytes
