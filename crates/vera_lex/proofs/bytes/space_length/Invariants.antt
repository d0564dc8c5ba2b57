use Rattle.std.proofs.Common.{◌≡◌, ◌+◌, drop}
use Rattle.vera_lex.specs.Bytes.{is_space, run}
use Rattle.vera_lex.proofs.bytes.space_length.Given as goal

abbrev pub invariant-loop-i : goal.invariant-loop-i
invariant-loop-i l = l.i + run is_space (drop l.i l.bytes) ≡ run is_space l.bytes
