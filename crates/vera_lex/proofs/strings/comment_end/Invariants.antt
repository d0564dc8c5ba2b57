use Rattle.std.proofs.Common.{◌≡◌, ◌+◌, drop, option_map}
use Rattle.vera_lex.specs.Reading.{comment_end}
use Rattle.vera_lex.proofs.strings.comment_end.Given as goal

abbrev pub invariant-loop-i : goal.invariant-loop-i
invariant-loop-i l = option_map (λ n. l.i + n) (comment_end l.before (drop l.i l.bytes)) ≡ comment_end 0 l.bytes
