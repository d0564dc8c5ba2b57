use Rattle.std.proofs.Common.{◌≡◌, length}
use Rattle.grammar_laws.specs.Words.{member}
use Rattle.parse_cursor.proofs.cursor.member.Given as goal

abbrev pub invariant-codes : goal.invariant-codes
invariant-codes l = member l.rest l.c ≡ member l.codes l.c

abbrev pub decreases-codes : goal.decreases-codes
decreases-codes l = length l.rest
