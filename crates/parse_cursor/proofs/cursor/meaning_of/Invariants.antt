use Rattle.std.proofs.Common.{◌≡◌, length}
use Rattle.parse_cursor.specs.TokenReading.{meaning_of}
use Rattle.parse_cursor.proofs.cursor.meaning_of.Given as goal

abbrev pub invariant-table : goal.invariant-table
invariant-table g l = meaning_of l.rest l.c ≡ meaning_of l.table l.c

abbrev pub decreases-table : goal.decreases-table
decreases-table g l = length l.rest
