use Rattle.std.proofs.Common.{◌≡◌, drop}
use Rattle.vera_names.specs.Tables.{rows_of}
use Rattle.typing_rules.specs.Words.{beside}
use Rattle.vera_names.proofs.reserved.beside.Given as goal

-- the rows that are left tell what the table does
abbrev pub invariant-loop-row : goal.invariant-loop-row
invariant-loop-row g l = beside (rows_of (drop l.row-index l.rows)) l.word ≡ beside (rows_of l.rows) l.word
