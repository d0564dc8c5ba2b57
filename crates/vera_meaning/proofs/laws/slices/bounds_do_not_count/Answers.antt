use Rattle.std.proofs.Common.{suc, arith}
use Rattle.vera_meaning.specs.Statements.{size_of}
use Rattle.vera_meaning.proofs.Bounds.{slice_of-bounds}
use Rattle.vera_meaning.proofs.laws.slices.bounds_do_not_count.Goals as goal

pub returns-clause-ticks : goal.returns-clause-ticks
returns-clause-ticks c = λ here r budget bound enough. slice_of-bounds here r budget bound (suc (size_of r.agenda)) enough (omega arith)

pub returns-clause-free : goal.returns-clause-free
returns-clause-free c = slice_of-bounds
