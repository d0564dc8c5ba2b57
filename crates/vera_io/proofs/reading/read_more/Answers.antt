use Rattle.std.proofs.Common.{rules}
use Rattle.vera_io.proofs.Fronts.{IsFrontOf-more, whole_at_end}
use Rattle.vera_io.proofs.reading.read_more.Goals as goal

pub returns-clause-front : goal.returns-clause-front
returns-clause-front g c =
    IsFrontOf-more _ c.args.bytes.now.items c.read_at.new.buf _ c.in_ok-came.came c.requires.front (search rules) (search rules)

pub returns-clause-end : goal.returns-clause-end
returns-clause-end g c none =
    whole_at_end _ c.args.bytes.now.items c.read_at.new.buf _ c.in_ok-came.came c.requires.front (search rules) (search rules) (search rules) none
