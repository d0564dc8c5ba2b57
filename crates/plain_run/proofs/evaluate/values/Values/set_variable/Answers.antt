use Rattle.plain_run.specs.Values.{contents_of}
use Rattle.plain_run.proofs.Places.{unwritten}
use Rattle.plain_run.proofs.evaluate.values.Values.set_variable.Goals as goal

pub returns-in_default : goal.returns-in_default
returns-in_default c = unwritten c.args.place c.args.value (contents_of c.args.self.now) c.in_default.not-Program
