use Rattle.vera_calls.specs.Wanting.{modes_told}
use Rattle.vera_calls.proofs.GivenSteps.{whole_given}
use Rattle.vera_calls.proofs.given.argument.Goals as goal

pub returns-in-Whole : goal.returns-in-Whole
returns-in-Whole c = whole_given (modes_told c.args.wanted.now) c.args.want c.args.line c.args.head c.in-Whole.whole c.whole_argument.result c.in-Whole.is c.whole_argument.ensures
