use Rattle.run_rules.proofs.Testbenches.{program-ends}
use Rattle.run_rules.proofs.laws.sources.every_program_ends.Goals as goal

pub returns : goal.returns
returns c = program-ends
