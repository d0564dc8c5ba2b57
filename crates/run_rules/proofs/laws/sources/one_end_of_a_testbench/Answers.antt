use Rattle.run_rules.proofs.Testbenches.{testbench-state, testbench-end}
use Rattle.run_rules.proofs.laws.sources.one_end_of_a_testbench.Goals as goal

pub returns-clause-state : goal.returns-clause-state
returns-clause-state c = testbench-state

pub returns-clause-end : goal.returns-clause-end
returns-clause-end c = testbench-end
