use Rattle.testbench_run.proofs.Texts.{ends_within_line-last}
use Rattle.testbench_run.proofs.report_text.ends_within_line.Goals as goal

pub returns-in-Some : goal.returns-in-Some
returns-in-Some c = ends_within_line-last c.args.text.now c.in-Some.byte.now c.in-Some.ensures.value
