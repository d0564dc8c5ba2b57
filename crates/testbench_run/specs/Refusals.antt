-- Answers of one line: why there is no report.
use Rattle.std.specs.Prelude.{ℕ, List, ◌++◌, Some, codes, decimal}
use Rattle.vera_ast.specs.declared.refusal.Refusal.{Refusal}
use Rattle.vera_ast.specs.Signals.{NamedSignal}
use Rattle.blif_read.specs.declared.refusals.Refusal.{Refusal as NetRefusal}
use Rattle.run_rules.specs.declared.status.Status.TheVariants as statuses
use Rattle.run_rules.specs.Reports.{signal_name, two_digits}
use Rattle.testbench_run.specs.declared.answer.Answer.{Answer}

abbrev pub words_answer : Answer
words_answer = record { status = statuses.Words; text = codes "error words\n" }

abbrev pub read_answer : List ℕ → Answer
read_answer file = record { status = statuses.ReadFault; text = codes "error read " ++ file ++ codes "\n" }

abbrev pub long_answer : List ℕ → Answer
long_answer file = record { status = statuses.TooLong; text = codes "error long " ++ file ++ codes "\n" }

-- a refusal's number, which a letter leads, and its line
abbrev pub refusal_text : List ℕ → ℕ → ℕ → List ℕ
refusal_text letter code line = codes "error " ++ letter ++ two_digits code ++ codes " line " ++ decimal line ++ codes "\n"

abbrev pub source_answer : Refusal → Answer
source_answer r = record { status = statuses.Source; text = refusal_text (codes "E") r.code r.line }

abbrev pub netlist_answer : NetRefusal → Answer
netlist_answer r = record { status = statuses.Netlist; text = refusal_text (codes "N") r.code r.line }

abbrev pub ring_answer : List ℕ → Answer
ring_answer net = record { status = statuses.Netlist; text = codes "error N10 net " ++ net ++ codes "\n" }

-- a check found nothing to refuse
abbrev pub accepted_answer : Answer
accepted_answer = record { status = statuses.Passed; text = codes "accepted\n" }

abbrev pub link_answer : NamedSignal → Answer
link_answer s = record { status = statuses.Link; text = codes "error link " ++ signal_name (Some s) ++ codes "\n" }
