-- What a run needs of its testbench.
use Rattle.std.specs.Prelude.{◌⊎◌}
use Rattle.vera_ast.specs.declared.typed.file.TypedTree.{TypedTree}
use Rattle.vera_ast.specs.Signals.{signals_in, AreApart}
use Rattle.typing_laws.specs.Trees.{NamesItsSignals}
use Rattle.blif_read.specs.Netlists.{Parts}
use Rattle.run_rules.specs.declared.limits.Limits.{Limits}
use Rattle.run_words.specs.declared.modes.Mode.{Mode}
use Rattle.testbench_run.specs.declared.answer.Answer.{Answer}
use Rattle.testbench_run.specs.Answers.{IsUnlinked, IsLinked}

-- it has a program, each drive of which names an output; the names of its outputs differ, and no signal's has a bracket
pub record IsRunnable (tree : TypedTree) : Type 0 where
  pub names : NamesItsSignals tree
  pub apart : AreApart (signals_in tree.items)

-- what linking is answered with: the first signal that doesn't link, or what comes of the run
abbrev pub AnswersLinking : Mode → Limits → TypedTree → Parts → Answer → Type 0
AnswersLinking mode limits tree parts answer = IsUnlinked tree parts answer ⊎ IsLinked mode limits tree parts answer
