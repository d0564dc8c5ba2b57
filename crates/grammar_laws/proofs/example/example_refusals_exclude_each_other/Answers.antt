use Rattle.std.proofs.Common.{List}
use Rattle.grammar_laws.specs.Answers.{Derived}
use Rattle.grammar_laws.specs.ExampleGrammar.{Token, Tree, file}
use Rattle.grammar_laws.proofs.Reached.{one_refusal}
use Rattle.grammar_laws.proofs.example.example_refusals_exclude_each_other.Goals as goal

pub returns : goal.returns
returns c = λ limit place left ts x y. one_refusal Token (List Tree) (Derived file) limit ts place left x y
