use Rattle.std.proofs.Common.{List}
use Rattle.grammar_laws.specs.Answers.{Derived}
use Rattle.grammar_laws.specs.ExampleGrammar.{Token, Tree, file}
use Rattle.grammar_laws.proofs.Reached.{least_is_deep}
use Rattle.grammar_laws.proofs.ExampleFile as example
use Rattle.grammar_laws.proofs.example.example_depth_is_the_least.Goals as goal

pub returns : goal.returns
returns c = λ limit left ts reach e r. least_is_deep Token (List Tree) (Derived file) limit ts reach left (example.file_deep limit left ts e) r
