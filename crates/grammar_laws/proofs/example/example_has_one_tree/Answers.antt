use Rattle.grammar_laws.proofs.ExampleFile as file
use Rattle.grammar_laws.proofs.example.example_has_one_tree.Goals as goal

pub returns : goal.returns
returns c = file.one_tree
