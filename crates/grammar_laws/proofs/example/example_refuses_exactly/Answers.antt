use Rattle.grammar_laws.proofs.ExampleFile as file
use Rattle.grammar_laws.proofs.example.example_refuses_exactly.Goals as goal

pub returns-clause-syntax : goal.returns-clause-syntax
returns-clause-syntax c = file.file_syntax

pub returns-clause-depth : goal.returns-clause-depth
returns-clause-depth c = file.file_deep
