use Rattle.grammar_laws.proofs.ExampleFile as file
use Rattle.grammar_laws.proofs.example.example_is_read_exactly.Goals as goal

pub returns-clause-found : goal.returns-clause-found
returns-clause-found c = file.file_ok

pub returns-clause-only : goal.returns-clause-only
returns-clause-only c = file.file_only
