use Rattle.grammar_laws.proofs.ExampleFile as file
use Rattle.grammar_laws.proofs.example.example_at_the_end_of_depth.Goals as goal

pub returns-clause-declaration : goal.returns-clause-declaration
returns-clause-declaration c = file.declaration

pub returns-clause-whole : goal.returns-clause-whole
returns-clause-whole c = file.one_block

pub returns-clause-statement : goal.returns-clause-statement
returns-clause-statement c = file.statement

pub returns-clause-neither : goal.returns-clause-neither
returns-clause-neither c = file.neither

pub returns-clause-at_the_end : goal.returns-clause-at_the_end
returns-clause-at_the_end c = file.at_the_end

pub returns-clause-deeper : goal.returns-clause-deeper
returns-clause-deeper c = file.deeper
