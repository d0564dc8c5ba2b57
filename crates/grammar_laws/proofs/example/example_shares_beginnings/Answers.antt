use Rattle.grammar_laws.proofs.Shared.{to_read, from_read}
use Rattle.grammar_laws.proofs.example.example_shares_beginnings.Goals as goal

pub returns-clause-read : goal.returns-clause-read
returns-clause-read c = to_read _ _ _ _ _ _ _ _ _ _ _ _ _ _ _ _ _ _ _ _ _ _ _ _ _ _ _

pub returns-clause-published : goal.returns-clause-published
returns-clause-published c = from_read _ _ _ _ _ _ _ _ _ _ _ _ _ _ _ _ _ _ _ _ _ _ _ _ _ _ _
