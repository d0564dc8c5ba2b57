use Rattle.vera_meaning.proofs.Chains.{chain-alone, chain-last, type-alone, type-last}
use Rattle.vera_meaning.proofs.laws.expressions.operators_group_from_the_left.Goals as goal

pub returns-clause-alone : goal.returns-clause-alone
returns-clause-alone c = chain-alone

pub returns-clause-last : goal.returns-clause-last
returns-clause-last c = chain-last

pub returns-clause-of_alone : goal.returns-clause-of_alone
returns-clause-of_alone c = type-alone

pub returns-clause-of_last : goal.returns-clause-of_last
returns-clause-of_last c = type-last
