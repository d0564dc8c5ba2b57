use Rattle.run_rules.proofs.Meetings.{given_this, given_others, given_has_value}
use Rattle.run_rules.proofs.laws.drives.one_more_is_given.Goals as goal

pub returns-clause-this : goal.returns-clause-this
returns-clause-this c = given_this

pub returns-clause-others : goal.returns-clause-others
returns-clause-others c = given_others

pub returns-clause-value : goal.returns-clause-value
returns-clause-value c = given_has_value
