use Rattle.run_rules.proofs.Fitting.{meet_length, meet_fits, driven_fits, nothing_fits, value_fits}
use Rattle.run_rules.proofs.laws.drives.drives_fit.Goals as goal

pub returns-clause-length : goal.returns-clause-length
returns-clause-length c = meet_length

pub returns-clause-meet : goal.returns-clause-meet
returns-clause-meet c = meet_fits

pub returns-clause-driven : goal.returns-clause-driven
returns-clause-driven c = driven_fits

pub returns-clause-nothing : goal.returns-clause-nothing
returns-clause-nothing c = nothing_fits

pub returns-clause-value : goal.returns-clause-value
returns-clause-value c = value_fits
