use Rattle.vera_meaning.proofs.Driving.{walked-fits, on-fits}
use Rattle.vera_meaning.proofs.laws.driving.drives_fit_their_signals.Goals as goal

pub returns-clause-in_place : goal.returns-clause-in_place
returns-clause-in_place c = walked-fits

pub returns-clause-in_contents : goal.returns-clause-in_contents
returns-clause-in_contents c = on-fits
