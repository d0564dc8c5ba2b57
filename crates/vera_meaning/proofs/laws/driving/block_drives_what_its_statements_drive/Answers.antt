use Rattle.vera_meaning.proofs.DrivingViews.{block-into, block-alone, block-from}
use Rattle.vera_meaning.proofs.laws.driving.block_drives_what_its_statements_drive.Goals as goal

pub returns-clause-into : goal.returns-clause-into
returns-clause-into c = block-into

pub returns-clause-alone : goal.returns-clause-alone
returns-clause-alone c = block-alone

pub returns-clause-from : goal.returns-clause-from
returns-clause-from c = block-from
