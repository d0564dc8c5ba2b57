use Rattle.run_rules.proofs.Meetings.{first_drive, meeting_drive}
use Rattle.run_rules.proofs.laws.drives.one_more_drive.Goals as goal

pub returns-clause-first : goal.returns-clause-first
returns-clause-first c = first_drive

pub returns-clause-meets : goal.returns-clause-meets
returns-clause-meets c = meeting_drive
