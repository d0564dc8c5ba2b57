use Rattle.run_rules.proofs.Meetings.{no_drives}
use Rattle.run_rules.proofs.laws.drives.no_drive_changes_nothing.Goals as goal

pub returns : goal.returns
returns c = no_drives
