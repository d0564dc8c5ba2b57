use Rattle.std.proofs.Common.{arith}
use Rattle.testbench_run.specs.DriveLines.{named_drive_line}
use Rattle.testbench_run.proofs.Texts.{drive_pushed}
use Rattle.testbench_run.proofs.report_text.push_drives.Goals as goal

pub loop-drive-preserved : goal.loop-drive-preserved
loop-drive-preserved c =
    drive_pushed (named_drive_line c.args.names.now) c.args.drives.now c.loop-drive.drive-index c.drive-item.result c.args.text.now.items c.loop-drive.text.items c.push_drive.new.text.items
    (omega arith) c.drive-item.is c.loop-drive.invariant c.in_ok-push_drive.ensures
