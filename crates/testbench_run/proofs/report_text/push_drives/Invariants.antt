use Rattle.std.proofs.Common.{◌≡◌, ◌++◌, take}
use Rattle.testbench_run.specs.DriveLines.{named_drive_lines}
use Rattle.testbench_run.proofs.report_text.push_drives.Given as goal

abbrev pub invariant-loop-drive : goal.invariant-loop-drive
invariant-loop-drive l = l.text.items ≡ l.fn.text.items ++ named_drive_lines l.names (take l.drive-index l.drives)
