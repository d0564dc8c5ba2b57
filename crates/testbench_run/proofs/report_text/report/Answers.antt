use Rattle.testbench_run.proofs.Texts.{report_is}
use Rattle.testbench_run.proofs.report_text.report.Goals as goal

pub returns : goal.returns
returns c =
    report_is c.args.names.now c.args.printed.now c.args.drives.now c.args.end c.args.cycle _ _ _ _ _ _ _ _ _ _ _
    c.in_ok-text.ensures.items c.in_ok-push_number.ensures c.in_ok-extend_from_slice.ensures.items c.in_ok-extend_from_slice-2.ensures.items c.in_ok-end_the_line.ensures
    c.in_ok-extend_from_slice-3.ensures.items c.in_ok-push_number-2.ensures c.in_ok-extend_from_slice-4.ensures.items c.in_ok-push_drives.ensures c.in_ok-extend_from_slice-5.ensures.items c.in_ok-push_end.ensures
