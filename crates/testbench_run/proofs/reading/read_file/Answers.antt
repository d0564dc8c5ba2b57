use Rattle.std.proofs.Common.{ap, ◌∙◌, Err}
use Rattle.testbench_run.proofs.Dues.{refused_long}
use Rattle.testbench_run.proofs.reading.read_file.Goals as goal

pub returns-in_ok-long_refusal-in-Err-TooLong-clause-read : goal.returns-in_ok-long_refusal-in-Err-TooLong-clause-read
returns-in_ok-long_refusal-in-Err-TooLong-clause-read g c =
    refused_long c.args.name.now c.as_bytes.result.now c.args.file.now _ _ _ c.in_ok-long_refusal-in-Err-TooLong.field-0 c.as_bytes.ensures.value (c.read_all.ensures.too_long (c.in-Err-TooLong.is ∙ ap Err c.in-Err-TooLong.field-0-is)) c.in_ok-long_refusal-in-Err-TooLong.ensures
