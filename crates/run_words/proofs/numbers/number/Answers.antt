use Rattle.std.proofs.Common.{arith, subst, ◌≢◌, get_or}
use Rattle.run_words.proofs.Numerals.{number_read, no_number_read}
use Rattle.run_words.proofs.numbers.number.Goals as goal

pub returns-in-Ok : goal.returns-in-Ok
returns-in-Ok c =
    number_read c.args.word.now (omega arith) (omega arith)
    (subst (λ bs. get_or bs 0 0 ≢ 43) c.as_bytes.ensures.value c.if-as_bytes-eq43.false) c.in-Ok.number c.parse.result c.parse.ensures.value.0 c.in-Ok.is

pub returns-in-Err : goal.returns-in-Err
returns-in-Err c =
    no_number_read c.args.word.now (omega arith) (omega arith)
    (subst (λ bs. get_or bs 0 0 ≢ 43) c.as_bytes.ensures.value c.if-as_bytes-eq43.false) c.in-Err.field-0 c.parse.result c.parse.ensures.value.0 c.in-Err.is
