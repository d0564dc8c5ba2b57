use Rattle.front_end.proofs.OneAnswer.{no_other}
use Rattle.front_end.proofs.TypedSources.{answer_has_program, answer_names_signals, answer_apart}
use Rattle.front_end.proofs.reading.read_source.Goals as goal

pub returns : goal.returns
returns c =
    let purpose = c.args.purpose in
    let bytes = c.args.bytes.now in
    let result = c.of_bytes.result in
    let source = c.of_bytes.ensures in
    record {
      source = source;
      only = no_other purpose bytes result source;
      program = answer_has_program purpose bytes result source;
      names = answer_names_signals purpose bytes result source;
      apart = answer_apart purpose bytes result source;
    }
