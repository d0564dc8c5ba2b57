use Rattle.std.proofs.Common.{sym, ◌∙◌, ap}
use Rattle.std.specs.Option.{option_copied}
use Rattle.signal_link.proofs.Indexed.{number_found, number_missing}
use Rattle.signal_link.proofs.numbers.NetNumbers.number.Goals as goal

pub returns-in-Some : goal.returns-in-Some
returns-in-Some c = λ known h. number_found _ known c.args.name.now _ h (sym c.get.ensures.value ∙ ap option_copied c.in-Some.is)

pub returns-in-None : goal.returns-in-None
returns-in-None c = λ known h. number_missing _ known c.args.name.now h (sym c.get.ensures.value ∙ ap option_copied c.in-None.is)
