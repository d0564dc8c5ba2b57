use Rattle.std.proofs.Common.{◌^◌, ◌<◌, rules}
use Rattle.vera_names.proofs.NumberViews.{known_number}
use Rattle.vera_names.proofs.constant_numbers.number_of.Goals as goal

pub returns : goal.returns
returns c =
    let ones : c.ones.result < 2 ^ 128 = search rules in
    let unknown : c.unknown.result < 2 ^ 128 = search rules in
    known_number c.args.vector.now c.ones.result c.unknown.result ones unknown c.ones.ensures c.unknown.ensures
