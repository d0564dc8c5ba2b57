use Rattle.four_state.specs.declared.bit.Bit3.TheVariants as bit3
use Rattle.vera_names.proofs.Ones.{nothing_by_logic}
use Rattle.vera_names.proofs.numbers.is_nothing.Goals as goal

pub returns-in-One : goal.returns-in-One
returns-in-One c = nothing_by_logic c.args.number.now.value bit3.One c.in-One.ensures

pub returns-in-Zero : goal.returns-in-Zero
returns-in-Zero c = nothing_by_logic c.args.number.now.value bit3.Zero c.in-Zero.ensures

pub returns-in-X : goal.returns-in-X
returns-in-X c = nothing_by_logic c.args.number.now.value bit3.X c.in-X.ensures
