use Rattle.std.proofs.Common.{sym}
use Rattle.signal_link.proofs.Indexed.{first_old, first_new}
use Rattle.signal_link.proofs.numbers.insert_new.Goals as goal

pub returns-then-contains_key : goal.returns-then-contains_key
returns-then-contains_key c = λ known h is. first_old _ known c.args.name.now h (sym c.if-contains_key.ensures)

pub returns : goal.returns
returns c = λ known h is. first_new _ _ known c.args.name.now c.in_ok-from_slice.field-0 _ h (sym c.if-contains_key.ensures) c.in_ok-from_slice.ensures.items is c.in_ok-insert.ensures.updates
