use Rattle.std.proofs.Common.{take, refl, arith}
use Rattle.signal_link.proofs.Indexed.{first_none, first_more, first_all}
use Rattle.signal_link.proofs.numbers.NetNumbers.new.Goals as goal

pub loop-number-init : goal.loop-number-init
loop-number-init c = first_none c.new-numbers.result c.new-numbers.ensures.empty

pub loop-number-preserved : goal.loop-number-preserved
loop-number-preserved c =
    first_more c.insert_new.new.numbers c.args.nets.now c.loop-number.number c.as_slice.result.now c.index-nets-number.result (omega arith) c.as_slice.ensures c.index-nets-number.is
    (λ is. c.in_ok-insert_new.ensures (take c.loop-number.number c.args.nets.now) c.loop-number.invariant is)

pub returns : goal.returns
returns c = record {
  count = refl;
  first = first_all c.loop-number.numbers c.args.nets.now c.loop-number.number (omega arith) c.loop-number.invariant;
}
