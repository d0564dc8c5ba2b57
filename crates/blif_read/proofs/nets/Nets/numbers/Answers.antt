use Rattle.std.proofs.Common.{◌≡◌, ℕ, List, [], sym, subst, arith}
use Rattle.blif_read.specs.Known.{NumbersAll}
use Rattle.blif_read.proofs.Indexed.{numbers_none, numbers_more_at}
use Rattle.blif_read.proofs.nets.Nets.numbers.Goals as goal

pub loop-name-init : goal.loop-name-init
loop-name-init c =
    let none : c.new-numbers.result.items ≡ [] = c.new-numbers.ensures.items in
    subst (λ (ns : List ℕ). NumbersAll c.args.self.now c.args.self.now [] ns) (sym none) (numbers_none _ c.requires)

pub loop-name-preserved : goal.loop-name-preserved
loop-name-preserved c =
    numbers_more_at c.args.self.now c.loop-name.self c.number.new.self c.args.names.now c.loop-name.name-index c.as_slice.result.now c.name-item.result c.loop-name.numbers.items c.push.new.self.items c.in_ok-number.field-0
    (omega arith) c.loop-name.invariant c.in_ok-number.ensures c.as_slice.ensures c.name-item.is c.in_ok-push.ensures.items
