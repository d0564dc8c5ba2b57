use Rattle.std.proofs.Common.{◌≡◌, ℕ, ◌<◌, ◌∙◌, length, arith, subst, sym, ap, List}
use Rattle.four_state.specs.declared.bit.Bit3.{Bit3}
use Rattle.std.proofs.lemmas.List.{get_or_default}
use Rattle.blif_read.specs.Reading.{parts_of}
use Rattle.blif_device.specs.Valuations.{valuation}
use Rattle.blif_device.specs.Settled.{IsTheSettled}
use Rattle.blif_device.proofs.Fixing.{pass_settles, length-pass}
use Rattle.blif_device.proofs.Deciding.{can_pass}
use Rattle.blif_device.proofs.device.Device.settle.Goals as goal

pub settle_all-requires-clause-pass : goal.settle_all-requires-clause-pass
settle_all-requires-clause-pass c =
    let d = c.self.inside in
    rw (c.as_slice.ensures, c.deref.ensures.value, c.deref-3.ensures.value, c.deref-4.ensures.value)
    (can_pass (parts_of d.netlist) d.sources.items d.driven.items d.held.items d.netlist.valid c.self.invariant.table c.self.invariant.driven_size c.self.invariant.held_size)

pub settle_all-requires-clause-below : goal.settle_all-requires-clause-below
settle_all-requires-clause-below c =
    let d = c.self.inside in
    rw (c.deref.ensures.value, c.deref-2.ensures.value)
    (λ k x lt. subst (λ (n : ℕ). n < length d.sources.items) (get_or_default d.order.items k 0 x lt) (c.self.invariant.order.below k lt))

pub invariant_of-self : goal.invariant_of-self
invariant_of-self c =
    let d = c.self.inside in
    let e = rw (c.as_slice.ensures, c.deref.ensures.value, c.deref-2.ensures.value, c.deref-3.ensures.value, c.deref-4.ensures.value) at c.settle_all.ensures in
    let size : length d.values.items ≡ length d.sources.items = omega (arith, c.self.invariant.values_size, c.self.invariant.table.size) in
    record {
      table = c.self.invariant.table;
      order = c.self.invariant.order;
      driven_size = c.self.invariant.driven_size;
      held_size = c.self.invariant.held_size;
      values_size = ap (length {A = Bit3}) e ∙ length-pass d.netlist.covers d.sources.items (valuation d.driven.items) d.held.items d.values.items d.order.items ∙ c.self.invariant.values_size;
      tells = λ _. subst (λ (vs : List Bit3). IsTheSettled (parts_of d.netlist) (valuation d.driven.items) d.held.items (valuation vs)) (sym e) (pass_settles (parts_of d.netlist) d.sources.items (valuation d.driven.items) d.held.items d.values.items d.order.items d.netlist.valid c.self.invariant.table c.self.invariant.order c.self.invariant.held_size size);
    }

pub returns-clause-settled : goal.returns-clause-settled
returns-clause-settled c =
    let d = c.self.inside in
    let e = rw (c.as_slice.ensures, c.deref.ensures.value, c.deref-2.ensures.value, c.deref-3.ensures.value, c.deref-4.ensures.value) at c.settle_all.ensures in
    let size : length d.values.items ≡ length d.sources.items = omega (arith, c.self.invariant.values_size, c.self.invariant.table.size) in
    subst (λ (vs : List Bit3). IsTheSettled (parts_of d.netlist) (valuation d.driven.items) d.held.items (valuation vs)) (sym e) (pass_settles (parts_of d.netlist) d.sources.items (valuation d.driven.items) d.held.items d.values.items d.order.items d.netlist.valid c.self.invariant.table c.self.invariant.order c.self.invariant.held_size size)
