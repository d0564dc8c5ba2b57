use Rattle.std.proofs.Common.{◌≡◌, ◌-◌, ◌<◌, ◌∙◌, length, arith, get_or, ap, sym}
use Rattle.std.proofs.lemmas.List.{get_or_default}
use Rattle.std.proofs.lemmas.Grind.{common_steps}
use Rattle.blif_device.specs.Sources.{table_reads}
use Rattle.blif_device.specs.Walks.{mark_at}
use Rattle.blif_device.specs.declared.walk.Mark.TheVariants.{New, Open}
use Rattle.blif_device.proofs.Stepping.{leads_on, ring_found}
use Rattle.blif_device.proofs.walk.step.Goals as goal

pub enter-requires-clause-leads : goal.enter-requires-clause-leads
enter-requires-clause-leads c =
    let w = c.args.walk.now in
    let reads = table_reads c.args.covers.now c.args.sources.now in
    let net = c.last-net.result in
    let some : 0 < get_or w.left.items net 0 = grind (arith, common_steps) in
    rw c.next_input-input.ensures.input (leads_on reads _ w.marks.items w.left.items w.path.items w.order.items net (get_or w.left.items net 0 - 1) c.requires.walk c.requires.path c.last-net.ensures.last (omega (arith, c.requires.walk.bounded net c.last-net.ensures.below)))

pub returns-in-Open : goal.returns-in-Open
returns-in-Open c =
    let w = c.args.walk.now in
    let reads = table_reads c.args.covers.now c.args.sources.now in
    let net = c.last-net.result in
    let input = c.next_input-input.result in
    let m = get_or w.left.items net 0 - 1 in
    let some : 0 < get_or w.left.items net 0 = grind (arith, common_steps) in
    let in_marks : input < length w.marks.items = omega (arith, c.next_input-input.ensures.below, c.requires.walk.marks_size) in
    let is_open : mark_at w.marks.items (get_or (reads net) m 0) ≡ Open c.in-Open.field-0 =
    ap (mark_at w.marks.items) (sym c.next_input-input.ensures.input) ∙ sym (c.index-2.ensures ∙ get_or_default w.marks.items input c.index-2.result.now New in_marks) ∙ c.in-Open.is in
    record {
      net = get_or (reads net) m 0;
      ring = ring_found reads _ w.marks.items w.left.items w.path.items w.order.items net m c.in-Open.field-0 c.requires.walk c.requires.path c.last-net.ensures.last (omega (arith, c.requires.walk.bounded net c.last-net.ensures.below)) is_open;
    }
