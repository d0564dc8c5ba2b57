use Rattle.std.proofs.Common.{◌≡◌, ℕ, ◌<◌, List, ◌∙◌, arith, subst, ap, get_or, length, refl}
use Rattle.blif_device.specs.Sources.{table_reads}
use Rattle.blif_device.specs.Reaching.{MarksAll}
use Rattle.blif_device.proofs.Marking.{reaches_more, tells_ring}
use Rattle.blif_device.proofs.rings.reaches_itself.Goals as goal

pub loop-head-preserved : goal.loop-head-preserved
loop-head-preserved c =
    let reads = table_reads c.args.covers.now c.args.sources.now in
    let found : List ℕ = c.loop-head.found.items in
    let head = c.loop-head.head in
    let lt : head < length found = omega (arith, c.len.ensures, c.loop-head.found.ok.0) in
    let next_is : c.found_at-next.result ≡ get_or found head 0 = c.found_at-next.ensures.net ∙ ap (λ (xs : List ℕ). get_or xs head 0) c.deref.ensures.value in
    let m = subst (λ (x : ℕ). MarksAll (reads x) c.loop-head.marks c.mark_reads-in-loop-head.new.marks found c.mark_reads-in-loop-head.new.found.items) next_is c.in_ok-mark_reads-2.ensures in
    record {
      size = m.size ∙ c.loop-head.invariant.size;
      within = omega (arith, m.longer, lt);
      reaches = reaches_more reads c.args.net c.loop-head.marks c.mark_reads-in-loop-head.new.marks found c.mark_reads-in-loop-head.new.found.items head c.loop-head.invariant.reaches lt m;
    }

pub returns : goal.returns
returns c =
    tells_ring (table_reads c.args.covers.now c.args.sources.now) c.args.net c.loop-head.marks c.loop-head.found.items c.loop-head.head c.loop-head.invariant.reaches (omega (arith, c.len.ensures, c.loop-head.found.ok.0)) _ refl
