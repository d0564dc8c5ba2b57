use Rattle.std.proofs.Common.{◌≡◌, ℕ, ◌+◌, ◌-◌, ◌<◌, ◌∙◌, length, arith, get_or, ap}
use Rattle.std.proofs.lemmas.List.{get_or_default}
use Rattle.blif_device.specs.Sources.{table_reads}
use Rattle.blif_device.specs.Walks.{mark_at}
use Rattle.blif_device.specs.declared.walk.Mark.TheVariants.{Done}
use Rattle.blif_device.proofs.Stepping.{look_walks, fewer_look, path_below, path_not_done}
use Rattle.blif_device.proofs.walk.look.Goals as goal

pub returns : goal.returns
returns c =
    let w = c.args.walk.now in
    let reads = table_reads c.args.covers.now c.args.sources.now in
    let n = length c.args.sources.now in
    let net = c.args.net in
    let last : 0 < length w.path.items = c.requires.path in
    let lt : net < n = path_below reads n w.marks.items w.left.items w.path.items w.order.items _ net c.requires.walk (omega arith) c.requires.last in
    let in_left : net < length w.left.items = omega (arith, c.requires.walk.left_size) in
    let r = c.index_mut.result.now in
    let was : r ≡ get_or w.left.items net 0 = c.index_mut.ensures.value ∙ get_or_default w.left.items net r 0 in_left in
    let one_more : get_or w.left.items net 0 ≡ (r - 1) + 1 = omega (arith, was, c.requires.left) in
    let is_done : mark_at w.marks.items (get_or (reads net) (r - 1) 0) ≡ Done = ap (λ (k : ℕ). mark_at w.marks.items (get_or (reads net) (k - 1) 0)) was ∙ c.requires.is_done in
    record {
      walk = look_walks reads n w.marks.items w.left.items w.path.items w.order.items net (r - 1) c.requires.walk lt one_more (path_not_done reads n w.marks.items w.left.items w.path.items w.order.items _ net c.requires.walk (omega arith) c.requires.last) is_done;
      fewer = fewer_look w.marks.items w.left.items w.path.items net (r - 1) in_left one_more;
      seen = λ x h. h;
    }
