use Rattle.std.proofs.Common.{◌≡◌, ◌<◌, ◌∙◌, length, arith}
use Rattle.blif_device.specs.Sources.{table_reads}
use Rattle.blif_device.proofs.Stepping.{enter_walks, fewer_enter, seen_more, not_new_open, now_open}
use Rattle.blif_device.proofs.walk.enter.Goals as goal

pub returns : goal.returns
returns c =
    let w = c.args.walk.now in
    let in_marks : c.args.net < length w.marks.items = omega (arith, c.requires.walk.marks_size) in
    let place : c.len.result ≡ length w.path.items = c.len.ensures ∙ w.path.ok.0 in
    record {
      on = record {
        walk = rw (c.in_ok-push.ensures.items, place) (enter_walks (table_reads c.args.covers.now c.args.sources.now) _ w.marks.items w.left.items w.path.items w.order.items c.args.net c.requires.walk c.requires.below c.requires.is_new c.requires.leads);
        fewer = rw c.in_ok-push.ensures.items (fewer_enter w.marks.items w.left.items w.path.items c.args.net c.len.result in_marks c.requires.is_new);
        seen = seen_more w.marks.items c.args.net _ in_marks (not_new_open c.len.result);
      };
      there = now_open w.marks.items c.args.net c.len.result in_marks;
    }
