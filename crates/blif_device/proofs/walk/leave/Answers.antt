use Rattle.std.proofs.Common.{◌≡◌, ℕ, ◌<◌, ◌-◌, ◌∙◌, length, arith, get_or, ap, sym, subst, List, [], ◌∷◌, ◌++◌, Some, set}
use Rattle.std.specs.Option.{option_to_list}
use Rattle.blif_device.specs.Sources.{table_reads}
use Rattle.blif_device.specs.Walks.{Walks, steps_left}
use Rattle.blif_device.specs.declared.walk.Mark.TheVariants.{Done}
use Rattle.blif_device.proofs.Stepping.{leave_walks, fewer_leave, seen_more, not_new_done, path_below, open_last}
use Rattle.blif_device.proofs.walk.leave.Goals as goal

pub index_mut-requires : goal.index_mut-requires
index_mut-requires c =
    let w = c.args.walk.now in
    omega (arith, c.requires.walk.marks_size, path_below (table_reads c.args.covers.now c.args.sources.now) _ w.marks.items w.left.items w.path.items w.order.items _ c.args.net c.requires.walk (omega arith) c.requires.last)

pub returns : goal.returns
returns c =
    let w = c.args.walk.now in
    let reads = table_reads c.args.covers.now c.args.sources.now in
    let n = length c.args.sources.now in
    let path : List ℕ = c.pop.new.self.items in
    let cut : w.path.items ≡ path ++ c.args.net ∷ [] =
    c.pop.ensures.items ∙ ap (λ r. path ++ option_to_list r) (c.pop.ensures.value 0 (omega (arith, w.path.ok.0)) ∙ ap (λ (k : ℕ). Some (get_or w.path.items (k - 1) 0)) w.path.ok.0 ∙ ap Some c.requires.last) in
    let walk : Walks reads n w.marks.items w.left.items (path ++ c.args.net ∷ []) w.order.items = subst (λ (p : List ℕ). Walks reads n w.marks.items w.left.items p w.order.items) cut c.requires.walk in
    let in_marks : c.args.net < length w.marks.items = omega (arith, c.requires.walk.marks_size, path_below reads n w.marks.items w.left.items w.path.items w.order.items _ c.args.net c.requires.walk (omega arith) c.requires.last) in
    record {
      walk = rw c.in_ok-push.ensures.items (leave_walks reads n w.marks.items w.left.items path w.order.items c.args.net walk c.requires.left);
      fewer = subst (λ (p : List ℕ). steps_left (set w.marks.items c.args.net Done) w.left.items path < steps_left w.marks.items w.left.items p) (sym cut) (fewer_leave w.marks.items w.left.items path c.args.net (length path) in_marks (open_last reads n w.marks.items w.left.items path w.order.items c.args.net walk));
      seen = seen_more w.marks.items c.args.net Done in_marks not_new_done;
    }
