use Rattle.std.proofs.Common.{◌++◌, refl, ap, ◌∙◌, subst}
use Rattle.plain_run.specs.Applying.{AppliesAll}
use Rattle.plain_run.proofs.cycles.Run.apply_drives.Goals as goal

pub returns : goal.returns
returns c = record {
  agenda = refl;
  values = refl;
  cycle = refl;
  printed = refl;
  due = c.clear.ensures.items;
  applied = c.in_ok-extend_from_slice.ensures.items ∙ ap (λ ds. c.args.self.now.applied.items ++ ds) c.deref-2.ensures.value;
  outside = subst (AppliesAll c.args.self.now.outside c.apply_all.new.outside) c.deref.ensures.value c.apply_all.ensures;
}
