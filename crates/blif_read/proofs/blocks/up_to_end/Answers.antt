use Rattle.std.proofs.Common.{sym, ◌∙◌, ap}
use Rattle.std.specs.List.{position}
use Rattle.blif_read.specs.Directives.{is_end}
use Rattle.blif_read.proofs.Grouped.{up_to_end-found, up_to_end-none}
use Rattle.blif_read.proofs.blocks.up_to_end.Goals as goal

pub returns-in-Some : goal.returns-in-Some
returns-in-Some c = c.truncate.ensures.items ∙ up_to_end-found c.args.lines.now.items c.in-Some.end (sym (ap (position is_end) c.deref.ensures.value) ∙ sym c.end_place.ensures ∙ c.in-Some.is)

pub returns-in_default : goal.returns-in_default
returns-in_default c = up_to_end-none c.args.lines.now.items (sym (ap (position is_end) c.deref.ensures.value) ∙ sym c.end_place.ensures ∙ c.in_default.is)
