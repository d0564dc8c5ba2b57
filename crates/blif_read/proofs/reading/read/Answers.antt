use Rattle.std.proofs.Common.{◌∙◌, ap, subst, List}
use Rattle.blif_read.specs.declared.lines.Line.{Line}
use Rattle.blif_read.specs.Reading.{IsReading}
use Rattle.blif_read.specs.Netlists.{netlist, netlist_of_lines}
use Rattle.blif_read.specs.Directives.{up_to_end}
use Rattle.blif_read.proofs.reading.read.Goals as goal

pub returns : goal.returns
unfolding netlist
returns c = subst (λ (ls : List Line). IsReading c.read_lines.result (netlist_of_lines ls)) (c.up_to_end.ensures ∙ ap up_to_end c.in_ok-lines.ensures) c.read_lines.ensures
