use Rattle.std.proofs.Common.{◌≡◌}
use Rattle.std.specs.Vec.Iter.{into_iter_items}
use Rattle.typing_rules.specs.Productions.{chained}
use Rattle.vera_values.specs.Steps.{links_before}
use Rattle.vera_values.proofs.productions.chained.Given as goal

abbrev pub invariant-loop-link : goal.invariant-loop-link
invariant-loop-link l = links_before l.done (chained l.parents l.line l.left (into_iter_items l.link-iterator)) ≡ chained l.parents l.line l.fn.first l.fn.links.items
