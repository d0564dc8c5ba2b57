use Rattle.std.proofs.Common.{◌≡◌, List, [], sym, ap, ◌∙◌}
use Rattle.std.proofs.lemmas.List.{nil_from_length}
use Rattle.typing_rules.specs.Productions.{Link, chained}
use Rattle.vera_values.specs.Steps.{links_before}
use Rattle.vera_values.proofs.ProductionSteps.{links_ended}
use Rattle.vera_values.proofs.productions.chained.Goals as goal

pub returns : goal.returns
returns c =
    let none : c.loop-link.link-iterator.rest.items ≡ [] = nil_from_length c.loop-link.link-iterator.rest.items (sym c.loop-link.link-iterator.rest.ok.0 ∙ c.in-None.ensures.steps.0) in
    sym c.loop-link.invariant
    ∙ ap (λ (ls : List Link). links_before c.loop-link.done (chained c.args.parents.now c.args.line c.loop-link.left ls)) none
    ∙ links_ended c.args.parents.now c.args.line c.loop-link.left c.loop-link.done
