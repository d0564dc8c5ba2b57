use Rattle.std.proofs.Common.{◌≡◌, ◌∙◌, true, false, refl}
use Rattle.signal_link.specs.declared.linking.SignalNets.{SignalNets}
use Rattle.signal_link.specs.Linked.{signal_nets}
use Rattle.signal_link.proofs.linking.Linker.nets.Goals as goal

pub returns-then-not-allow : goal.returns-then-not-allow
returns-then-not-allow c = λ p h l.
    let bad : false ≡ true = (c.if-not-allow.ensures p h.roles (c.as_slice.ensures ∙ c.in_ok-nets.ensures p.nets h.numbers)).1 l in
    cc

pub returns : goal.returns
returns c = λ p h.
    let links = (c.if-not-allow.ensures p h.roles (c.as_slice.ensures ∙ c.in_ok-nets.ensures p.nets h.numbers)).0 refl in
    (links, cc (c.is_output.ensures, c.in_ok-nets.ensures p.nets h.numbers))
