use Rattle.std.proofs.lemmas.Iterator.Adapters.{YieldsList-from_vec}
use Rattle.std.proofs.lemmas.Iterator.Consumers.{YieldsList-end}
use Rattle.std.proofs.lemmas.List.{map-id}
use Rattle.std.proofs.Common.{◌≡◌, ◌∷◌, [], ◌++◌, List, ℕ, rules, subst, sym, ap, ◌∙◌, map}
use Rattle.blif_read.specs.declared.directives.Block.{Block}
use Rattle.blif_read.specs.Nets.{nets, numbered}
use Rattle.blif_read.specs.Known.{NumbersBlocks}
use Rattle.blif_read.proofs.Numbered.{no_blocks, more_blocks, all_blocks-known, all_blocks-numbered}
use Rattle.blif_read.proofs.nets.numbered.Goals as goal

pub loop-block-init : goal.loop-block-init
loop-block-init c =
    let none : c.new-found.result.items ≡ [] = c.new-found.ensures.items in
    subst (λ (ns : List (Block ℕ)). NumbersBlocks c.new-nets.result [] ns) (sym none) (no_blocks c.new-nets.result c.new-nets.ensures.known c.new-nets.ensures.index)

pub loop-block-preserved : goal.loop-block-preserved
loop-block-preserved c =
    subst (λ (ns : List (Block ℕ)). NumbersBlocks c.directive.new.self (c.loop-block.yielded ++ c.in-Some.block ∷ []) ns) (sym c.in_ok-push.ensures.items) (more_blocks c.loop-block.nets c.directive.new.self c.loop-block.yielded c.loop-block.found.items c.in-Some.block c.in_ok-directive.directive c.loop-block.invariant c.in_ok-directive.ensures)

all : (c : goal.After-into_names) → c.loop-block.yielded ≡ c.args.blocks.items
all c =
    let e = YieldsList-end (YieldsList-from_vec c.args.blocks.items (search rules) (search rules)) c.loop-block.yielded c.loop-block.block-iterator c.loop-block.yielded_by c.next.result c.next.new.self c.in-None.is c.next.ensures.steps in
    sym (map-id c.loop-block.yielded) ∙ e.0

pub returns-clause-nets : goal.returns-clause-nets
returns-clause-nets c = c.into_names.ensures ∙ all_blocks-known c.loop-block.nets c.loop-block.yielded c.loop-block.found.items c.loop-block.invariant ∙ ap nets (all c)

pub returns-clause-numbered : goal.returns-clause-numbered
returns-clause-numbered c = all_blocks-numbered c.loop-block.nets c.loop-block.yielded c.loop-block.found.items c.loop-block.invariant ∙ ap (λ bs. map (numbered (nets bs)) bs) (all c)
