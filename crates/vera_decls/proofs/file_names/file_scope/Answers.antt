use Rattle.std.proofs.Common.{List, ◌++◌, take, drop, ap, subst, ◌∙◌, arith}
use Rattle.vera_ast.specs.declared.tree.items.Item.{Item}
use Rattle.vera_decls.proofs.FileSteps.{scope_start, scope_next, scope_end, taken_next, counted_start}
use Rattle.typing_rules.specs.FileNames.{scope_behind}
use Rattle.vera_decls.specs.Files.{AreCounted}
use Rattle.typing_rules.specs.Scopes.{Scope}
use Rattle.vera_decls.proofs.file_names.file_scope.Goals as goal

pub loop-item-init : goal.loop-item-init
loop-item-init c = record {
  named = ap (λ (s : Scope). s ++ scope_behind (take 0 c.args.items.now) (drop 0 c.args.items.now)) c.new-scope.ensures ∙ scope_start c.args.items.now;
  counted = counted_start c.args.items.now c.none_yet-counts.result c.none_yet-counts.ensures;
}

pub loop-item-preserved : goal.loop-item-preserved
loop-item-preserved c = record {
  named = scope_next c.loop-item.scope c.loop-item.item-index c.args.items.now c.item-item.result c.in_ok-scope.scope (omega arith) c.item-item.is c.loop-item.invariant.named
      (c.in_ok-scope.ensures (take c.loop-item.item-index c.args.items.now) c.loop-item.invariant.counted);
  counted = subst (λ (items : List Item). AreCounted items c.in_ok-counts.counts) (taken_next c.loop-item.item-index c.args.items.now c.item-item.result (omega arith) c.item-item.is)
      (c.in_ok-counts.ensures (take c.loop-item.item-index c.args.items.now) c.loop-item.invariant.counted);
}

pub returns : goal.returns
returns c = scope_end c.loop-item.scope c.loop-item.item-index c.args.items.now (omega arith) c.loop-item.invariant.named
