use Rattle.std.proofs.Common.{◌≡◌, ◌++◌, drop}
use Rattle.typing_rules.specs.Blocks.{scope_of}
use Rattle.vera_types.proofs.blocks.scope_of.Given as goal

abbrev pub invariant-loop-decl : goal.invariant-loop-decl
invariant-loop-decl l = l.scope ++ scope_of (drop l.decl-index l.decls) ≡ scope_of l.decls
