use Rattle.std.proofs.Common.{◌≡◌, drop}
use Rattle.vera_ast.specs.ExprTypes.{type_behind}
use Rattle.vera_ast.proofs.typed.expr.type_behind.Given as goal

-- the links that are left give the whole's type
abbrev pub invariant-loop-link : goal.invariant-loop-link
invariant-loop-link l = type_behind (drop l.link-index l.links) l.of ≡ type_behind l.fn.links l.fn.first
