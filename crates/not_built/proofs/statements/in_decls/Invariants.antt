use Rattle.std.proofs.Common.{◌≡◌, drop}
use Rattle.not_built.specs.Passing.{first_in}
use Rattle.not_built.specs.Statements.{decl_lines}
use Rattle.not_built.proofs.statements.in_decls.Given as goal

abbrev pub invariant-loop-decl : goal.invariant-loop-decl
invariant-loop-decl l = first_in decl_lines (drop l.decl-index l.decls) ≡ first_in decl_lines l.decls
