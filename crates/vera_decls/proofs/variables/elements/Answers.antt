use Rattle.std.proofs.Common.{sym, subst}
use Rattle.vera_ast.specs.declared.tree.declarations.Bracket.{Bracket}
use Rattle.typing_rules.specs.Answers.{Answers}
use Rattle.typing_rules.specs.DataTypes.{elements}
use Rattle.vera_decls.proofs.variables.elements.Goals as goal

pub returns-in-Fixed : goal.returns-in-Fixed
returns-in-Fixed c = subst (λ (b : Bracket). Answers (elements c.args.scopes.now c.args.line b) c.fixed_elements.result) (sym c.in-Fixed.is) (c.fixed_elements.ensures c.args.line)
