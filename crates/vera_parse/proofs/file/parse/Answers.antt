use Rattle.std.proofs.Common.{◌≡◌, ℕ, List, Err, refl, sym, subst, inl, inr}
use Rattle.grammar_laws.specs.declared.fault.Fault.TheVariants.{Stop}
use Rattle.grammar_laws.specs.declared.fault.Why.{Why}
use Rattle.grammar_laws.specs.declared.fault.Why.TheVariants.{Syntax, Depth}
use Rattle.grammar_laws.proofs.Whole.{stop_is}
use Rattle.vera_ast.specs.declared.refusal.FrontError.{FrontError}
use Rattle.vera_ast.specs.declared.refusal.FrontError.TheVariants as error
use Rattle.vera_ast.specs.declared.token.Token.{Token}
use Rattle.vera_ast.specs.declared.tree.items.Tree.{Tree}
use Rattle.vera_parse.specs.Answer.{Parses, IsTreeOf, IsRefusal, line_at}
use Rattle.vera_parse.specs.Reading.{file}
use Rattle.vera_parse.proofs.Top.{file_ok, same_tree, no_tree, file_syntax, file_deep}
use Rattle.vera_parse.proofs.file.parse.Goals as goal

-- tokens at which reading stops have no tree
untrue : (ts : List Token) (tree : Tree) (why : Why) (left n : ℕ) (f : FrontError) → f ≡ error.Refused (record { code = n; line = line_at ts left }) → file 200 ts ≡ Err (Stop why left) → Parses ts tree → IsTreeOf tree (Err f)
untrue ts tree why left n f is e p = absurd (no_tree 200 ts tree why left e p)

syntax_told : (ts : List Token) (left : ℕ) (f : FrontError) → f ≡ error.Refused (record { code = 10; line = line_at ts left }) → file 200 ts ≡ Err (Stop Syntax left) → IsRefusal ts f
syntax_told ts left f is e = subst (IsRefusal ts) (sym is) (inl (refl, (left, file_syntax 200 ts left e, refl)))

depth_told : (ts : List Token) (left : ℕ) (f : FrontError) → f ≡ error.Refused (record { code = 11; line = line_at ts left }) → file 200 ts ≡ Err (Stop Depth left) → IsRefusal ts f
depth_told ts left f is e = subst (IsRefusal ts) (sym is) (inr (refl, (left, file_deep 200 ts left e, refl)))

pub returns-in-Ok-clause-found : goal.returns-in-Ok-clause-found
returns-in-Ok-clause-found c = file_ok 200 c.args.tokens.now c.in-Ok.tree c.file.new.tokens.rest.now c.in-Ok.ensures

pub returns-in-Ok-clause-only : goal.returns-in-Ok-clause-only
returns-in-Ok-clause-only c = λ tree p. same_tree 200 c.args.tokens.now c.in-Ok.tree tree c.file.new.tokens.rest.now c.in-Ok.ensures p

pub returns-in-Err-Stop-Syntax-default-clause-only : goal.returns-in-Err-Stop-Syntax-default-clause-only
returns-in-Err-Stop-Syntax-default-clause-only c = λ tree p.
    untrue c.args.tokens.now tree Syntax c.in-Err-Stop-Syntax-default.left 10 c.refused.result c.refused.ensures (stop_is (file 200 c.args.tokens.now) c.in-Err-Stop-Syntax-default.field-0 c.in-Err-Stop-Syntax-default.field-0-0 Syntax c.in-Err-Stop-Syntax-default.left c.in-Err-Stop-Syntax-default.ensures c.in-Err-Stop-Syntax-default.field-0-is c.in-Err-Stop-Syntax-default.field-0-0-is) p

pub returns-in-Err-Stop-Syntax-default-clause-refused : goal.returns-in-Err-Stop-Syntax-default-clause-refused
returns-in-Err-Stop-Syntax-default-clause-refused c =
    syntax_told c.args.tokens.now c.in-Err-Stop-Syntax-default.left c.refused.result c.refused.ensures (stop_is (file 200 c.args.tokens.now) c.in-Err-Stop-Syntax-default.field-0 c.in-Err-Stop-Syntax-default.field-0-0 Syntax c.in-Err-Stop-Syntax-default.left c.in-Err-Stop-Syntax-default.ensures c.in-Err-Stop-Syntax-default.field-0-is c.in-Err-Stop-Syntax-default.field-0-0-is)

pub returns-in-Err-Stop-Depth-default-clause-only : goal.returns-in-Err-Stop-Depth-default-clause-only
returns-in-Err-Stop-Depth-default-clause-only c = λ tree p.
    untrue c.args.tokens.now tree Depth c.in-Err-Stop-Depth-default.left 11 c.refused-in-Err-Stop-Depth-default.result c.refused-in-Err-Stop-Depth-default.ensures (stop_is (file 200 c.args.tokens.now) c.in-Err-Stop-Depth-default.field-0 c.in-Err-Stop-Depth-default.field-0-0 Depth c.in-Err-Stop-Depth-default.left c.in-Err-Stop-Depth-default.ensures c.in-Err-Stop-Depth-default.field-0-is c.in-Err-Stop-Depth-default.field-0-0-is) p

pub returns-in-Err-Stop-Depth-default-clause-refused : goal.returns-in-Err-Stop-Depth-default-clause-refused
returns-in-Err-Stop-Depth-default-clause-refused c =
    depth_told c.args.tokens.now c.in-Err-Stop-Depth-default.left c.refused-in-Err-Stop-Depth-default.result c.refused-in-Err-Stop-Depth-default.ensures (stop_is (file 200 c.args.tokens.now) c.in-Err-Stop-Depth-default.field-0 c.in-Err-Stop-Depth-default.field-0-0 Depth c.in-Err-Stop-Depth-default.left c.in-Err-Stop-Depth-default.ensures c.in-Err-Stop-Depth-default.field-0-is c.in-Err-Stop-Depth-default.field-0-0-is)
