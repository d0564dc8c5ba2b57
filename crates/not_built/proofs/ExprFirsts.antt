-- The first line of expressions, as the code reads their trees.
use Rattle.std.proofs.Common.{◌≡◌, ℕ, Bool, true, false, List, [], ◌∷◌, ◌++◌, Option, Some, None, refl, ap, subst, ◌∙◌}
use Rattle.std.specs.Prelude.{◌&&◌, if◌then◌else◌}
use Rattle.std.specs.Option.{option_or}
use mathlib.Core.Former.{Count}
use Rattle.vera_ast.proofs.ExprViews.{conditional-is, chain-is, unary-is, postfix-is, parentheses-is, concatenation-is, replication-is, no_links-is, links-is, no_suffixes-is, suffixes-is}
use Rattle.vera_ast.specs.declared.tree.expressions.Expr.{Expr}
use Rattle.vera_ast.specs.declared.tree.expressions.Expr.TheViews as views
use Rattle.vera_ast.specs.declared.tree.expressions.Expr.TheBlock.{Row_of-Link, Row_of-Suffix, hidden-the_row-Link-1 as links, hidden-the_row-Suffix-2 as suffixes}
use Rattle.vera_ast.specs.declared.tree.expressions.Conditional.{Conditional}
use Rattle.vera_ast.specs.declared.tree.expressions.Link.{Link}
use Rattle.vera_ast.specs.declared.tree.expressions.Postfix.{Postfix}
use Rattle.vera_ast.specs.declared.tree.expressions.Suffix.{Suffix}
use Rattle.vera_ast.specs.declared.tree.expressions.Unary.{Unary}
use Rattle.not_built.proofs.Firsts.{first_append}
use Rattle.not_built.specs.Lines.{first}
use Rattle.not_built.specs.Expressions.{is_built, operators_built, is_name, is_member, nothing_follows, member_at_most, is_variable, expr_lines, operand_lines, form_lines}
use Rattle.not_built.specs.Passing.{first_in, link_lines, all_built, is_empty, is_plain, names_variable}

-- ---- rows of parts

operators_row : (ls : List Link) → operators_built (links ls) ≡ all_built ls
unfolding operators_built
operators_row [] = no_links-is (λ (m : Count) (row : Row_of-Link m). operators_built row ≡ true) refl
operators_row (l ∷ ls) = links-is (λ (m : Count) (row : Row_of-Link m). operators_built row ≡ (is_built l.operator && all_built ls)) l ls
    (ap (λ (b : Bool). is_built l.operator && b) (operators_row ls))

operands_row : (ls : List Link) → first (operand_lines (links ls)) ≡ first_in link_lines ls
unfolding operand_lines
operands_row [] = no_links-is (λ (m : Count) (row : Row_of-Link m). first (operand_lines row) ≡ None) refl
operands_row (l ∷ ls) = links-is (λ (m : Count) (row : Row_of-Link m). first (operand_lines row) ≡ option_or (first (expr_lines l.operand)) (first_in link_lines ls)) l ls
    (first_append (expr_lines l.operand) _ ∙ ap (λ (o : Option ℕ). option_or (first (expr_lines l.operand)) o) (operands_row ls))

pub empty_row : (xs : List Suffix) → nothing_follows (suffixes xs) ≡ is_empty xs
empty_row [] = no_suffixes-is (λ (m : Count) (row : Row_of-Suffix m). nothing_follows row ≡ true) refl
empty_row (x ∷ xs) = suffixes-is (λ (m : Count) (row : Row_of-Suffix m). nothing_follows row ≡ false) x xs refl

plain_row : (xs : List Suffix) → member_at_most (suffixes xs) ≡ is_plain xs
plain_row [] = no_suffixes-is (λ (m : Count) (row : Row_of-Suffix m). member_at_most row ≡ true) refl
plain_row (x ∷ xs) = suffixes-is (λ (m : Count) (row : Row_of-Suffix m). member_at_most row ≡ (is_empty xs && is_member x)) x xs
    (ap (λ (b : Bool). b && is_member x) (empty_row xs))

-- ---- one lemma a production

pub conditional_first : (c : Conditional) → first (expr_lines (views.Conditional c)) ≡ Some c.line
unfolding expr_lines
conditional_first c = conditional-is (λ e. first (expr_lines e) ≡ Some c.line) c (λ p q r. refl)

pub unary_first : (u : Unary) → first (expr_lines (views.Unary u)) ≡ Some u.line
unfolding expr_lines
unary_first u = unary-is (λ e. first (expr_lines e) ≡ Some u.line) u (λ p. refl)

-- the first line of a chain whose operators are built or not, by the first lines of its first operand and the others
abbrev pub chained : Bool → ℕ → Option ℕ → Option ℕ → Option ℕ
chained built line one others = if built then option_or one others else Some line

chain_lines : (b c : Bool) (line : ℕ) (xs ys : List ℕ) (others : Option ℕ) → b ≡ c → first ys ≡ others → first (if b then xs ++ ys else line ∷ []) ≡ chained c line (first xs) others
chain_lines true true line xs ys others e f = first_append xs ys ∙ ap (λ (o : Option ℕ). option_or (first xs) o) f
chain_lines false false line xs ys others e f = refl
chain_lines true false line xs ys others e f = cc
chain_lines false true line xs ys others e f = cc

pub chain_first : (line : ℕ) (x : Expr) (ls : List Link) → first (expr_lines (views.Chain line x ls)) ≡ chained (all_built ls) line (first (expr_lines x)) (first_in link_lines ls)
unfolding expr_lines
chain_first line x ls = chain-is (λ e. first (expr_lines e) ≡ chained (all_built ls) line (first (expr_lines x)) (first_in link_lines ls)) line x ls
    (λ p. chain_lines (operators_built (links ls)) (all_built ls) line (expr_lines x) (operand_lines (links ls)) (first_in link_lines ls) (operators_row ls) (operands_row ls))

-- ---- `post`

pub variable_row : (post : Postfix) → is_variable (views.Postfix post) ≡ names_variable post
variable_row post = postfix-is (λ e. is_variable e ≡ names_variable post) post (ap (λ (b : Bool). is_name post.primary.form && b) (plain_row post.suffixes))

abbrev pub post_found : Bool → Bool → ℕ → Option ℕ → Option ℕ
post_found names alone line own = if names then None else (if alone then own else Some line)

post_lines : (a b c d : Bool) (line : ℕ) (own : List ℕ) → a ≡ b → c ≡ d → first (if a then [] else (if c then own else line ∷ [])) ≡ post_found b d line (first own)
post_lines true b c d line own e f = subst (λ (t : Bool). None ≡ post_found t d line (first own)) e refl
post_lines false b true d line own e f = subst (λ (t : Bool). first own ≡ post_found t d line (first own)) e (subst (λ (t : Bool). first own ≡ post_found false t line (first own)) f refl)
post_lines false b false d line own e f = subst (λ (t : Bool). Some line ≡ post_found t d line (first own)) e (subst (λ (t : Bool). Some line ≡ post_found false t line (first own)) f refl)

pub postfix_first : (post : Postfix) → first (expr_lines (views.Postfix post)) ≡ post_found (names_variable post) (is_empty post.suffixes) post.line (first (form_lines post.primary.line post.primary.form))
unfolding expr_lines
postfix_first post = postfix-is (λ e. first (expr_lines e) ≡ post_found (names_variable post) (is_empty post.suffixes) post.line (first (form_lines post.primary.line post.primary.form))) post
    (post_lines (is_name post.primary.form && member_at_most (suffixes post.suffixes)) (names_variable post) (nothing_follows (suffixes post.suffixes)) (is_empty post.suffixes) post.line (form_lines post.primary.line post.primary.form)
    (ap (λ (b : Bool). is_name post.primary.form && b) (plain_row post.suffixes)) (empty_row post.suffixes))

pub parentheses_first : (line : ℕ) (x : Expr) → first (form_lines line (views.Parentheses x)) ≡ first (expr_lines x)
unfolding form_lines
parentheses_first line x = parentheses-is (λ f. first (form_lines line f) ≡ first (expr_lines x)) x (λ p. refl)

pub concatenation_first : (line : ℕ) (xs : List Expr) → first (form_lines line (views.Concatenation xs)) ≡ Some line
unfolding form_lines
concatenation_first line xs = concatenation-is (λ f. first (form_lines line f) ≡ Some line) xs refl

pub replication_first : (line : ℕ) (n : Expr) (xs : List Expr) → first (form_lines line (views.Replication n xs)) ≡ Some line
unfolding form_lines
replication_first line n xs = replication-is (λ f. first (form_lines line f) ≡ Some line) n xs (λ p. refl)
