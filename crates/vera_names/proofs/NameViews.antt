-- The names of constants, as the code reads their trees.
use Rattle.std.proofs.Common.{◌≡◌, ℕ, false, Some, None, List, [], ◌∷◌, refl, sym, ap, ◌∙◌}
use Rattle.std.specs.Prelude.{Ok, Err}
use mathlib.Core.Former.{Count}
use Rattle.vera_ast.proofs.ExprViews.{conditional-is, chain-is, unary-is, postfix-is, parentheses-is, concatenation-is, replication-is, index-is, bits-is, call-is, no_links-is, links-is, no_suffixes-is, suffixes-is, no_exprs-is, exprs-is}
use Rattle.vera_ast.specs.declared.tree.expressions.Expr.{Expr, Row_of-Expr}
use Rattle.vera_ast.specs.declared.tree.expressions.Expr.TheViews as views
use Rattle.vera_ast.specs.declared.tree.expressions.Expr.TheBlock.{Row_of-Link, Row_of-Suffix, hidden-the_row-Link-1 as links, hidden-the_row-Suffix-2 as suffixes, hidden-the_row-Expr-3 as exprs}
use Rattle.vera_ast.specs.declared.tree.expressions.Conditional.{Conditional}
use Rattle.vera_ast.specs.declared.tree.expressions.Link.{Link}
use Rattle.vera_ast.specs.declared.tree.expressions.PrimaryForm.{PrimaryForm}
use Rattle.vera_ast.specs.declared.tree.expressions.Postfix.{Postfix}
use Rattle.vera_ast.specs.declared.tree.expressions.Suffix.{Suffix}
use Rattle.vera_ast.specs.declared.tree.expressions.Unary.{Unary}
use Rattle.typing_rules.specs.Checked.{Checked, ◌>>=◌, ◌>>◌, known, refuse}
use Rattle.typing_rules.specs.Constants.{name_known, names_known, all_names_known, link_names_known, form_names_known, suffix_names_known, one_suffix_known}
use Rattle.vera_names.specs.NameLists.{in_turn, exprs_known, links_known, suffixes_known}
use Rattle.typing_rules.specs.Scopes.{Scopes, Name, meaning_of}
use Rattle.typing_rules.specs.Words.{is_word}
use Rattle.typing_rules.specs.declared.names.Meaning.{Meaning}

-- ---- one part after the other

two : (p q : Checked (Unit {0})) → (p >> q) ≡ in_turn p q
unfolding ◌>>=◌
two (Ok u) q = refl
two (Err r) q = refl

three : (p q r : Checked (Unit {0})) → (p >> q >> r) ≡ in_turn p (in_turn q r)
unfolding ◌>>=◌
three (Ok u) (Ok v) r = refl
three (Ok u) (Err e) r = refl
three (Err e) q r = refl

-- ---- one name

pub name_found : (scopes : Scopes) (line : ℕ) (name : Name) (m : Meaning) → is_word name ≡ false → meaning_of scopes name ≡ Some m → Ok tt ≡ name_known scopes line name
unfolding name_known ◌>>=◌ known
name_found scopes line name m e s = rw (e, s) refl

pub name_missing : (scopes : Scopes) (line : ℕ) (name : Name) → is_word name ≡ false → meaning_of scopes name ≡ None → Err (record { code = 30; line = line }) ≡ name_known scopes line name
unfolding name_known ◌>>=◌ known refuse
name_missing scopes line name e s = rw (e, s) refl

-- ---- rows of parts

exprs_row : (scopes : Scopes) (xs : List Expr) → all_names_known scopes (exprs xs) ≡ exprs_known scopes xs
unfolding all_names_known
exprs_row scopes [] = no_exprs-is (λ (m : Count) (row : Row_of-Expr m). all_names_known scopes row ≡ Ok tt) refl
exprs_row scopes (x ∷ xs) = exprs-is (λ (m : Count) (row : Row_of-Expr m). all_names_known scopes row ≡ in_turn (names_known scopes x) (exprs_known scopes xs)) x xs
    (two (names_known scopes x) _ ∙ ap (λ (c : Checked (Unit {0})). in_turn (names_known scopes x) c) (exprs_row scopes xs))

links_row : (scopes : Scopes) (ls : List Link) → link_names_known scopes (links ls) ≡ links_known scopes ls
unfolding link_names_known
links_row scopes [] = no_links-is (λ (m : Count) (row : Row_of-Link m). link_names_known scopes row ≡ Ok tt) refl
links_row scopes (l ∷ ls) = links-is (λ (m : Count) (row : Row_of-Link m). link_names_known scopes row ≡ in_turn (names_known scopes l.operand) (links_known scopes ls)) l ls
    (two (names_known scopes l.operand) _ ∙ ap (λ (c : Checked (Unit {0})). in_turn (names_known scopes l.operand) c) (links_row scopes ls))

suffixes_row : (scopes : Scopes) (xs : List Suffix) → suffix_names_known scopes (suffixes xs) ≡ suffixes_known scopes xs
unfolding suffix_names_known
suffixes_row scopes [] = no_suffixes-is (λ (m : Count) (row : Row_of-Suffix m). suffix_names_known scopes row ≡ Ok tt) refl
suffixes_row scopes (x ∷ xs) = suffixes-is (λ (m : Count) (row : Row_of-Suffix m). suffix_names_known scopes row ≡ in_turn (one_suffix_known scopes x) (suffixes_known scopes xs)) x xs
    (two (one_suffix_known scopes x) _ ∙ ap (λ (c : Checked (Unit {0})). in_turn (one_suffix_known scopes x) c) (suffixes_row scopes xs))

-- ---- one lemma a production

pub conditional_names : (scopes : Scopes) (c : Conditional) → names_known scopes (views.Conditional c) ≡ in_turn (names_known scopes c.condition) (in_turn (names_known scopes c.when_true) (names_known scopes c.when_false))
unfolding names_known
conditional_names scopes c = conditional-is (λ e. names_known scopes e ≡ in_turn (names_known scopes c.condition) (in_turn (names_known scopes c.when_true) (names_known scopes c.when_false))) c (λ p q r. three (names_known scopes c.condition) (names_known scopes c.when_true) (names_known scopes c.when_false))

pub chain_names : (scopes : Scopes) (line : ℕ) (first : Expr) (ls : List Link) → names_known scopes (views.Chain line first ls) ≡ in_turn (names_known scopes first) (links_known scopes ls)
unfolding names_known
chain_names scopes line first ls = chain-is (λ e. names_known scopes e ≡ in_turn (names_known scopes first) (links_known scopes ls)) line first ls
    (λ p. two (names_known scopes first) _ ∙ ap (λ (c : Checked (Unit {0})). in_turn (names_known scopes first) c) (links_row scopes ls))

pub unary_names : (scopes : Scopes) (u : Unary) → names_known scopes (views.Unary u) ≡ names_known scopes u.operand
unfolding names_known
unary_names scopes u = unary-is (λ e. names_known scopes e ≡ names_known scopes u.operand) u (λ p. refl)

pub postfix_names : (scopes : Scopes) (x : Postfix) → names_known scopes (views.Postfix x) ≡ in_turn (form_names_known scopes x.primary.line x.primary.form) (suffixes_known scopes x.suffixes)
unfolding names_known
postfix_names scopes x = postfix-is (λ e. names_known scopes e ≡ in_turn (form_names_known scopes x.primary.line x.primary.form) (suffixes_known scopes x.suffixes)) x
    (two (form_names_known scopes x.primary.line x.primary.form) _ ∙ ap (λ (c : Checked (Unit {0})). in_turn (form_names_known scopes x.primary.line x.primary.form) c) (suffixes_row scopes x.suffixes))

pub parentheses_names : (scopes : Scopes) (line : ℕ) (x : Expr) → form_names_known scopes line (views.Parentheses x) ≡ names_known scopes x
unfolding form_names_known
parentheses_names scopes line x = parentheses-is (λ f. form_names_known scopes line f ≡ names_known scopes x) x (λ p. refl)

pub concatenation_names : (scopes : Scopes) (line : ℕ) (xs : List Expr) → form_names_known scopes line (views.Concatenation xs) ≡ exprs_known scopes xs
unfolding form_names_known
concatenation_names scopes line xs = concatenation-is (λ f. form_names_known scopes line f ≡ exprs_known scopes xs) xs (exprs_row scopes xs)

pub replication_names : (scopes : Scopes) (line : ℕ) (n : Expr) (xs : List Expr) → form_names_known scopes line (views.Replication n xs) ≡ in_turn (names_known scopes n) (exprs_known scopes xs)
unfolding form_names_known
replication_names scopes line n xs = replication-is (λ f. form_names_known scopes line f ≡ in_turn (names_known scopes n) (exprs_known scopes xs)) n xs
    (λ p. two (names_known scopes n) _ ∙ ap (λ (c : Checked (Unit {0})). in_turn (names_known scopes n) c) (exprs_row scopes xs))

pub index_names : (scopes : Scopes) (x : Expr) → one_suffix_known scopes (views.Index x) ≡ names_known scopes x
unfolding one_suffix_known
index_names scopes x = index-is (λ s. one_suffix_known scopes s ≡ names_known scopes x) x (λ p. refl)

pub bits_names : (scopes : Scopes) (x y : Expr) → one_suffix_known scopes (views.Bits x y) ≡ in_turn (names_known scopes x) (names_known scopes y)
unfolding one_suffix_known
bits_names scopes x y = bits-is (λ s. one_suffix_known scopes s ≡ in_turn (names_known scopes x) (names_known scopes y)) x y (λ p q. two (names_known scopes x) (names_known scopes y))

pub call_names : (scopes : Scopes) (xs : List Expr) → one_suffix_known scopes (views.Call xs) ≡ exprs_known scopes xs
unfolding one_suffix_known
call_names scopes xs = call-is (λ s. one_suffix_known scopes s ≡ exprs_known scopes xs) xs (exprs_row scopes xs)

-- ---- as the code's arms have them

pub concatenation_gives : (scopes : Scopes) (line : ℕ) (form : PrimaryForm) (xs ys : List Expr) (r : Checked (Unit {0})) → form ≡ views.Concatenation xs → ys ≡ xs → r ≡ exprs_known scopes ys → r ≡ form_names_known scopes line form
concatenation_gives scopes line form xs ys r is same h =
    h ∙ ap (λ (zs : List Expr). exprs_known scopes zs) same ∙ sym (ap (λ (f : PrimaryForm). form_names_known scopes line f) is ∙ concatenation_names scopes line xs)

after : (p : Checked (Unit {0})) (u : Unit {0}) (q : Checked (Unit {0})) → p ≡ Ok u → q ≡ in_turn p q
after p u q e = sym (ap (λ (c : Checked (Unit {0})). in_turn c q) e)

pub replication_gives : (scopes : Scopes) (line : ℕ) (form : PrimaryForm) (n m : Expr) (xs ys : List Expr) (p r : Checked (Unit {0})) (u : Unit {0}) → form ≡ views.Replication n xs → m ≡ n → p ≡ names_known scopes m → p ≡ Ok u
    → ys ≡ xs → r ≡ exprs_known scopes ys → r ≡ form_names_known scopes line form
replication_gives scopes line form n m xs ys p r u is number e ok same h =
    h ∙ ap (λ (zs : List Expr). exprs_known scopes zs) same
    ∙ after (names_known scopes n) u (exprs_known scopes xs) (sym (e ∙ ap (λ (x : Expr). names_known scopes x) number) ∙ ok)
    ∙ sym (ap (λ (f : PrimaryForm). form_names_known scopes line f) is ∙ replication_names scopes line n xs)

pub bits_gives : (scopes : Scopes) (suffix : Suffix) (x y a b : Expr) (p r : Checked (Unit {0})) (u : Unit {0}) → suffix ≡ views.Bits x y → a ≡ x → p ≡ names_known scopes a → p ≡ Ok u
    → b ≡ y → r ≡ names_known scopes b → r ≡ one_suffix_known scopes suffix
bits_gives scopes suffix x y a b p r u is high e ok low h =
    h ∙ ap (λ (z : Expr). names_known scopes z) low
    ∙ after (names_known scopes x) u (names_known scopes y) (sym (e ∙ ap (λ (z : Expr). names_known scopes z) high) ∙ ok)
    ∙ sym (ap (λ (s : Suffix). one_suffix_known scopes s) is ∙ bits_names scopes x y)
