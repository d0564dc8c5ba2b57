-- The walk over expressions, as the code reads their trees.
use Rattle.std.proofs.Common.{◌≡◌, ℕ, Bool, false, List, [], ◌∷◌, refl, ap, ◌∙◌}
use Rattle.std.specs.Prelude.{Ok, Err}
use mathlib.Core.Former.{Count}
use Rattle.vera_ast.proofs.ExprViews.{conditional-is, chain-is, unary-is, postfix-is, parentheses-is, concatenation-is, replication-is, index-is, bits-is, call-is, no_links-is, links-is, no_suffixes-is, suffixes-is, no_exprs-is, exprs-is}
use Rattle.vera_ast.specs.Lines.{line_of}
use Rattle.vera_ast.specs.declared.tree.expressions.Expr.{Expr, Row_of-Expr}
use Rattle.vera_ast.specs.declared.tree.expressions.Expr.TheViews as views
use Rattle.vera_ast.specs.declared.tree.expressions.Expr.TheBlock.{Row_of-Link, Row_of-Suffix, hidden-the_row-Link-1 as links, hidden-the_row-Suffix-2 as suffixes, hidden-the_row-Expr-3 as exprs}
use Rattle.vera_ast.specs.declared.tree.expressions.Conditional.{Conditional}
use Rattle.vera_ast.specs.declared.tree.expressions.Link.{Link as TreeLink}
use Rattle.vera_ast.specs.declared.tree.expressions.PrimaryForm.TheVariants as form
use Rattle.vera_ast.specs.declared.tree.expressions.Postfix.{Postfix}
use Rattle.vera_ast.specs.declared.tree.expressions.Suffix.{Suffix}
use Rattle.vera_ast.specs.declared.tree.expressions.Suffix.TheVariants as suffix
use Rattle.vera_ast.specs.declared.tree.expressions.Unary.{Unary}
use Rattle.vera_ast.specs.declared.tree.expressions.Number.{Number}
use Rattle.vera_ast.specs.declared.typed.expr.TypedExpr.TheVariants as e
use Rattle.vera_ast.specs.declared.typed.types.ValueType.TheVariants as t
use Rattle.typing_rules.specs.Calls.{call, wanted, modes_taken}
use Rattle.typing_rules.specs.Checked.{Checked, ◌>>=◌, refuse, wrong_type}
use Rattle.typing_rules.specs.Constants.{constant}
use Rattle.typing_rules.specs.Expressions.{walk, walk_form, walk_suffix, walk_suffixes, walk_links, walk_values, walk_arguments, expr, stand_before, begins_with_call, part_stand, argument_stand, is_call}
use Rattle.typing_rules.specs.Heads.{argument, typed}
use Rattle.typing_rules.specs.Posts.{name, member, bits}
use Rattle.typing_rules.specs.Productions.{conditional, Link, chain, concatenation, replication}
use Rattle.typing_rules.specs.Signatures.{Wants, next_want, after_next}
use Rattle.vera_exprs.specs.WalkLists.{before, links_walked, exprs_walked, stand_of, suffixes_walked, argument_walked, arguments_walked, calls_first, choices_form, conditional_form, chain_form, unary_form, post_form, concatenation_form, replication_form, index_form, range_form, bits_form, call_form}
use Rattle.typing_rules.specs.declared.context.Context.{Context}
use Rattle.typing_rules.specs.declared.head.Argument.{Argument}
use Rattle.typing_rules.specs.declared.head.Head.{Head}
use Rattle.typing_rules.specs.declared.head.Head.TheVariants as h
use Rattle.typing_rules.specs.declared.head.Stand.{Stand}
use Rattle.typing_rules.specs.declared.head.Typed.{Typed}
use Rattle.typing_rules.specs.declared.words.Mode.{Mode}

-- ---- one result, and those behind it

one_before : {A B : Type 0} (m : Checked A) (make : A → B) (rest : Checked (List B)) → (m >>= (λ a. rest >>= (λ all. Ok (make a ∷ all)))) ≡ (m >>= (λ a. before (make a) rest))
unfolding ◌>>=◌
one_before (Ok a) make (Ok all) = refl
one_before (Ok a) make (Err r) = refl
one_before (Err r) make rest = refl

-- two steps, and then one, are three
regrouped : {A B C : Type 0} (m : Checked A) (f : A → Checked B) (g : B → Checked C) → (m >>= (λ a. f a >>= g)) ≡ ((m >>= f) >>= g)
unfolding ◌>>=◌
regrouped (Ok a) f g = refl
regrouped (Err r) f g = refl

then_same : {A B : Type 0} (m : Checked A) (f g : A → Checked B) → ((a : A) → f a ≡ g a) → (m >>= f) ≡ (m >>= g)
unfolding ◌>>=◌
then_same (Ok a) f g h = h a
then_same (Err r) f g h = refl

-- two results at once
abbrev paired : {A B : Type 0} → Checked A → Checked B → Checked (A × B)
paired m n = m >>= (λ a. n >>= (λ b. Ok (a, b)))

in_pairs : {A B C : Type 0} (m : Checked A) (n : Checked B) (f : A → B → Checked C) → (m >>= (λ a. n >>= (λ b. f a b))) ≡ (paired m n >>= (λ p. f p.0 p.1))
unfolding ◌>>=◌
in_pairs (Ok a) (Ok b) f = refl
in_pairs (Ok a) (Err r) f = refl
in_pairs (Err r) n f = refl

-- ---- rows of parts

links_row : (c : Context) (ls : List TreeLink) → walk_links c (links ls) ≡ links_walked c ls
unfolding walk_links links_walked expr
links_row c [] = no_links-is (λ (m : Count) (row : Row_of-Link m). walk_links c row ≡ Ok []) refl
links_row c (l ∷ ls) = links-is (λ (m : Count) (row : Row_of-Link m). walk_links c row ≡ (expr c l.operand >>= (λ operand. before (l.operator, operand) (links_walked c ls)))) l ls
    (one_before (expr c l.operand) (λ operand. (l.operator, operand)) (walk_links c (links ls))
    ∙ ap (λ (rest : Checked (List Link)). expr c l.operand >>= (λ operand. before (l.operator, operand) rest)) (links_row c ls))

exprs_row : (c : Context) (xs : List Expr) → walk_values c (exprs xs) ≡ exprs_walked c xs
unfolding walk_values exprs_walked expr
exprs_row c [] = no_exprs-is (λ (m : Count) (row : Row_of-Expr m). walk_values c row ≡ Ok []) refl
exprs_row c (x ∷ xs) = exprs-is (λ (m : Count) (row : Row_of-Expr m). walk_values c row ≡ (expr c x >>= (λ first. before first (exprs_walked c xs)))) x xs
    (one_before (expr c x) (λ first. first) (walk_values c (exprs xs))
    ∙ ap (λ (rest : Checked (List Typed)). expr c x >>= (λ first. before first rest)) (exprs_row c xs))

stand_row : (s : Stand) (xs : List Suffix) → stand_before s (suffixes xs) ≡ stand_of s xs
stand_row s [] = no_suffixes-is (λ (m : Count) (row : Row_of-Suffix m). stand_before s row ≡ s) refl
stand_row s (x ∷ xs) = suffixes-is (λ (m : Count) (row : Row_of-Suffix m). stand_before s row ≡ part_stand s) x xs refl

call_row : (xs : List Suffix) → begins_with_call (suffixes xs) ≡ calls_first xs
call_row [] = no_suffixes-is (λ (m : Count) (row : Row_of-Suffix m). begins_with_call row ≡ false) refl
call_row (x ∷ xs) = suffixes-is (λ (m : Count) (row : Row_of-Suffix m). begins_with_call row ≡ is_call x) x xs refl

suffixes_row : (c : Context) (s : Stand) (line : ℕ) (head : Head) (xs : List Suffix) → walk_suffixes c s line head (suffixes xs) ≡ suffixes_walked c s line head xs
unfolding walk_suffixes suffixes_walked
suffixes_row c s line head [] = no_suffixes-is (λ (m : Count) (row : Row_of-Suffix m). walk_suffixes c s line head row ≡ Ok head) refl
suffixes_row c s line head (x ∷ xs) = suffixes-is (λ (m : Count) (row : Row_of-Suffix m). walk_suffixes c s line head row ≡ (walk_suffix c (stand_of s xs) line head x >>= (λ next. suffixes_walked c s line next xs))) x xs
    (ap (λ (stands : Stand). walk_suffix c stands line head x >>= (λ next. walk_suffixes c s line next (suffixes xs))) (stand_row s xs)
    ∙ then_same (walk_suffix c (stand_of s xs) line head x) (λ next. walk_suffixes c s line next (suffixes xs)) (λ next. suffixes_walked c s line next xs) (λ next. suffixes_row c s line next xs))

arguments_row : (c : Context) (takes : Mode → Bool) (wants : Wants) (xs : List Expr) → walk_arguments c takes wants (exprs xs) ≡ arguments_walked c takes wants xs
unfolding walk_arguments arguments_walked
arguments_row c takes wants [] = no_exprs-is (λ (m : Count) (row : Row_of-Expr m). walk_arguments c takes wants row ≡ Ok []) refl
arguments_row c takes wants (x ∷ xs) =
    exprs-is (λ (m : Count) (row : Row_of-Expr m). walk_arguments c takes wants row ≡ (argument_walked c takes wants x >>= (λ first. before first (arguments_walked c takes (after_next wants) xs)))) x xs
    (regrouped (walk c (argument_stand (next_want wants)) x) (argument takes (next_want wants) (line_of x)) (λ first. walk_arguments c takes (after_next wants) (exprs xs) >>= (λ rest. Ok (first ∷ rest)))
    ∙ one_before (argument_walked c takes wants x) (λ first. first) (walk_arguments c takes (after_next wants) (exprs xs))
    ∙ ap (λ (rest : Checked (List Argument)). argument_walked c takes wants x >>= (λ first. before first rest)) (arguments_row c takes (after_next wants) xs))

-- ---- one lemma a production

pub conditional_walked : (c : Context) (s : Stand) (n : Conditional) → walk c s (views.Conditional n) ≡ conditional_form c n
unfolding walk expr conditional_form choices_form
conditional_walked c s n = conditional-is (λ e. walk c s e ≡ conditional_form c n) n
    (λ p q r. then_same (expr c n.condition) (λ x. expr c n.when_true >>= (λ y. expr c n.when_false >>= (λ z. conditional n.line x y z))) (λ x. choices_form c n >>= (λ sides. conditional n.line x sides.0 sides.1))
    (λ x. in_pairs (expr c n.when_true) (expr c n.when_false) (λ y z. conditional n.line x y z)))

pub chain_walked : (c : Context) (s : Stand) (line : ℕ) (first : Expr) (ls : List TreeLink) → walk c s (views.Chain line first ls) ≡ (expr c first >>= (λ x. chain_form c line x ls))
unfolding walk expr chain_form
chain_walked c s line first ls = chain-is (λ e. walk c s e ≡ (expr c first >>= (λ x. chain_form c line x ls))) line first ls
    (λ p. ap (λ (rest : Checked (List Link)). expr c first >>= (λ x. rest >>= (λ all. chain c.outline.classes line x all))) (links_row c ls))

pub unary_walked : (c : Context) (s : Stand) (u : Unary) → walk c s (views.Unary u) ≡ unary_form c u
unfolding walk expr unary_form
unary_walked c s u = unary-is (λ e. walk c s e ≡ unary_form c u) u (λ p. refl)

pub post_walked : (c : Context) (s : Stand) (x : Postfix) → walk c s (views.Postfix x) ≡ post_form c s x
unfolding walk post_form
post_walked c s x = postfix-is (λ e. walk c s e ≡ post_form c s x) x
    (ap (λ (b : Bool). walk_form c b x.line x.primary.form >>= (λ first. walk_suffixes c s x.line first (suffixes x.suffixes))) (call_row x.suffixes)
    ∙ then_same (walk_form c (calls_first x.suffixes) x.line x.primary.form) (λ first. walk_suffixes c s x.line first (suffixes x.suffixes)) (λ first. suffixes_walked c s x.line first x.suffixes) (λ first. suffixes_row c s x.line first x.suffixes))

-- ---- one lemma a form of the first part

pub number_walked : (c : Context) (is_callee : Bool) (line : ℕ) (n : Number) → walk_form c is_callee line (form.Number n) ≡ Ok (h.Number n)
unfolding walk_form
number_walked c is_callee line n = refl

pub str_walked : (c : Context) (is_callee : Bool) (line : ℕ) (text : List ℕ) → walk_form c is_callee line (form.Str text) ≡ Ok (h.Str text)
unfolding walk_form
str_walked c is_callee line text = refl

pub name_walked : (c : Context) (is_callee : Bool) (line : ℕ) (word : List ℕ) → walk_form c is_callee line (form.Name word) ≡ name c is_callee line word
unfolding walk_form
name_walked c is_callee line word = refl

pub null_walked : (c : Context) (is_callee : Bool) (line : ℕ) → walk_form c is_callee line form.Null ≡ Ok (h.Value (typed e.Null t.Null))
unfolding walk_form
null_walked c is_callee line = refl

pub this_walked : (c : Context) (is_callee : Bool) (line : ℕ) → walk_form c is_callee line form.This ≡ refuse wrong_type line
unfolding walk_form
this_walked c is_callee line = refl

pub super_walked : (c : Context) (is_callee : Bool) (line : ℕ) → walk_form c is_callee line form.Super ≡ refuse wrong_type line
unfolding walk_form
super_walked c is_callee line = refl

pub new_walked : (c : Context) (is_callee : Bool) (line : ℕ) → walk_form c is_callee line form.New ≡ Ok h.New
unfolding walk_form
new_walked c is_callee line = refl

pub parentheses_walked : (c : Context) (is_callee : Bool) (line : ℕ) (x : Expr) → walk_form c is_callee line (views.Parentheses x) ≡ (expr c x >>= (λ inner. Ok (h.Value inner)))
unfolding walk_form expr
parentheses_walked c is_callee line x = parentheses-is (λ f. walk_form c is_callee line f ≡ (expr c x >>= (λ inner. Ok (h.Value inner)))) x (λ p. refl)

pub concatenation_walked : (c : Context) (is_callee : Bool) (line : ℕ) (xs : List Expr) → walk_form c is_callee line (views.Concatenation xs) ≡ concatenation_form c line xs
unfolding walk_form concatenation_form
concatenation_walked c is_callee line xs = concatenation-is (λ f. walk_form c is_callee line f ≡ concatenation_form c line xs) xs
    (ap (λ (m : Checked (List Typed)). m >>= (λ all. concatenation line all)) (exprs_row c xs))

pub replication_walked : (c : Context) (is_callee : Bool) (line : ℕ) (n : Expr) (xs : List Expr) → walk_form c is_callee line (views.Replication n xs) ≡ (constant c.scopes n >>= (λ count. replication_form c line count xs))
unfolding walk_form replication_form
replication_walked c is_callee line n xs = replication-is (λ f. walk_form c is_callee line f ≡ (constant c.scopes n >>= (λ count. replication_form c line count xs))) n xs
    (λ p. ap (λ (m : Checked (List Typed)). constant c.scopes n >>= (λ count. m >>= (λ all. replication line count all))) (exprs_row c xs))

-- ---- one lemma a suffix

pub member_walked : (c : Context) (s : Stand) (line : ℕ) (head : Head) (word : List ℕ) → walk_suffix c s line head (suffix.Member word) ≡ member c line head word
unfolding walk_suffix
member_walked c s line head word = refl

pub made_walked : (c : Context) (s : Stand) (line : ℕ) (head : Head) → walk_suffix c s line head suffix.New ≡ refuse wrong_type line
unfolding walk_suffix
made_walked c s line head = refl

pub index_walked : (c : Context) (s : Stand) (line : ℕ) (head : Head) (x : Expr) → walk_suffix c s line head (views.Index x) ≡ index_form c s line head x
unfolding walk_suffix expr index_form
index_walked c s line head x = index-is (λ f. walk_suffix c s line head f ≡ index_form c s line head x) x (λ p. refl)

pub bits_walked : (c : Context) (s : Stand) (line : ℕ) (head : Head) (x y : Expr) → walk_suffix c s line head (views.Bits x y) ≡ bits_form c s line head x y
unfolding walk_suffix bits_form range_form
bits_walked c s line head x y = bits-is (λ f. walk_suffix c s line head f ≡ bits_form c s line head x y) x y
    (λ p q. in_pairs (constant c.scopes x) (constant c.scopes y) (λ high low. bits s line head high low))

pub call_walked : (c : Context) (s : Stand) (line : ℕ) (head : Head) (xs : List Expr) → walk_suffix c s line head (views.Call xs) ≡ call_form c s line head xs
unfolding walk_suffix call_form
call_walked c s line head xs = call-is (λ f. walk_suffix c s line head f ≡ call_form c s line head xs) xs
    (ap (λ (m : Checked (List Argument)). m >>= (λ arguments. call c.outline c.body s line head arguments)) (arguments_row c (modes_taken head) (wanted c.outline head) xs))
