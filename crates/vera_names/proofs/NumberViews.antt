-- The numbers of constants, as the code reads their trees.
use Rattle.std.proofs.Common.{◌≡◌, ℕ, ℤ, ◌+◌, ◌-◌, ◌*◌, ◌^◌, ◌<◌, Option, Some, None, IfOk, List, [], ◌∷◌, refl, sym, ap, subst, ◌∙◌, arith, lit<, if◌then◌else◌}
use Rattle.std.specs.Prelude.{bit_and, Result, Ok, Err}
use Rattle.std.proofs.lemmas.Nat.{and_block, and_comm, and-not}
use mathlib.Core.Former.{Count}
use Rattle.four_state.specs.Numbers.{number_of}
use Rattle.four_state.specs.Words.{ones_of, unknown_of}
use Rattle.four_state.specs.declared.bit.Bit.{Bit}
use Rattle.four_state.specs.declared.bit.Bit.TheVariants.{Zero, One, X, Z}
use Rattle.vera_ast.proofs.ExprViews.{conditional-is, chain-is, unary-is, postfix-is, parentheses-is, concatenation-is, replication-is, no_links-is, links-is, no_suffixes-is, suffixes-is}
use Rattle.vera_ast.specs.Lines.{line_of}
use Rattle.vera_ast.specs.declared.refusal.FrontError.{FrontError}
use Rattle.vera_ast.specs.declared.refusal.FrontError.TheVariants.{Refused}
use Rattle.vera_ast.specs.declared.refusal.Refusal.{Refusal}
use Rattle.vera_ast.specs.declared.tree.expressions.Expr.{Expr}
use Rattle.vera_ast.specs.declared.tree.expressions.Expr.TheViews as views
use Rattle.vera_ast.specs.declared.tree.expressions.Expr.TheBlock.{Row_of-Link, Row_of-Suffix, hidden-the_row-Link-1 as links, hidden-the_row-Suffix-2 as suffixes}
use Rattle.vera_ast.specs.declared.tree.expressions.Conditional.{Conditional}
use Rattle.vera_ast.specs.declared.tree.expressions.Link.{Link}
use Rattle.vera_ast.specs.declared.tree.expressions.PrimaryForm.{PrimaryForm}
use Rattle.vera_ast.specs.declared.tree.expressions.Postfix.{Postfix}
use Rattle.vera_ast.specs.declared.tree.expressions.Suffix.{Suffix}
use Rattle.vera_ast.specs.declared.tree.expressions.Unary.{Unary}
use Rattle.typing_rules.specs.Answers.{Answers}
use Rattle.typing_rules.specs.Checked.{◌>>=◌, known, refuse}
use Rattle.typing_rules.specs.Constants.{names_known, number_in, number_of_form, number_after as number_after_row, both, combined, ends, in_range, constant}
use Rattle.vera_names.specs.NumberLists.{number_after, number_before}
use Rattle.typing_rules.specs.Scopes.{Scopes}

-- ---- rows of parts

links_row : (scopes : Scopes) (left : Option ℤ) (ls : List Link) → number_after_row scopes left (links ls) ≡ number_after scopes left ls
unfolding number_after_row
links_row scopes left [] = no_links-is (λ (m : Count) (row : Row_of-Link m). number_after_row scopes left row ≡ left) refl
links_row scopes left (l ∷ ls) = links-is (λ (m : Count) (row : Row_of-Link m). number_after_row scopes left row ≡ number_after scopes left (l ∷ ls)) l ls
    (links_row scopes (both left (number_in scopes l.operand) (combined l.operator)) ls)

suffixes_row : (number : Option ℤ) (xs : List Suffix) → (if ends (suffixes xs) then number else None) ≡ number_before number xs
suffixes_row number [] = no_suffixes-is (λ (m : Count) (row : Row_of-Suffix m). (if ends row then number else None) ≡ number) refl
suffixes_row number (x ∷ xs) = suffixes-is (λ (m : Count) (row : Row_of-Suffix m). (if ends row then number else None) ≡ None) x xs refl

-- ---- one lemma a production

pub conditional_number : (scopes : Scopes) (c : Conditional) → number_in scopes (views.Conditional c) ≡ None
unfolding number_in
conditional_number scopes c = conditional-is (λ e. number_in scopes e ≡ None) c (λ p q r. refl)

pub chain_number : (scopes : Scopes) (line : ℕ) (first : Expr) (ls : List Link) → number_in scopes (views.Chain line first ls) ≡ number_after scopes (number_in scopes first) ls
unfolding number_in
chain_number scopes line first ls = chain-is (λ e. number_in scopes e ≡ number_after scopes (number_in scopes first) ls) line first ls (λ p. links_row scopes (number_in scopes first) ls)

pub unary_number : (scopes : Scopes) (u : Unary) → number_in scopes (views.Unary u) ≡ None
unfolding number_in
unary_number scopes u = unary-is (λ e. number_in scopes e ≡ None) u (λ p. refl)

pub postfix_number : (scopes : Scopes) (x : Postfix) → number_in scopes (views.Postfix x) ≡ number_before (number_of_form scopes x.primary.form) x.suffixes
unfolding number_in
postfix_number scopes x = postfix-is (λ e. number_in scopes e ≡ number_before (number_of_form scopes x.primary.form) x.suffixes) x (suffixes_row (number_of_form scopes x.primary.form) x.suffixes)

pub parentheses_number : (scopes : Scopes) (x : Expr) → number_of_form scopes (views.Parentheses x) ≡ number_in scopes x
unfolding number_of_form
parentheses_number scopes x = parentheses-is (λ f. number_of_form scopes f ≡ number_in scopes x) x (λ p. refl)

pub concatenation_number : (scopes : Scopes) (xs : List Expr) → number_of_form scopes (views.Concatenation xs) ≡ None
unfolding number_of_form
concatenation_number scopes xs = concatenation-is (λ f. number_of_form scopes f ≡ None) xs refl

pub replication_number : (scopes : Scopes) (n : Expr) (xs : List Expr) → number_of_form scopes (views.Replication n xs) ≡ None
unfolding number_of_form
replication_number scopes n xs = replication-is (λ f. number_of_form scopes f ≡ None) n xs (λ p. refl)

-- ---- the number of a vector's known bits

both_digits : (u o r s : ℕ) → r < 2 → s < 2 → bit_and (r + 2 * u) (s + 2 * o) ≡ 2 * bit_and u o + bit_and r s
both_digits u o r s p q =
    let a : r + 2 * u ≡ u * 2 ^ 1 + r = omega arith in
    let b : s + 2 * o ≡ o * 2 ^ 1 + s = omega arith in
    (λ j. bit_and (a j) (b j)) ∙ and_block 1 u o r s p q ∙ omega arith

known_bits : (bits : List Bit) → number_of bits + bit_and (unknown_of bits) (ones_of bits) ≡ ones_of bits
unfolding number_of ones_of unknown_of
known_bits [] = refl
known_bits (Zero ∷ bits) = rw (both_digits (unknown_of bits) (ones_of bits) 0 0 (lit< tt) (lit< tt)) (omega (arith, known_bits bits))
known_bits (One ∷ bits) = rw (both_digits (unknown_of bits) (ones_of bits) 0 1 (lit< tt) (lit< tt)) (omega (arith, known_bits bits))
known_bits (X ∷ bits) = rw (both_digits (unknown_of bits) (ones_of bits) 1 0 (lit< tt) (lit< tt)) (omega (arith, known_bits bits))
known_bits (Z ∷ bits) = rw (both_digits (unknown_of bits) (ones_of bits) 1 1 (lit< tt) (lit< tt)) (omega (arith, known_bits bits))

pub known_number : (bits : List Bit) (ones unknown : ℕ) → ones < 2 ^ 128 → unknown < 2 ^ 128 → ones ≡ ones_of bits → unknown ≡ unknown_of bits
    → bit_and ones (2 ^ 128 - 1 - unknown) ≡ number_of bits
known_number bits ones unknown p q e f =
    let kept : number_of bits + bit_and unknown ones ≡ ones = rw (e, f) (known_bits bits) in
    and_comm ones (2 ^ 128 - 1 - unknown) ∙ omega (arith, and-not 128 unknown ones q p, kept)

-- ---- as the code's arms have them

pub parentheses_gives : {E : Type 0} (scopes : Scopes) (form : PrimaryForm) (x y : Expr) (r : Result (Option ℤ) E) → form ≡ views.Parentheses x → y ≡ x
    → IfOk r (λ number. number ≡ number_in scopes y) → IfOk r (λ number. number ≡ number_of_form scopes form)
parentheses_gives scopes form x y r is same h =
    let e : number_in scopes y ≡ number_of_form scopes form =
    ap (λ (z : Expr). number_in scopes z) same ∙ sym (ap (λ (f : PrimaryForm). number_of_form scopes f) is ∙ parentheses_number scopes x) in
    subst (λ (n : Option ℤ). IfOk r (λ number. number ≡ n)) e h

-- ---- the value of a constant

pub refused_names : (scopes : Scopes) (x : Expr) (r : Refusal) → Err r ≡ names_known scopes x → constant scopes x ≡ Err r
unfolding constant ◌>>=◌
refused_names scopes x r e = rw (sym e) refl

pub value_found : (scopes : Scopes) (x : Expr) (u : Unit {0}) (n : ℕ) → Ok u ≡ names_known scopes x → Some n ≡ in_range (number_in scopes x) → constant scopes x ≡ Ok n
unfolding constant ◌>>=◌ known
value_found scopes x u n e f = rw (sym e, sym f) refl

no_value : (scopes : Scopes) (x : Expr) (u : Unit {0}) (line : ℕ) → Ok u ≡ names_known scopes x → None ≡ in_range (number_in scopes x) → line ≡ line_of x → constant scopes x ≡ Err (record { code = 32; line = line })
unfolding constant ◌>>=◌ known refuse
no_value scopes x u line e f l = rw (sym e, sym f, l) refl

pub no_value_told : (scopes : Scopes) (x : Expr) (u : Unit {0}) (line : ℕ) (e : FrontError) → Ok u ≡ names_known scopes x → None ≡ in_range (number_in scopes x) → line ≡ line_of x
    → e ≡ Refused (record { code = 32; line = line }) → Answers (constant scopes x) (Err e)
no_value_told scopes x u line e found none l told =
    subst (λ (f : FrontError). Answers (constant scopes x) (Err f)) (sym told) (no_value scopes x u line found none l)
