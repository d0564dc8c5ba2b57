-- The same of the whole walk over expressions.
use Rattle.std.proofs.Common.{refl, ℕ, Bool}
use Rattle.vera_ast.specs.declared.tree.expressions.Expr.{Expr, end_of-Expr, more_of-Expr}
use Rattle.vera_ast.specs.declared.tree.expressions.Expr.TheVariants.{Chain', Conditional', Unary', Postfix'}
use Rattle.vera_ast.specs.declared.tree.expressions.Expr.TheBlock.{Parentheses', Concatenation', Replication', Index', Bits', Call', Row_of-Suffix, end_of-Suffix, more_of-Suffix}
use Rattle.vera_ast.specs.declared.tree.expressions.PrimaryForm.{PrimaryForm}
use Rattle.vera_ast.specs.declared.tree.expressions.PrimaryForm.TheVariants as form
use Rattle.vera_ast.specs.declared.tree.expressions.Suffix.{Suffix}
use Rattle.vera_ast.specs.declared.tree.expressions.Suffix.TheVariants as suffix
use Rattle.typing_rules.proofs.CallsSound.{call_sound}
use Rattle.typing_rules.proofs.Sound.{HeadSound, with, from, value_sound, conditional_sound, chain_sound, unary_sound, concatenation_sound, replication_sound, name_sound, member_sound, index_sound, bits_sound}
use Rattle.typing_rules.specs.Checked.{Checked, refuse}
use Rattle.typing_rules.specs.Expressions.{walk, walk_form, walk_suffix, walk_suffixes, walk_links, walk_values, walk_arguments, read_as, expr}
use Rattle.typing_rules.specs.Laws.{Holds, HasItsType}
use Rattle.typing_rules.specs.declared.context.Context.{Context}
use Rattle.typing_rules.specs.declared.head.Head.{Head}
use Rattle.typing_rules.specs.declared.head.Stand.{Stand}
use Rattle.typing_rules.specs.declared.head.Stand.TheVariants as stand

read_sound : (line : ℕ) (m : Checked Head) → Holds HeadSound m → Holds HasItsType (read_as line m)
unfolding read_as
read_sound line m s = from HeadSound HasItsType m _ s λ head k. value_sound line head k

suffix_sound : (c : Context) (s : Stand) (line : ℕ) (head : Head) (x : Suffix) → Holds HeadSound (walk_suffix c s line head x)
unfolding walk walk_form walk_suffix walk_suffixes walk_links walk_values walk_arguments refuse
suffix_sound c s line head (suffix.Member word) = member_sound c line head word
suffix_sound c s line head suffix.New = tt
suffix_sound c s line head (Index' p (more_of-Expr x end_of-Expr)) = with HeadSound _ _ λ i. index_sound s line head i
suffix_sound c s line head (Bits' p (more_of-Expr x end_of-Expr) q (more_of-Expr y end_of-Expr)) = with HeadSound _ _ λ high. with HeadSound _ _ λ low. bits_sound s line head high low
suffix_sound c s line head (Call' p xs) = with HeadSound _ _ λ arguments. call_sound _ _ s line head arguments

suffixes_sound : {m : _} (c : Context) (s : Stand) (line : ℕ) (head : Head) (row : Row_of-Suffix m) → HeadSound head → Holds HeadSound (walk_suffixes c s line head row)
unfolding walk walk_form walk_suffix walk_suffixes walk_links walk_values walk_arguments
suffixes_sound c s line head end_of-Suffix k = k
suffixes_sound c s line head (more_of-Suffix x xs) k = from HeadSound HeadSound _ _ (suffix_sound c _ line head x) λ next n. suffixes_sound c s line next xs n

mutual
  unfolding walk walk_form walk_suffix walk_suffixes walk_links walk_values walk_arguments refuse

  pub walk_sound : (c : Context) (s : Stand) (x : Expr) → Holds HeadSound (walk c s x)
  walk_sound c s (Conditional' line p (more_of-Expr x end_of-Expr) q (more_of-Expr y end_of-Expr) r (more_of-Expr z end_of-Expr)) =
      with HeadSound _ _ λ a. with HeadSound _ _ λ b. with HeadSound _ _ λ d. conditional_sound line a b d
  walk_sound c s (Chain' line p (more_of-Expr x end_of-Expr) q links) =
      from HasItsType HeadSound _ _ (read_sound _ _ (walk_sound c stand.Inside x)) λ first k. with HeadSound _ _ λ rest. chain_sound _ line first rest k
  walk_sound c s (Unary' line operator p (more_of-Expr x end_of-Expr)) =
      from HasItsType HeadSound _ _ (read_sound _ _ (walk_sound c stand.Inside x)) λ operand k. unary_sound line operator operand k
  walk_sound c s (Postfix' line primary_line f p suffixes) =
      from HeadSound HeadSound _ _ (form_sound c _ line f) λ first k. suffixes_sound c s line first suffixes k

  form_sound : (c : Context) (is_callee : Bool) (line : ℕ) (f : PrimaryForm) → Holds HeadSound (walk_form c is_callee line f)
  form_sound c is_callee line (form.Number n) = tt
  form_sound c is_callee line (form.Str s) = tt
  form_sound c is_callee line (form.Name word) = name_sound c is_callee line word
  form_sound c is_callee line form.Null = refl
  form_sound c is_callee line form.This = tt
  form_sound c is_callee line form.Super = tt
  form_sound c is_callee line form.New = tt
  form_sound c is_callee line (Parentheses' p (more_of-Expr x end_of-Expr)) =
      from HasItsType HeadSound _ _ (read_sound _ _ (walk_sound c stand.Inside x)) λ inner k. k
  form_sound c is_callee line (Concatenation' p parts) = with HeadSound _ _ λ all. concatenation_sound line all
  form_sound c is_callee line (Replication' p (more_of-Expr n end_of-Expr) q parts) = with HeadSound _ _ λ count. with HeadSound _ _ λ all. replication_sound line count all

pub expr_sound : (c : Context) (x : Expr) → Holds HasItsType (expr c x)
unfolding expr
expr_sound c x = read_sound _ _ (walk_sound c stand.Inside x)
