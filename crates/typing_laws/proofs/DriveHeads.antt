-- A signal that the walk over an expression gives is a signal of the tree.
use Rattle.std.proofs.Common.{ℕ, Bool, true, false, if◌then◌else◌, List, [], ◌∷◌, Option, Some, None, Ok}
use Rattle.vera_ast.specs.Signals.{NamedSignal}
use Rattle.vera_ast.specs.declared.tree.expressions.Expr.{Expr, end_of-Expr, more_of-Expr}
use Rattle.vera_ast.specs.declared.tree.expressions.Expr.TheVariants.{Chain', Conditional', Unary', Postfix'}
use Rattle.vera_ast.specs.declared.tree.expressions.Expr.TheBlock.{Parentheses', Concatenation', Replication', Index', Bits', Call', Row_of-Suffix, end_of-Suffix, more_of-Suffix}
use Rattle.vera_ast.specs.declared.tree.expressions.PrimaryForm.{PrimaryForm}
use Rattle.vera_ast.specs.declared.tree.expressions.PrimaryForm.TheVariants as form
use Rattle.vera_ast.specs.declared.tree.expressions.Suffix.{Suffix}
use Rattle.vera_ast.specs.declared.tree.expressions.Suffix.TheVariants as suffix
use Rattle.vera_ast.specs.declared.tree.expressions.UnaryOperator.{UnaryOperator}
use Rattle.vera_ast.specs.declared.typed.expr.TypedExpr.{TypedExpr}
use Rattle.vera_ast.specs.declared.typed.format.FormatPart.{FormatPart}
use Rattle.vera_ast.specs.declared.typed.place.TypedPlace.{TypedPlace}
use Rattle.vera_ast.specs.declared.typed.types.ValueType.{ValueType}
use Rattle.vera_ast.specs.declared.typed.types.VariableType.TheVariants as variable
use Rattle.vera_ast.specs.declared.typed.types.VectorType.{VectorType}
use Rattle.typing_rules.proofs.Sound.{after, with, from}
use Rattle.typing_rules.specs.Calls.{routine_of, number_of_routine, built_by, printing, printing_into, built_in_call, user_head, call_named, call}
use Rattle.typing_rules.specs.Checked.{refuse, wrong_type}
use Rattle.typing_rules.specs.Expressions.{walk, walk_form, walk_suffix, walk_suffixes, walk_links, walk_values, walk_arguments}
use Rattle.typing_rules.specs.Heads.{typed, read, whole_type}
use Rattle.typing_rules.specs.Laws.{Holds}
use Rattle.typing_rules.specs.Operands.{operands_in, places_in, format_in, behind_format}
use Rattle.typing_rules.specs.Posts.{value_cut, cut_head, indexed, index, bits, length_of, named, word_or_name, name, str_in, member, signal_of}
use Rattle.typing_rules.specs.Productions.{Link, chain, unary, chosen_by, conditional, concatenation, replication}
use Rattle.typing_rules.specs.Scopes.{Name}
use Rattle.typing_rules.specs.declared.context.Body.{Body}
use Rattle.typing_rules.specs.declared.context.Context.{Context}
use Rattle.typing_rules.specs.declared.context.Outline.{Outline}
use Rattle.typing_rules.specs.declared.head.Argument.{Argument}
use Rattle.typing_rules.specs.declared.head.Cut.{Cut}
use Rattle.typing_rules.specs.declared.head.Head.{Head}
use Rattle.typing_rules.specs.declared.head.Head.TheVariants as h
use Rattle.typing_rules.specs.declared.head.Stand.{Stand}
use Rattle.typing_rules.specs.declared.head.Typed.{Typed}
use Rattle.typing_rules.specs.declared.head.Whole.{Whole}
use Rattle.typing_rules.specs.declared.names.Meaning.{Meaning}
use Rattle.typing_rules.specs.declared.names.Meaning.TheVariants as means
use Rattle.typing_rules.specs.declared.names.Routine.{Routine}
use Rattle.typing_rules.specs.declared.words.BuiltIn.{BuiltIn}
use Rattle.typing_rules.specs.declared.words.Mode.{Mode}
use Rattle.typing_rules.specs.declared.words.Outcome.{Outcome}
use Rattle.typing_rules.specs.declared.words.Outcome.TheVariants as o
use Rattle.typing_laws.proofs.Binds.{SomeHolds, known_holds}
use Rattle.typing_laws.proofs.SignalPlaces.{IsSignal, IsKnown, AllKnown, signal_known}

abbrev pub HeadNames : List NamedSignal → Head → Type 0
HeadNames signals (h.Signal s d) = IsSignal signals s d
HeadNames signals _ = Unit {0}

module _ (signals : List NamedSignal) where
  abbrev Names : Head → Type 0
  Names = HeadNames signals

  -- ---- productions

  chosen_names : (line : ℕ) (c x y : Typed) (v v' : Option VectorType) → Holds Names (chosen_by line c x y v v')
  unfolding refuse
  chosen_names line c x y (Some v) (Some v') = tt
  chosen_names line c x y (Some v) None = tt
  chosen_names line c x y None v' = tt

  conditional_names : (line : ℕ) (c x y : Typed) → Holds Names (conditional line c x y)
  unfolding conditional
  conditional_names line c x y = after Names _ _ (chosen_names line c x y _ _)

  chain_names : (parents : List (Option ℕ)) (line : ℕ) (first : Typed) (links : List Link) → Holds Names (chain parents line first links)
  unfolding chain
  chain_names parents line first links = with Names _ _ λ all. tt

  unary_names : (line : ℕ) (operator : UnaryOperator) (x : Typed) → Holds Names (unary line operator x)
  unfolding unary
  unary_names line operator x = after Names _ _ tt

  concatenation_names : (line : ℕ) (parts : List Typed) → Holds Names (concatenation line parts)
  unfolding concatenation
  concatenation_names line parts = with Names _ _ λ of. tt

  replication_names : (line count : ℕ) (parts : List Typed) → Holds Names (replication line count parts)
  unfolding replication
  replication_names line count parts = after Names _ _ (with Names _ _ λ of. tt)

  -- ---- posts

  value_cut_names : (line : ℕ) (x : Typed) (c : Cut) → Holds Names (value_cut line x c)
  value_cut_names line x c = after Names _ _ tt

  cut_whole_names : (line : ℕ) (x : Whole) (c : Cut) (b : Bool) → Holds Names (if b then Ok (h.Part x c) else value_cut line (typed (read x) (whole_type x)) c)
  cut_whole_names line x c true = tt
  cut_whole_names line x c false = value_cut_names line _ c

  cut_head_names : (s : Stand) (line : ℕ) (head : Head) (c : Cut) → Holds Names (cut_head s line head c)
  unfolding cut_head
  cut_head_names s line (h.Whole x) c = cut_whole_names line x c _
  cut_head_names s line (h.Signal signal d) c = tt
  cut_head_names s line head c = with Names _ _ λ x. value_cut_names line x c

  indexed_names : (s : Stand) (line : ℕ) (head : Head) (i : TypedExpr) → Holds Names (indexed s line head i)
  indexed_names s line (h.Array a l of) i = tt
  indexed_names s line head i = cut_head_names s line head _

  index_names : (s : Stand) (line : ℕ) (head : Head) (i : Typed) → Holds Names (index s line head i)
  unfolding index
  index_names s line head i = after Names _ _ (indexed_names s line head i.expr)

  bits_names : (s : Stand) (line : ℕ) (head : Head) (high low : ℕ) → Holds Names (bits s line head high low)
  unfolding bits
  bits_names s line head high low = after Names _ _ (after Names _ _ (with Names _ _ λ width. cut_head_names s line head _))

  length_names : (line : ℕ) (word : Name) (found : Option TypedExpr) → Holds Names (length_of line word found)
  unfolding refuse
  length_names line word None = tt
  length_names line word (Some x) = is_len_or_not _
    where
      is_len_or_not : (b : Bool) → Holds Names (if b then Ok (h.Length x) else refuse wrong_type line)
      is_len_or_not true = tt
      is_len_or_not false = tt

  named_names : (meaning : Meaning) → Names (named meaning)
  named_names (means.Variable place (variable.Value of)) = tt
  named_names (means.Variable place (variable.Array of length)) = tt
  named_names (means.Result v) = tt
  named_names (means.EnumName name) = tt
  named_names means.Later = tt
  named_names (means.Enumeration n) = tt
  named_names (means.Class n) = tt
  named_names (means.Group n) = tt
  named_names (means.Interface n) = tt
  named_names (means.Task n) = tt
  named_names (means.Function n) = tt
  named_names means.Program = tt

  word_names : (b : Option BuiltIn) (m : Option Mode) (line : ℕ) (found : Option Meaning) → Holds Names (word_or_name b m line found)
  word_names (Some b) m line found = tt
  word_names None (Some m) line found = tt
  word_names None None line found = with Names _ _ λ meaning. named_names meaning

  name_names : (c : Context) (is_callee : Bool) (line : ℕ) (word : Name) → Holds Names (name c is_callee line word)
  unfolding name
  name_names c is_callee line word = word_names _ _ line _

  member_names : (c : Context) → AllKnown signals c.outline.interfaces → (line : ℕ) (head : Head) (word : Name) → Holds Names (member c line head word)
  unfolding member
  member_names c k line (h.Named (means.Interface n)) word =
      from (IsKnown signals) Names _ _ (known_holds (IsKnown signals) _ line (signal_of c n word) (signal_known signals c n word k)) λ s is. is
  member_names c k line head word = length_names line word (str_in head)

  -- ---- calls

  printing_names : (parts : Option (List FormatPart)) (operands : List TypedExpr) → SomeHolds Names (printing parts operands)
  printing_names None operands = tt
  printing_names (Some parts) operands = tt

  printing_into_names : (targets : List TypedPlace) (parts : Option (List FormatPart)) (operands : List TypedExpr) → SomeHolds Names (printing_into targets parts operands)
  printing_into_names [] parts operands = tt
  printing_into_names (target ∷ []) None operands = tt
  printing_into_names (target ∷ []) (Some parts) operands = tt
  printing_into_names (target ∷ second ∷ more) parts operands = tt

  built_names : (out : Outcome) (xs : List Argument) → SomeHolds Names (built_by out xs)
  built_names (o.Gives function) xs = tt
  built_names (o.MayWait function) xs = tt
  built_names (o.Does task) xs = tt
  built_names o.Prints xs = printing_names (format_in xs) (operands_in (behind_format xs))
  built_names o.PrintsInto xs = printing_into_names (places_in xs) (format_in xs) (operands_in (behind_format xs))

  built_in_names : (owner : Body) (s : Stand) (line : ℕ) (b : BuiltIn) (xs : List Argument) → Holds Names (built_in_call owner s line b xs)
  unfolding built_in_call
  built_in_names owner s line b xs = after Names _ _ (known_holds Names _ line _ (built_names _ xs))

  user_names : (means : Meaning) (n : ℕ) (gives : Option ValueType) (xs : List Argument) → Names (user_head means n gives xs)
  user_names means n None xs = tt
  user_names means n (Some of) xs = tt

  call_named_names : (outline : Outline) (owner : Body) (s : Stand) (line : ℕ) (means : Meaning) (r : Option Routine) (xs : List Argument) → Holds Names (call_named outline owner s line means r xs)
  unfolding refuse
  call_named_names outline owner s line means None xs = tt
  call_named_names outline owner s line means (Some r) xs = after Names _ _ (user_names means (number_of_routine means) r.gives xs)

  call_names : (outline : Outline) (owner : Body) (s : Stand) (line : ℕ) (head : Head) (xs : List Argument) → Holds Names (call outline owner s line head xs)
  unfolding call refuse
  call_names outline owner s line (h.Word b) xs = built_in_names owner s line b xs
  call_names outline owner s line (h.Named means) xs = call_named_names outline owner s line means (routine_of outline means) xs
  call_names outline owner s line (h.Length x) xs = after Names _ _ tt
  call_names outline owner s line h.New xs = tt
  call_names outline owner s line _ xs = tt

  -- ---- the walk

  suffix_names : (c : Context) → AllKnown signals c.outline.interfaces → (s : Stand) (line : ℕ) (head : Head) (x : Suffix) → Holds Names (walk_suffix c s line head x)
  unfolding walk walk_form walk_suffix walk_suffixes walk_links walk_values walk_arguments refuse
  suffix_names c k s line head (suffix.Member word) = member_names c k line head word
  suffix_names c k s line head suffix.New = tt
  suffix_names c k s line head (Index' p (more_of-Expr x end_of-Expr)) = with Names _ _ λ i. index_names s line head i
  suffix_names c k s line head (Bits' p (more_of-Expr x end_of-Expr) q (more_of-Expr y end_of-Expr)) = with Names _ _ λ high. with Names _ _ λ low. bits_names s line head high low
  suffix_names c k s line head (Call' p xs) = with Names _ _ λ arguments. call_names _ _ s line head arguments

  suffixes_names : {m : _} (c : Context) → AllKnown signals c.outline.interfaces → (s : Stand) (line : ℕ) (head : Head) (row : Row_of-Suffix m) → Names head → Holds Names (walk_suffixes c s line head row)
  unfolding walk walk_form walk_suffix walk_suffixes walk_links walk_values walk_arguments
  suffixes_names c k s line head end_of-Suffix n = n
  suffixes_names c k s line head (more_of-Suffix x xs) n = from Names Names _ _ (suffix_names c k _ line head x) λ next n'. suffixes_names c k s line next xs n'

  form_names : (c : Context) (is_callee : Bool) (line : ℕ) (f : PrimaryForm) → Holds Names (walk_form c is_callee line f)
  unfolding walk walk_form walk_suffix walk_suffixes walk_links walk_values walk_arguments refuse
  form_names c is_callee line (form.Number n) = tt
  form_names c is_callee line (form.Str s) = tt
  form_names c is_callee line (form.Name word) = name_names c is_callee line word
  form_names c is_callee line form.Null = tt
  form_names c is_callee line form.This = tt
  form_names c is_callee line form.Super = tt
  form_names c is_callee line form.New = tt
  form_names c is_callee line (Parentheses' p (more_of-Expr x end_of-Expr)) = with Names _ _ λ inner. tt
  form_names c is_callee line (Concatenation' p parts) = with Names _ _ λ all. concatenation_names line all
  form_names c is_callee line (Replication' p (more_of-Expr n end_of-Expr) q parts) = with Names _ _ λ count. with Names _ _ λ all. replication_names line count all

  pub walk_names : (c : Context) → AllKnown signals c.outline.interfaces → (s : Stand) (x : Expr) → Holds Names (walk c s x)
  unfolding walk walk_form walk_suffix walk_suffixes walk_links walk_values walk_arguments
  walk_names c k s (Conditional' line p (more_of-Expr x end_of-Expr) q (more_of-Expr y end_of-Expr) r (more_of-Expr z end_of-Expr)) =
      with Names _ _ λ a. with Names _ _ λ b. with Names _ _ λ d. conditional_names line a b d
  walk_names c k s (Chain' line p (more_of-Expr x end_of-Expr) q links) = with Names _ _ λ first. with Names _ _ λ rest. chain_names _ line first rest
  walk_names c k s (Unary' line operator p (more_of-Expr x end_of-Expr)) = with Names _ _ λ operand. unary_names line operator operand
  walk_names c k s (Postfix' line primary_line f p suffixes) = from Names Names _ _ (form_names c _ line f) λ first n. suffixes_names c k s line first suffixes n
