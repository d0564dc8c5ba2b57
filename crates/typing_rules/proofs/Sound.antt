-- The type that the walk gives an expression is that of the typed expression.
use Rattle.std.proofs.Common.{◌≡◌, refl, ap, ◌∙◌, ℕ, Bool, true, false, if◌then◌else◌, List, [], ◌∷◌, Option, Some, None, Ok, Err}
use Rattle.vera_ast.proofs.TypedExprViews.{conditional-is, concatenation-is, replication-is, bit-is, bits-is, field-is, element-is}
use Rattle.vera_ast.proofs.TypesOf.{chain_has_type, unary_has_type}
use Rattle.vera_ast.specs.ExprTypes.{type_of, type_behind}
use Rattle.vera_ast.specs.Types.{chain_type, unary_type, common}
use Rattle.vera_ast.specs.declared.tree.expressions.UnaryOperator.{UnaryOperator}
use Rattle.vera_ast.specs.declared.typed.expr.TypedConditional.{TypedConditional}
use Rattle.vera_ast.specs.declared.typed.expr.TypedExpr.{TypedExpr}
use Rattle.vera_ast.specs.declared.typed.types.ValueType.{ValueType}
use Rattle.vera_ast.specs.declared.typed.types.ValueType.TheVariants as t
use Rattle.vera_ast.specs.declared.typed.types.VectorType.{VectorType}
use Rattle.typing_rules.specs.Checked.{Checked, ◌>>=◌, ◌>>◌, refuse, wrong_type}
use Rattle.typing_rules.specs.Scopes.{Name}
use Rattle.typing_rules.specs.declared.names.Meaning.{Meaning}
use Rattle.typing_rules.specs.declared.names.Meaning.TheVariants as means
use Rattle.typing_rules.specs.declared.words.BuiltIn.{BuiltIn}
use Rattle.typing_rules.specs.declared.words.Mode.{Mode}
use Rattle.vera_ast.specs.declared.typed.types.VariableType.TheVariants as variable
use Rattle.typing_rules.specs.Heads.{typed, value_of, read, whole_type, cut_of, cut_type}
use Rattle.typing_rules.specs.Laws.{Holds, HasItsType}
use Rattle.typing_rules.specs.Posts.{value_cut, cut_head, indexed, index, bits, length_of, named, word_or_name, name, str_in, member}
use Rattle.typing_rules.specs.Productions.{Link, chained, chain, unary, chosen_by, conditional, exprs_of, concatenation, replication}
use Rattle.typing_rules.specs.declared.context.Context.{Context}
use Rattle.typing_rules.specs.declared.head.Cut.{Cut}
use Rattle.typing_rules.specs.declared.head.Cut.TheVariants as cut
use Rattle.typing_rules.specs.declared.head.Head.{Head}
use Rattle.typing_rules.specs.declared.head.Head.TheVariants as h
use Rattle.typing_rules.specs.declared.head.Stand.{Stand}
use Rattle.typing_rules.specs.declared.head.Typed.{Typed}
use Rattle.typing_rules.specs.declared.head.Whole.{Whole}
use Rattle.typing_rules.specs.declared.head.Whole.TheVariants as w

-- ---- steps

abbrev pub HeadSound : Head → Type 0
HeadSound (h.Value x) = HasItsType x
HeadSound _ = Unit {0}

pub after : {A B : Type 0} (Q : B → Type 0) (m : Checked A) (n : Checked B) → Holds Q n → Holds Q (m >> n)
unfolding ◌>>=◌
after Q (Ok a) n k = k
after Q (Err r) n k = tt

pub with : {A B : Type 0} (Q : B → Type 0) (m : Checked A) (f : A → Checked B) → ((a : A) → Holds Q (f a)) → Holds Q (m >>= f)
unfolding ◌>>=◌
with Q (Ok a) f k = k a
with Q (Err r) f k = tt

pub from : {A B : Type 0} (P : A → Type 0) (Q : B → Type 0) (m : Checked A) (f : A → Checked B) → Holds P m → ((a : A) → P a → Holds Q (f a)) → Holds Q (m >>= f)
unfolding ◌>>=◌
from P Q (Ok a) f p k = k a p
from P Q (Err r) f p k = tt

-- ---- values

whole_sound : (x : Whole) → type_of (read x) ≡ whole_type x
whole_sound (w.Variable v) = refl
whole_sound (w.Field f) = field-is (λ e. type_of e ≡ f.of) f (λ p. refl)
whole_sound (w.Element x) = element-is (λ e. type_of e ≡ x.of) x (λ p. refl)

cut_sound : (x : TypedExpr) (c : Cut) → type_of (cut_of x c) ≡ t.Vector (cut_type c)
cut_sound x (cut.Bit i) = bit-is (λ e. type_of e ≡ t.Vector (cut_type (cut.Bit i))) x i (λ p q. refl)
cut_sound x (cut.Bits r) = bits-is (λ e. type_of e ≡ t.Vector (cut_type (cut.Bits r))) x r (λ p. refl)

pub value_sound : (line : ℕ) (head : Head) → HeadSound head → Holds HasItsType (value_of line head)
unfolding value_of refuse
value_sound line (h.Number n) s = refl
value_sound line (h.Str text) s = refl
value_sound line (h.Value x) s = s
value_sound line (h.Whole x) s = whole_sound x
value_sound line (h.Part x c) s = cut_sound (read x) c
value_sound line (h.Signal signal d) s = after HasItsType _ _ refl
value_sound line (h.SignalPart signal d c) s = after HasItsType _ _ (cut_sound _ c)
value_sound line (h.Array a l of) s = tt
value_sound line (h.Length x) s = tt
value_sound line (h.Waits call) s = tt
value_sound line (h.Task call) s = tt
value_sound line (h.BuiltIn task operands targets) s = tt
value_sound line (h.Prints format arguments) s = tt
value_sound line (h.PrintsInto target format arguments) s = tt
value_sound line (h.Named means) s = tt
value_sound line (h.Word b) s = tt
value_sound line (h.Mode m) s = tt
value_sound line h.New s = tt

-- ---- productions

chosen_sound : (line : ℕ) (c x y : Typed) (v v' : Option VectorType) → Holds HeadSound (chosen_by line c x y v v')
unfolding refuse
chosen_sound line c x y (Some v) (Some v') =
    let r : TypedConditional = record { condition = c.expr; when_true = x.expr; when_false = y.expr; of = common v v' } in
    conditional-is (λ e. type_of e ≡ t.Vector (common v v')) r (λ p q r. refl)
chosen_sound line c x y (Some v) None = tt
chosen_sound line c x y None v' = tt

pub conditional_sound : (line : ℕ) (c x y : Typed) → Holds HeadSound (conditional line c x y)
unfolding conditional
conditional_sound line c x y = after HeadSound _ _ (chosen_sound line c x y _ _)

chained_sound : (parents : List (Option ℕ)) (line : ℕ) (links : List Link) (left : ValueType) → Holds (λ all. type_behind all.0 left ≡ all.1) (chained parents line left links)
unfolding chained
chained_sound parents line [] left = refl
chained_sound parents line (link ∷ links) left =
    with _ _ _ λ works. from _ _ _ _ (chained_sound parents line links (chain_type link.0 works)) λ rest is. is

pub chain_sound : (parents : List (Option ℕ)) (line : ℕ) (first : Typed) (links : List Link) → HasItsType first → Holds HeadSound (chain parents line first links)
unfolding chain
chain_sound parents line first links s =
    from _ HeadSound _ _ (chained_sound parents line links first.of) λ all is. chain_has_type first.expr all.0 ∙ (ap (type_behind all.0) s ∙ is)

pub unary_sound : (line : ℕ) (operator : UnaryOperator) (x : Typed) → HasItsType x → Holds HeadSound (unary line operator x)
unfolding unary
unary_sound line operator x s = after HeadSound _ _ (unary_has_type operator x.expr ∙ ap (unary_type operator) s)

pub concatenation_sound : (line : ℕ) (parts : List Typed) → Holds HeadSound (concatenation line parts)
unfolding concatenation
concatenation_sound line parts = with HeadSound _ _ λ of. concatenation-is (λ e. type_of e ≡ of) (exprs_of parts) of refl

pub replication_sound : (line count : ℕ) (parts : List Typed) → Holds HeadSound (replication line count parts)
unfolding replication
replication_sound line count parts = after HeadSound _ _ (with HeadSound _ _ λ of. replication-is (λ e. type_of e ≡ of) count (exprs_of parts) of refl)

-- ---- posts

value_cut_sound : (line : ℕ) (x : Typed) (c : Cut) → Holds HeadSound (value_cut line x c)
value_cut_sound line x c = after HeadSound _ _ (cut_sound x.expr c)

cut_whole_sound : (line : ℕ) (x : Whole) (c : Cut) (b : Bool) → Holds HeadSound (if b then Ok (h.Part x c) else value_cut line (typed (read x) (whole_type x)) c)
cut_whole_sound line x c true = tt
cut_whole_sound line x c false = value_cut_sound line _ c

cut_head_sound : (s : Stand) (line : ℕ) (head : Head) (c : Cut) → Holds HeadSound (cut_head s line head c)
unfolding cut_head
cut_head_sound s line (h.Whole x) c = cut_whole_sound line x c _
cut_head_sound s line (h.Signal signal d) c = tt
cut_head_sound s line head c = with HeadSound _ _ λ x. value_cut_sound line x c

indexed_sound : (s : Stand) (line : ℕ) (head : Head) (i : TypedExpr) → Holds HeadSound (indexed s line head i)
indexed_sound s line (h.Array a l of) i = tt
indexed_sound s line head i = cut_head_sound s line head _

pub index_sound : (s : Stand) (line : ℕ) (head : Head) (i : Typed) → Holds HeadSound (index s line head i)
unfolding index
index_sound s line head i = after HeadSound _ _ (indexed_sound s line head i.expr)

pub bits_sound : (s : Stand) (line : ℕ) (head : Head) (high low : ℕ) → Holds HeadSound (bits s line head high low)
unfolding bits
bits_sound s line head high low = after HeadSound _ _ (after HeadSound _ _ (with HeadSound _ _ λ width. cut_head_sound s line head _))

length_sound : (line : ℕ) (word : Name) (found : Option TypedExpr) → Holds HeadSound (length_of line word found)
unfolding refuse
length_sound line word None = tt
length_sound line word (Some x) = is_len_or_not _
  where
    is_len_or_not : (b : Bool) → Holds HeadSound (if b then Ok (h.Length x) else refuse wrong_type line)
    is_len_or_not true = tt
    is_len_or_not false = tt

named_sound : (meaning : Meaning) → HeadSound (named meaning)
named_sound (means.Variable place (variable.Value of)) = tt
named_sound (means.Variable place (variable.Array of length)) = tt
named_sound (means.Result v) = tt
named_sound (means.EnumName name) = refl
named_sound means.Later = tt
named_sound (means.Enumeration n) = tt
named_sound (means.Class n) = tt
named_sound (means.Group n) = tt
named_sound (means.Interface n) = tt
named_sound (means.Task n) = tt
named_sound (means.Function n) = tt
named_sound means.Program = tt

word_sound : (b : Option BuiltIn) (m : Option Mode) (line : ℕ) (found : Option Meaning) → Holds HeadSound (word_or_name b m line found)
word_sound (Some b) m line found = tt
word_sound None (Some m) line found = tt
word_sound None None line found = with HeadSound _ _ λ meaning. named_sound meaning

pub name_sound : (c : Context) (is_callee : Bool) (line : ℕ) (word : Name) → Holds HeadSound (name c is_callee line word)
unfolding name
name_sound c is_callee line word = word_sound _ _ line _

pub member_sound : (c : Context) (line : ℕ) (head : Head) (word : Name) → Holds HeadSound (member c line head word)
unfolding member
member_sound c line (h.Named (means.Interface n)) word = with HeadSound _ _ λ s. tt
member_sound c line head word = length_sound line word (str_in head)
