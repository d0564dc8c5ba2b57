-- Arguments: what fits what is wanted, and what can be assigned.
use Rattle.std.specs.Prelude.{ℕ, not, ◌&&◌, ◌||◌, Bool, true, false, if◌then◌else◌, List, [], ◌∷◌, Option, Some, None, is_some}
use Rattle.vera_ast.specs.declared.typed.types.ValueType.{ValueType}
use Rattle.vera_ast.specs.declared.typed.types.ValueType.TheVariants as t
use Rattle.typing_rules.specs.Formats.{format}
use Rattle.typing_rules.specs.Heads.{whole_type, is_event, is_element}
use Rattle.typing_rules.specs.Signatures.{Wants, next_want, after_next}
use Rattle.typing_rules.specs.Types.{is_vector, same_type, fits}
use Rattle.typing_rules.specs.declared.head.Argument.{Argument}
use Rattle.typing_rules.specs.declared.head.Argument.TheVariants as a
use Rattle.typing_rules.specs.declared.names.Expected.{Expected}
use Rattle.typing_rules.specs.declared.words.Want.{Want}
use Rattle.typing_rules.specs.declared.words.Want.TheVariants as w

abbrev pub type_of : Argument → Option ValueType
type_of (a.Value v) = Some v.of
type_of (a.Whole x) = Some (whole_type x)
type_of (a.NoVariable of) = Some of
type_of (a.Literal s) = Some t.Str
type_of a.Zero = None
type_of (a.Mode mode) = None

-- ---- built-in calls

abbrev pub is_str : ValueType → Bool
is_str t.Str = true
is_str _ = false

abbrev pub is_class : ValueType → Bool
is_class (t.Class n) = true
is_class _ = false

abbrev pub is_null : ValueType → Bool
is_null t.Null = true
is_null _ = false

-- what a mailbox holds
abbrev pub is_item : ValueType → Bool
is_item of = is_vector of || is_str of || is_class of || is_null of

abbrev pub of_type : (ValueType → Bool) → Option ValueType → Bool
of_type test None = false
of_type test (Some of) = test of

abbrev pub is_format : Argument → Bool
is_format (a.Literal s) = is_some (format s)
is_format _ = false

abbrev pub is_zero_literal : Argument → Bool
is_zero_literal a.Zero = true
is_zero_literal _ = false

abbrev pub is_mode : Argument → Bool
is_mode (a.Mode mode) = true
is_mode _ = false

-- the kind of an argument is the one that is wanted. What a conversion prints is a rule of the format.
abbrev pub meets : Want → Argument → Bool
meets w.Mode x = is_mode x
meets w.ModeOrEvent x = is_mode x || of_type is_event (type_of x)
meets w.Check x = is_mode x
meets w.Zero x = is_zero_literal x
meets w.Vector x = of_type is_vector (type_of x)
meets w.Event x = of_type is_event (type_of x)
meets w.Item x = of_type is_item (type_of x)
meets w.Object x = of_type (λ of. is_class of || is_null of) (type_of x)
meets w.Format x = is_format x
meets w.StrVariable x = of_type is_str (type_of x)
meets w.ItemVariable x = of_type is_item (type_of x)
meets w.ObjectVariable x = of_type is_class (type_of x)
meets w.Printed x = true
meets w.Value x = true
meets w.WholeVariable x = true
meets w.Variable x = true

unfoldable pub all_meet : Wants → List Argument → Bool
all_meet wants [] = true
all_meet wants (x ∷ xs) = meets (next_want wants) x && all_meet (after_next wants) xs

-- ---- what can be assigned: a whole variable, a field or an element, but no event

abbrev pub can_be_set : Argument → Bool
can_be_set (a.Whole x) = not (is_event (whole_type x))
can_be_set _ = false

abbrev pub can_be_watched : Argument → Bool
can_be_watched (a.Whole x) = not (is_event (whole_type x) || is_element x)
can_be_watched _ = false

abbrev pub is_settable : Want → Argument → Bool
is_settable w.StrVariable x = can_be_set x
is_settable w.ItemVariable x = can_be_set x
is_settable w.ObjectVariable x = can_be_set x
is_settable w.Variable x = can_be_set x
is_settable w.WholeVariable x = can_be_watched x
is_settable _ x = true

unfoldable pub all_settable : Wants → List Argument → Bool
all_settable wants [] = true
all_settable wants (x ∷ xs) = is_settable (next_want wants) x && all_settable (after_next wants) xs

-- ---- the arguments of a user's task or function

-- a `var` parameter takes the very same type
abbrev pub suits : List (Option ℕ) → Expected → Option ValueType → Bool
suits parents p None = false
suits parents p (Some of) = if p.is_var then same_type of p.of else fits parents of p.of

unfoldable pub all_suit : List (Option ℕ) → List Expected → List Argument → Bool
all_suit parents [] xs = true
all_suit parents ps [] = true
all_suit parents (p ∷ ps) (x ∷ xs) = suits parents p (type_of x) && all_suit parents ps xs
