-- What is said of the walk in words of its own.
use Rattle.std.specs.Prelude.{◌≡◌, Ok, Err}
use Rattle.vera_ast.specs.ExprTypes.{type_of}
use Rattle.typing_rules.specs.Checked.{Checked}
use Rattle.typing_rules.specs.declared.head.Typed.{Typed}

-- a result, if there is one, has a property
abbrev pub Holds : {A : Type 0} → (A → Type 0) → Checked A → Type 0
Holds P (Ok a) = P a
Holds P (Err r) = Unit {0}

-- the type that the walk gives an expression is that of the typed expression
abbrev pub HasItsType : Typed → Type 0
HasItsType x = type_of x.expr ≡ x.of
