-- What is told of a source: the number and line of its refusal, or that it is accepted.
use Rattle.std.specs.Prelude.{◌≡◌, ℕ, List, [], ◌∷◌, Ok, Err}
use Rattle.vera_ast.specs.declared.tree.items.Tree.{Tree}
use Rattle.vera_ast.specs.declared.typed.file.TypedTree.{TypedTree}
use Rattle.typing_rules.specs.Checked.{Checked}
use Rattle.typing_rules.specs.Typing.{typed}

pub data Told : Type 0 where
  Accepted : Told
  Refused : ℕ → ℕ → Told

abbrev pub told : {A : Type 0} → Checked A → Told
told (Ok a) = Accepted
told (Err r) = Refused r.code r.line

-- a source, and what is told of it
pub record Row : Type 0 where
  pub told : Told
  pub source : Tree

abbrev pub IsTold : Row → Type 0
IsTold row = told (typed row.source) ≡ row.told

abbrev pub AllTold : List Row → Type 0
AllTold [] = Unit {0}
AllTold (row ∷ rows) = IsTold row × AllTold rows

-- a source with its typed tree
pub record TreeRow : Type 0 where
  pub source : Tree
  pub tree : TypedTree

abbrev pub IsTyped : TreeRow → Type 0
IsTyped row = typed row.source ≡ Ok row.tree

abbrev pub AllTyped : List TreeRow → Type 0
AllTyped [] = Unit {0}
AllTyped (row ∷ rows) = IsTyped row × AllTyped rows
