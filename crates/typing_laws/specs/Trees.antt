-- What is said of a tree that the rules of types accept.
use Rattle.std.specs.Prelude.{◌≡◌, ℕ, true, List, [], ◌∷◌, ◌++◌, slice_get, Some}
use Rattle.vera_ast.specs.declared.tree.interfaces.Direction.TheVariants.{Output}
use Rattle.vera_ast.specs.declared.tree.interfaces.Signal.{Signal}
use Rattle.vera_ast.specs.declared.tree.items.Tree.{Tree}
use Rattle.vera_ast.specs.declared.typed.file.TypedItem.{TypedItem}
use Rattle.vera_ast.specs.declared.typed.file.TypedItem.TheVariants.{Task, Function, Program}
use Rattle.vera_ast.specs.declared.typed.file.TypedProgram.{TypedProgram}
use Rattle.vera_ast.specs.declared.typed.file.TypedTree.{TypedTree}
use Rattle.vera_ast.specs.declared.typed.stmt.TypedStmt.TheVariants.{Block}
use Rattle.vera_ast.specs.Signals.{NamedSignal, signals_in, program_in, DrivesOutputs, is_plain}
use Rattle.typing_rules.specs.FileNames.{signals_in as source_signals}

-- ---- programs

abbrev pub programs_of : TypedItem → List TypedProgram
programs_of (Program p) = p ∷ []
programs_of _ = []

-- the programs in text order
abbrev pub programs_in : List TypedItem → List TypedProgram
programs_in [] = []
programs_in (i ∷ items) = programs_of i ++ programs_in items

-- a program, and no second one
pub record HasOneProgram (tree : TypedTree) : Type 0 where
  pub program : TypedProgram
  pub is_program : program_in tree.items ≡ Some program
  pub is_alone : programs_in tree.items ≡ program ∷ []

-- ---- drives

-- each drive in an item's body names an output signal
abbrev pub ItemDrivesOutputs : List NamedSignal → TypedItem → Type 0
ItemDrivesOutputs signals (Task t) = DrivesOutputs signals (Block t.block)
ItemDrivesOutputs signals (Function f) = DrivesOutputs signals (Block f.block)
ItemDrivesOutputs signals (Program p) = DrivesOutputs signals (Block p.block)
ItemDrivesOutputs signals _ = Unit {0}

abbrev pub AllItemsDriveOutputs : List NamedSignal → List TypedItem → Type 0
AllItemsDriveOutputs signals [] = Unit {0}
AllItemsDriveOutputs signals (i ∷ items) = ItemDrivesOutputs signals i × AllItemsDriveOutputs signals items

-- the tree's program, each drive of which names an output of the tree, and so the drives in all tasks and functions
pub record NamesItsSignals (tree : TypedTree) : Type 0 where
  pub program : TypedProgram
  pub is_program : program_in tree.items ≡ Some program
  pub drives : DrivesOutputs (signals_in tree.items) (Block program.block)
  pub all_drive : AllItemsDriveOutputs (signals_in tree.items) tree.items

-- ---- outputs

-- no two output signals have one name
pub record OutputsDiffer (signals : List NamedSignal) : Type 0 where
  pub differ : (n m : ℕ) (a b : NamedSignal) → slice_get signals n ≡ Some a → slice_get signals m ≡ Some b → a.signal.direction ≡ Output → b.signal.direction ≡ Output → a.signal.name ≡ b.signal.name → n ≡ m

-- the names of a source's signals are plain, which is a matter of its tokens and not of types
pub record HasPlainSignals (tree : Tree) : Type 0 where
  pub plain : (n : ℕ) (s : Signal) → slice_get (source_signals tree.items) n ≡ Some s → is_plain s.name ≡ true
