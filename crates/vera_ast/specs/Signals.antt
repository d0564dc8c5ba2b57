-- The signals of a testbench, its program, and what its drives name.
use Rattle.std.specs.Prelude.{◌≡◌, ℕ, List, [], ◌∷◌, ◌++◌, map, Option, Some, None, slice_get, Bool, true, not, ◌==◌}
use Rattle.std.specs.List.{list_all}
use Rattle.vera_ast.specs.declared.typed.file.TypedItem.{TypedItem}
use Rattle.vera_ast.specs.declared.typed.file.TypedItem.TheVariants.{Enumeration, Class, Interface, Group, Task, Function, Program}
use Rattle.vera_ast.specs.declared.typed.file.TypedProgram.{TypedProgram}
use Rattle.vera_ast.specs.declared.tree.interfaces.Direction.TheVariants.{Output}
use Rattle.vera_ast.specs.declared.typed.interface.TypedSignal.{TypedSignal}
use Rattle.vera_ast.specs.declared.typed.names.TypedSignalName.{TypedSignalName}
use Rattle.vera_ast.specs.declared.typed.stmt.TypedStmt.{TypedStmt, Row_of-TypedStmt, end_of-TypedStmt, more_of-TypedStmt}
use Rattle.vera_ast.specs.declared.typed.stmt.TypedStmt.TheBlock.{Held-TypedIf-when_false, None', Some', Row_of-TypedArm, end_of-TypedArm, more_of-TypedArm}
use Rattle.vera_ast.specs.declared.typed.stmt.TypedStmt.TheVariants.{Block', Empty, Step, Void, Call, BuiltIn, Wait, Printf, Sprintf, Edge, If', While', Repeat', For', Case', Break, Continue, Return, Terminate, Fork', Drive, Expect}

-- a signal with the name of its interface
pub record NamedSignal : Type 0 where
  pub interface : List ℕ
  pub signal : TypedSignal

-- the signals in text order: the number of a signal is its place in this list
abbrev pub signals_in : List TypedItem → List NamedSignal
signals_in [] = []
signals_in (Enumeration e ∷ items) = signals_in items
signals_in (Class c ∷ items) = signals_in items
signals_in (Interface i ∷ items) = map (λ s. record { interface = i.name; signal = s }) i.signals ++ signals_in items
signals_in (Group g ∷ items) = signals_in items
signals_in (Task t ∷ items) = signals_in items
signals_in (Function f ∷ items) = signals_in items
signals_in (Program p ∷ items) = signals_in items

-- the first program
abbrev pub program_in : List TypedItem → Option TypedProgram
program_in [] = None
program_in (Enumeration e ∷ items) = program_in items
program_in (Class c ∷ items) = program_in items
program_in (Interface i ∷ items) = program_in items
program_in (Group g ∷ items) = program_in items
program_in (Task t ∷ items) = program_in items
program_in (Function f ∷ items) = program_in items
program_in (Program p ∷ items) = Some p

-- the name stands for an output signal, with its width
pub record IsOutput (signals : List NamedSignal) (name : TypedSignalName) : Type 0 where
  pub named : NamedSignal
  pub is : slice_get signals name.number ≡ Some named
  pub output : named.signal.direction ≡ Output
  pub width : named.signal.width ≡ name.width

abbrev mutual
  -- each drive of a statement names an output signal
  pub DrivesOutputs : List NamedSignal → TypedStmt → Type 0
  DrivesOutputs signals (Block' line decls p stmts) = AllDriveOutputs signals stmts
  DrivesOutputs signals (Empty line) = Unit {0}
  DrivesOutputs signals (Step s) = Unit {0}
  DrivesOutputs signals (Void v) = Unit {0}
  DrivesOutputs signals (Call c) = Unit {0}
  DrivesOutputs signals (BuiltIn b) = Unit {0}
  DrivesOutputs signals (Wait w) = Unit {0}
  DrivesOutputs signals (Printf p) = Unit {0}
  DrivesOutputs signals (Sprintf p) = Unit {0}
  DrivesOutputs signals (Edge e) = Unit {0}
  DrivesOutputs signals (If' line condition p (more_of-TypedStmt when_true end_of-TypedStmt) when_false) = DrivesOutputs signals when_true × ElseDrivesOutputs signals when_false
  DrivesOutputs signals (While' line condition p (more_of-TypedStmt body end_of-TypedStmt)) = DrivesOutputs signals body
  DrivesOutputs signals (Repeat' line count p (more_of-TypedStmt body end_of-TypedStmt)) = DrivesOutputs signals body
  DrivesOutputs signals (For' line p (more_of-TypedStmt start end_of-TypedStmt) condition q (more_of-TypedStmt step end_of-TypedStmt) r (more_of-TypedStmt body end_of-TypedStmt)) = DrivesOutputs signals start × DrivesOutputs signals step × DrivesOutputs signals body
  DrivesOutputs signals (Case' line value p arms) = ArmsDriveOutputs signals arms
  DrivesOutputs signals (Break line) = Unit {0}
  DrivesOutputs signals (Continue line) = Unit {0}
  DrivesOutputs signals (Return line) = Unit {0}
  DrivesOutputs signals (Terminate line) = Unit {0}
  DrivesOutputs signals (Fork' line p branches join) = AllDriveOutputs signals branches
  DrivesOutputs signals (Drive d) = IsOutput signals d.target
  DrivesOutputs signals (Expect e) = Unit {0}

  pub AllDriveOutputs : {m : _} → List NamedSignal → Row_of-TypedStmt m → Type 0
  AllDriveOutputs signals end_of-TypedStmt = Unit {0}
  AllDriveOutputs signals (more_of-TypedStmt s stmts) = DrivesOutputs signals s × AllDriveOutputs signals stmts

  pub ElseDrivesOutputs : List NamedSignal → Held-TypedIf-when_false → Type 0
  ElseDrivesOutputs signals None' = Unit {0}
  ElseDrivesOutputs signals (Some' p (more_of-TypedStmt when_false end_of-TypedStmt)) = DrivesOutputs signals when_false

  pub ArmsDriveOutputs : {m : _} → List NamedSignal → Row_of-TypedArm m → Type 0
  ArmsDriveOutputs signals end_of-TypedArm = Unit {0}
  ArmsDriveOutputs signals (more_of-TypedArm line label body arms) = DrivesOutputs signals body × ArmsDriveOutputs signals arms

-- a name without a bracket, which stands in names of nets
abbrev pub is_plain : List ℕ → Bool
is_plain name = list_all (λ b. not (b == 91)) name

-- No two output signals have one name, and all names are plain.
pub record AreApart (signals : List NamedSignal) : Type 0 where
  pub outputs : (n m : ℕ) (a b : NamedSignal) → slice_get signals n ≡ Some a → slice_get signals m ≡ Some b → a.signal.direction ≡ Output → b.signal.direction ≡ Output → a.signal.name ≡ b.signal.name → n ≡ m
  pub plain : (n : ℕ) (a : NamedSignal) → slice_get signals n ≡ Some a → is_plain a.signal.name ≡ true
