-- The walk through the declarations, as the code goes through it: parts that are done, and parts that are left.
use Rattle.std.specs.Prelude.{◌≡◌, ℕ, ◌≤◌, ◌||◌, nat_le, List, [], ◌∷◌, ◌++◌, length, is_some, Result, Ok, Err}
use Rattle.vera_ast.specs.declared.refusal.FrontError.{FrontError}
use Rattle.vera_ast.specs.declared.refusal.FrontError.TheVariants.{Refused, NoMemory}
use Rattle.vera_ast.specs.declared.refusal.Refusal.{Refusal}
use Rattle.vera_ast.specs.declared.tree.declarations.DataType.{DataType}
use Rattle.vera_ast.specs.declared.tree.declarations.Decl.{Decl}
use Rattle.vera_ast.specs.declared.tree.declarations.Variable.{Variable}
use Rattle.vera_ast.specs.declared.tree.interfaces.Signal.{Signal}
use Rattle.vera_ast.specs.declared.tree.items.Item.{Item}
use Rattle.vera_ast.specs.declared.tree.items.Item.TheVariants as item
use Rattle.vera_ast.specs.declared.tree.items.Parameter.{Parameter}
use Rattle.vera_ast.specs.declared.tree.statements.Arm.{Arm}
use Rattle.vera_ast.specs.declared.tree.statements.Stmt.{Stmt}
use Rattle.typing_rules.specs.Checked.{Checked, ◌>>=◌, keeps, declared_twice, past_limit}
use Rattle.typing_rules.specs.DataTypes.{data_type, variable_type, names_in}
use Rattle.typing_rules.specs.Declarations.{Part, walk_parts, rules, declares, unit, name_parts, parameter_parts, parameter_names, decl_parts, stmt_parts, each_parts, block_parts, body_parts, is_second_output}
use Rattle.typing_rules.specs.FileNames.{task_name, output_names}
use Rattle.vera_names.specs.NameSets.{SameNames}
use Rattle.typing_rules.specs.Scopes.{Name, Scope, Scopes, is_among, meaning_in, later}

-- ---- results with more than what is defined

-- a refusal; or memory ran out
abbrev pub Stopped : {A : Type 0} → Checked A → FrontError → Type 0
Stopped defined (Refused r) = defined ≡ Err r
Stopped defined NoMemory = Unit {0}

-- what is shown of the answer is what is defined, and more holds of it
abbrev pub AnswersBy : {A S : Type 0} → (S → A) → (S → Type 0) → Checked A → Result S FrontError → Type 0
AnswersBy shown holds defined (Ok s) = (defined ≡ Ok (shown s)) × holds s
AnswersBy shown holds defined (Err e) = Stopped defined e

-- ---- parts

-- some parts behind so many names come to the same as those that are left behind so many other ones
pub record Leads (n : ℕ) (parts : List Part) (m : ℕ) (left : List Part) : Type 0 where
  pub leads : (rest : List Part) → walk_parts n (parts ++ rest) ≡ walk_parts m (left ++ rest)

-- some parts behind so many names are refused, whatever follows
pub record IsRefused (n : ℕ) (parts : List Part) (r : Refusal) : Type 0 where
  pub refused : (rest : List Part) → walk_parts n (parts ++ rest) ≡ Err r

-- a refusal of some parts behind so many names; or memory ran out
abbrev pub Stops : ℕ → List Part → FrontError → Type 0
Stops n parts (Refused r) = IsRefused n parts r
Stops n parts NoMemory = Unit {0}

-- what is answered of parts behind so many names: how many names there are behind them, and what else holds then
abbrev pub Walks : {S : Type 0} → (S → ℕ) → (S → Type 0) → ℕ → List Part → Result S FrontError → Type 0
Walks count holds n parts (Ok s) = Leads n parts (count s) [] × (count s ≤ 65535) × holds s
Walks count holds n parts (Err e) = Stops n parts e

-- the same, where only the number of names is told
abbrev pub CountsTo : ℕ → List Part → Result ℕ FrontError → Type 0
CountsTo n parts result = Walks (λ m. m) (λ m. Unit {0}) n parts result

-- ---- single parts

abbrev pub name_part : ℕ → List Name → Name → Part
name_part line before name = declares line (keeps line ((declared_twice, is_among before name) ∷ []))

abbrev pub variable_part : Scopes → List Name → DataType → Variable → Part
variable_part scopes before of v = declares v.line (unit (data_type scopes of >>= (λ t. variable_type scopes before t v)))

abbrev pub parameter_part : ℕ → List Name → Parameter → Part
parameter_part n before p = declares p.line (keeps p.line ((declared_twice, is_among before p.name) ∷ (past_limit, nat_le 64 n) ∷ []))

abbrev pub signal_part : List Signal → List Name → Signal → Part
signal_part before names s = declares s.line (keeps s.line ((declared_twice, is_among names s.name || is_second_output before s) ∷ (past_limit, nat_le 4096 (length before)) ∷ []))

-- ---- parts of blocks

-- a block in a statement
abbrev pub block_inside : Scopes → List Decl → List Stmt → List Part
block_inside scopes decls stmts = decl_parts (later (names_in decls) ∷ scopes) [] decls ++ each_parts (later (names_in decls) ∷ scopes) stmts

abbrev pub arm_list_parts : Scopes → List Arm → List Part
arm_list_parts scopes [] = []
arm_list_parts scopes (a ∷ arms) = stmt_parts scopes a.body ++ arm_list_parts scopes arms

-- ---- what the file has declared so far

-- the names of the outputs among these signals, and how many signals there are
pub record OutputsStand (signals : List Signal) (outputs : Scope) (count : ℕ) : Type 0 where
  pub names : SameNames (output_names signals) outputs
  pub number : count ≡ length signals

-- the parts of an item, but for the signals of an interface, behind items with these names
abbrev pub own_parts : Scopes → List Name → Item → List Part
own_parts scopes before (item.Enumeration e) = name_parts e.line before (e.name ∷ e.values)
own_parts scopes before (item.Class c) = name_parts c.line before (c.name ∷ [])
own_parts scopes before (item.Interface i) = name_parts i.line before (i.name ∷ [])
own_parts scopes before (item.Group g) = name_parts g.line before (g.name ∷ [])
own_parts scopes before (item.Task t) =
    name_parts t.line before (task_name t.name ∷ []) ++ (parameter_parts scopes 0 [] t.parameters ++ body_parts (later (parameter_names t.parameters) ∷ scopes) t.block)
own_parts scopes before (item.Function f) =
    rules f.line (unit (data_type scopes f.result)) ∷ (name_parts f.line before (f.name ∷ []) ++ (parameter_parts scopes 0 [] f.parameters
    ++ body_parts (later (parameter_names f.parameters) ∷ later (f.name ∷ []) ∷ scopes) f.block))
own_parts scopes before (item.Program p) = name_parts p.line before (p.name ∷ []) ++ block_parts scopes p.block
