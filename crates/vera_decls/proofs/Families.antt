-- The parts of lists of declarations: those of the first, and those of the others behind it.
use Rattle.std.proofs.Common.{◌≡◌, ℕ, ◌+◌, ◌≤◌, suc, List, [], ◌∷◌, ◌++◌, map, refl, sym, subst, ◌∙◌, append_assoc, arith}
use Rattle.std.proofs.lemmas.List.{append-nil}
use Rattle.vera_ast.specs.declared.tree.declarations.DataType.{DataType}
use Rattle.vera_ast.specs.declared.tree.declarations.Decl.{Decl}
use Rattle.vera_ast.specs.declared.tree.declarations.Variable.{Variable}
use Rattle.vera_ast.specs.declared.tree.interfaces.Signal.{Signal}
use Rattle.vera_ast.specs.declared.tree.items.Item.{Item}
use Rattle.vera_ast.specs.declared.tree.items.Parameter.{Parameter}
use Rattle.vera_ast.specs.declared.tree.statements.Arm.{Arm}
use Rattle.vera_ast.specs.declared.tree.statements.Stmt.{Stmt}
use Rattle.vera_decls.proofs.Going.{after_all}
use Rattle.vera_names.proofs.NameSets.{names_put, names_after}
use Rattle.typing_rules.specs.DataTypes.{data_type, names_of}
use Rattle.typing_rules.specs.Declarations.{Part, rules, unit, name_parts, variable_parts, decl_parts, parameter_parts, signal_parts, stmt_parts, each_parts, item_parts, parts_behind}
use Rattle.typing_rules.specs.Interfaces.{signal_width}
use Rattle.typing_rules.specs.Scopes.{Name, Scope, Scopes}
use Rattle.vera_ast.specs.declared.refusal.FrontError.{FrontError}
use Rattle.vera_decls.specs.Walks.{Leads, Stops, name_part, variable_part, parameter_part, signal_part, arm_list_parts}
use Rattle.vera_names.specs.NameSets.{SameNames, names_behind}

-- ---- names

abbrev pub put_name : List Name → Name → List Name
put_name s name = name ∷ s

abbrev pub one_name : ℕ → List Name → Name → List Part
one_name line s name = name_part line s name ∷ []

pub names_first : (line : ℕ) (s : List Name) (name : Name) (left : List Name) → name_parts line s (name ∷ left) ≡ one_name line s name ++ name_parts line (put_name s name) left
unfolding name_parts
names_first line s name left = refl

pub names_none : (line : ℕ) (s : List Name) → name_parts line s [] ≡ []
unfolding name_parts
names_none line s = refl

names_then : (s names : List Name) → after_all put_name s names ≡ names_behind s names
names_then s [] = refl
names_then s (name ∷ names) = names_then (name ∷ s) names

pub names_stand : (before names : List Name) (scope : Scope) → SameNames (after_all put_name before names) scope → SameNames (before ++ names) scope
names_stand before names scope k = names_after before names scope (subst (λ (ns : List Name). SameNames ns scope) (names_then before names) k)

-- a name as the code reads it
pub named_on : (line m k : ℕ) (read name : Name) (scope : Scope) (s : List Name) → read ≡ name → Leads m (one_name line s read) k [] × (k ≤ 65535) × SameNames (read ∷ s) scope → Leads m (one_name line s name) k [] × (k ≤ 65535) × SameNames (put_name s name) scope
named_on line m k read name scope s e h = subst (λ (n : Name). Leads m (one_name line s n) k [] × (k ≤ 65535) × SameNames (n ∷ s) scope) e h

pub named_stops : (line m : ℕ) (read name : Name) (x : FrontError) (s : List Name) → read ≡ name → Stops m (one_name line s read) x → Stops m (one_name line s name) x
named_stops line m read name x s e h = subst (λ (n : Name). Stops m (one_name line s n) x) e h

-- ---- variables

abbrev pub put_variable : List Name → Variable → List Name
put_variable s v = v.name ∷ s

abbrev pub one_variable : Scopes → DataType → List Name → Variable → List Part
one_variable scopes d s v = variable_part scopes s d v ∷ []

abbrev pub variables_left : Scopes → DataType → List Name → List Variable → List Part
variables_left scopes d s vs = variable_parts scopes s d vs

pub variables_first : (scopes : Scopes) (d : DataType) (s : List Name) (v : Variable) (left : List Variable) → variables_left scopes d s (v ∷ left) ≡ one_variable scopes d s v ++ variables_left scopes d (put_variable s v) left
unfolding variable_parts
variables_first scopes d s v left = refl

pub variables_none : (scopes : Scopes) (d : DataType) (s : List Name) → variables_left scopes d s [] ≡ []
unfolding variable_parts
variables_none scopes d s = refl

variables_then : (s : List Name) (vs : List Variable) → after_all put_variable s vs ≡ names_behind s (map (λ v. v.name) vs)
variables_then s [] = refl
variables_then s (v ∷ vs) = variables_then (v.name ∷ s) vs

pub variables_stand : (before : List Name) (vs : List Variable) (scope : Scope) → SameNames (after_all put_variable before vs) scope → SameNames (map (λ v. v.name) vs ++ before) scope
variables_stand before vs scope k = names_put before (map (λ v. v.name) vs) scope (subst (λ (ns : List Name). SameNames ns scope) (variables_then before vs) k)

-- ---- declarations

abbrev pub put_decl : List Name → Decl → List Name
put_decl s d = names_of d ++ s

abbrev pub one_decl : Scopes → List Name → Decl → List Part
one_decl scopes s d = rules d.line (unit (data_type scopes d.of)) ∷ variable_parts scopes s d.of d.variables

pub decls_first : (scopes : Scopes) (s : List Name) (d : Decl) (left : List Decl) → decl_parts scopes s (d ∷ left) ≡ one_decl scopes s d ++ decl_parts scopes (put_decl s d) left
unfolding decl_parts
decls_first scopes s d left = refl

pub decls_none : (scopes : Scopes) (s : List Name) → decl_parts scopes s [] ≡ []
unfolding decl_parts
decls_none scopes s = refl

-- ---- parameters

abbrev pub put_parameter : ℕ × List Name → Parameter → ℕ × List Name
put_parameter s p = (suc s.0, p.name ∷ s.1)

abbrev pub one_parameter : Scopes → ℕ × List Name → Parameter → List Part
one_parameter scopes s p = rules p.line (unit (data_type scopes p.of)) ∷ parameter_part s.0 s.1 p ∷ []

abbrev pub parameters_left : Scopes → ℕ × List Name → List Parameter → List Part
parameters_left scopes s ps = parameter_parts scopes s.0 s.1 ps

pub parameters_first : (scopes : Scopes) (s : ℕ × List Name) (p : Parameter) (left : List Parameter) → parameters_left scopes s (p ∷ left) ≡ one_parameter scopes s p ++ parameters_left scopes (put_parameter s p) left
unfolding parameter_parts
parameters_first scopes s p left = refl

pub parameters_none : (scopes : Scopes) (s : ℕ × List Name) → parameters_left scopes s [] ≡ []
unfolding parameter_parts
parameters_none scopes s = refl

-- ---- signals

abbrev pub put_signal : List Signal × List Name → Signal → List Signal × List Name
put_signal s x = (s.0 ++ x ∷ [], x.name ∷ s.1)

abbrev pub one_signal : Scopes → List Signal × List Name → Signal → List Part
one_signal scopes s x = rules x.line (unit (signal_width scopes x.range)) ∷ signal_part s.0 s.1 x ∷ []

abbrev pub signals_left : Scopes → List Signal × List Name → List Signal → List Part
signals_left scopes s xs = signal_parts scopes s.0 s.1 xs

pub signals_first : (scopes : Scopes) (s : List Signal × List Name) (x : Signal) (left : List Signal) → signals_left scopes s (x ∷ left) ≡ one_signal scopes s x ++ signals_left scopes (put_signal s x) left
unfolding signal_parts
signals_first scopes s x left = refl

pub signals_none : (scopes : Scopes) (s : List Signal × List Name) → signals_left scopes s [] ≡ []
unfolding signal_parts
signals_none scopes s = refl

pub signals_then : (s : List Signal × List Name) (xs : List Signal) → (after_all put_signal s xs).0 ≡ s.0 ++ xs
signals_then s [] = sym (append-nil s.0)
signals_then s (x ∷ xs) = signals_then (put_signal s x) xs ∙ append_assoc s.0 (x ∷ []) xs

-- ---- statements and arms

abbrev pub stay : {X : Type 0} → Unit {0} → X → Unit {0}
stay s x = s

abbrev pub stmts_left : Scopes → Unit {0} → List Stmt → List Part
stmts_left scopes s xs = each_parts scopes xs

abbrev pub one_stmt : Scopes → Unit {0} → Stmt → List Part
one_stmt scopes s x = stmt_parts scopes x

pub stmts_first : (scopes : Scopes) (s : Unit {0}) (x : Stmt) (left : List Stmt) → stmts_left scopes s (x ∷ left) ≡ one_stmt scopes s x ++ stmts_left scopes (stay s x) left
unfolding each_parts
stmts_first scopes s x left = refl

pub stmts_none : (scopes : Scopes) (s : Unit {0}) → stmts_left scopes s [] ≡ []
unfolding each_parts
stmts_none scopes s = refl

abbrev pub arms_left : Scopes → Unit {0} → List Arm → List Part
arms_left scopes s xs = arm_list_parts scopes xs

abbrev pub one_arm : Scopes → Unit {0} → Arm → List Part
one_arm scopes s x = stmt_parts scopes x.body

pub arms_first : (scopes : Scopes) (s : Unit {0}) (x : Arm) (left : List Arm) → arms_left scopes s (x ∷ left) ≡ one_arm scopes s x ++ arms_left scopes (stay s x) left
arms_first scopes s x left = refl

pub arms_none : (scopes : Scopes) (s : Unit {0}) → arms_left scopes s [] ≡ []
arms_none scopes s = refl

-- ---- items

abbrev pub put_item : List Item → Item → List Item
put_item s i = s ++ i ∷ []

pub items_first : (scopes : Scopes) (s : List Item) (i : Item) (left : List Item) → parts_behind scopes s (i ∷ left) ≡ item_parts scopes s i ++ parts_behind scopes (put_item s i) left
unfolding parts_behind
items_first scopes s i left = refl

pub items_none : (scopes : Scopes) (s : List Item) → parts_behind scopes s [] ≡ []
unfolding parts_behind
items_none scopes s = refl

-- ---- what a step gives, where one stands

pub parameter_on : (scopes : Scopes) (m k at : ℕ) (p : Parameter) (names new : Scope) (s : ℕ × List Name) → (s.0 ≡ at) × SameNames s.1 names
    → ((before : List Name) → SameNames before names → Leads m (rules p.line (unit (data_type scopes p.of)) ∷ parameter_part at before p ∷ []) k [] × (k ≤ 65535) × SameNames (p.name ∷ before) new)
    → Leads m (one_parameter scopes s p) k [] × (k ≤ 65535) × ((suc s.0 ≡ at + 1) × SameNames (p.name ∷ s.1) new)
parameter_on scopes m k at p names new s h f =
    let r = f s.1 h.1 in
    let e = h.0 in
    (subst (λ (a : ℕ). Leads m (rules p.line (unit (data_type scopes p.of)) ∷ parameter_part a s.1 p ∷ []) k []) (sym e) r.0, r.1, (omega (arith, e), r.2))

pub parameter_stops : (scopes : Scopes) (m at : ℕ) (p : Parameter) (names : Scope) (x : FrontError) (s : ℕ × List Name) → (s.0 ≡ at) × SameNames s.1 names
    → ((before : List Name) → SameNames before names → Stops m (rules p.line (unit (data_type scopes p.of)) ∷ parameter_part at before p ∷ []) x) → Stops m (one_parameter scopes s p) x
parameter_stops scopes m at p names x s h f = subst (λ (a : ℕ). Stops m (rules p.line (unit (data_type scopes p.of)) ∷ parameter_part a s.1 p ∷ []) x) (sym h.0) (f s.1 h.1)
