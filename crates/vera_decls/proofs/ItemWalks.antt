-- Items in the walk through the declarations, as the code goes through their parts.
use Rattle.std.proofs.Common.{◌≡◌, ℕ, List, [], ◌∷◌, ◌++◌, refl, sym, ap, subst, ◌∙◌}
use Rattle.std.specs.Prelude.{Result, Ok, Err}
use Rattle.vera_ast.specs.declared.refusal.FrontError.{FrontError}
use Rattle.vera_ast.specs.declared.refusal.FrontError.TheVariants.{Refused, NoMemory}
use Rattle.vera_ast.specs.declared.tree.interfaces.Interface.{Interface}
use Rattle.vera_ast.specs.declared.tree.interfaces.Signal.{Signal}
use Rattle.vera_ast.specs.declared.tree.items.Function.{Function}
use Rattle.vera_ast.specs.declared.tree.items.Item.{Item}
use Rattle.vera_ast.specs.declared.tree.items.Item.TheVariants as item
use Rattle.vera_ast.specs.declared.tree.items.Parameter.{Parameter}
use Rattle.vera_ast.specs.declared.tree.items.Program.{Program}
use Rattle.vera_ast.specs.declared.tree.items.Task.{Task}
use Rattle.vera_ast.specs.declared.tree.statements.Block.{Block}
use Rattle.vera_decls.proofs.ItemParts.{item_is}
use Rattle.vera_names.proofs.NameSets.{names_of_none}
use Rattle.vera_decls.proofs.PartSteps.{leads_both, walk_passes, walk_refused}
use Rattle.vera_decls.proofs.WalkParts.{stops_first, walks_behind}
use Rattle.typing_rules.specs.Answers.{Answers}
use Rattle.typing_rules.specs.DataTypes.{data_type}
use Rattle.typing_rules.specs.Declarations.{Part, rules, unit, name_parts, parameter_parts, parameter_names, body_parts, block_parts, signal_parts, item_parts, parts_behind, declarations}
use Rattle.typing_rules.specs.FileNames.{task_name, item_names, file_names, signals_of, signals_in, output_names}
use Rattle.typing_rules.specs.Scopes.{Name, Scope, Scopes, later}
use Rattle.vera_decls.specs.Walks.{Leads, Stops, Walks, CountsTo, OutputsStand, own_parts}
use Rattle.vera_names.specs.NameSets.{SameNames}
use Rattle.vera_decls.specs.declared.declarations.counting.Walked.{Walked}
use Rattle.vera_decls.specs.declared.declarations.signals.Signalled.{Signalled}

-- ---- the block of a task or function, by what is in sight

pub body_sees : (n : ℕ) (scopes inner : Scopes) (b : Block) (result : Result ℕ FrontError) → inner ≡ scopes → CountsTo n (body_parts inner b) result → CountsTo n (body_parts scopes b) result
body_sees n scopes inner b result is h = subst (λ (s : Scopes). CountsTo n (body_parts s b) result) is h

pub sees_more : (outer : Scopes) (read scope : Scope) → read ≡ scope → read ∷ outer ≡ scope ∷ outer
sees_more outer read scope is = ap (λ (s : Scope). s ∷ outer) is

pub sees_around : (scope : Scope) (read outer : Scopes) → read ≡ outer → scope ∷ read ≡ scope ∷ outer
sees_around scope read outer is = ap (λ (s : Scopes). scope ∷ s) is

pub sees_parameters : (outer : Scopes) (read parameters : List Parameter) → read ≡ parameters → later (parameter_names read) ∷ outer ≡ later (parameter_names parameters) ∷ outer
sees_parameters outer read parameters is = ap (λ (ps : List Parameter). later (parameter_names ps) ∷ outer) is

pub sees_name : (scope : Scope) (outer : Scopes) (named : Scope) (read name : Name) → named ≡ later (read ∷ []) → read ≡ name → scope ∷ named ∷ outer ≡ scope ∷ later (name ∷ []) ∷ outer
sees_name scope outer named read name is e = ap (λ (s : Scope). scope ∷ s ∷ outer) (is ∙ ap (λ (x : Name). later (x ∷ [])) e)

-- ---- parts one after the other, which come to a whole

pub first_stops : (n : ℕ) (one more whole : List Part) (e : FrontError) → one ++ more ≡ whole → Stops n one e → Stops n whole e
first_stops n one more whole e is h = subst (λ (ps : List Part). Stops n ps e) is (stops_first n one more e h)

pub more_stop : (n : ℕ) (one more whole : List Part) (m : ℕ) (e : FrontError) → one ++ more ≡ whole → Leads n one m [] → Stops m more e → Stops n whole e
more_stop n one more whole m e is a h = subst (λ (ps : List Part). Stops n ps e) is (walks_behind (λ (k : ℕ). k) (λ (k : ℕ). Unit {0}) n one more m (Err e) a h)

pub more_lead : (n : ℕ) (one more whole : List Part) (m k : ℕ) → one ++ more ≡ whole → Leads n one m [] → Leads m more k [] → Leads n whole k []
more_lead n one more whole m k is a b = subst (λ (ps : List Part). Leads n ps k []) is (leads_both n one more m k a b)

-- ---- the parts of a task, of a function and of a program, as they are read

pub task_is : (scopes : Scopes) (stand : List Name) (t : Task) (name : Name) (some same : List Parameter) → name ≡ task_name t.name → some ≡ t.parameters → same ≡ t.parameters
    → name_parts t.line stand (name ∷ []) ++ (parameter_parts scopes 0 [] some ++ body_parts (later (parameter_names same) ∷ scopes) t.block) ≡ own_parts scopes stand (item.Task t)
task_is scopes stand t name some same e f g =
    ap (λ (x : Name). name_parts t.line stand (x ∷ []) ++ (parameter_parts scopes 0 [] some ++ body_parts (later (parameter_names same) ∷ scopes) t.block)) e
    ∙ ap (λ (ps : List Parameter). name_parts t.line stand (task_name t.name ∷ []) ++ (parameter_parts scopes 0 [] ps ++ body_parts (later (parameter_names same) ∷ scopes) t.block)) f
    ∙ ap (λ (ps : List Parameter). name_parts t.line stand (task_name t.name ∷ []) ++ (parameter_parts scopes 0 [] t.parameters ++ body_parts (later (parameter_names ps) ∷ scopes) t.block)) g

abbrev pub function_sees : Scopes → Function → Scopes
function_sees scopes f = later (parameter_names f.parameters) ∷ later (f.name ∷ []) ∷ scopes

pub function_is : (scopes : Scopes) (stand : List Name) (f : Function) (name : Name) (some : List Parameter) → name ≡ f.name → some ≡ f.parameters
    → (rules f.line (unit (data_type scopes f.result)) ∷ []) ++ (name_parts f.line stand (name ∷ []) ++ (parameter_parts scopes 0 [] some ++ body_parts (function_sees scopes f) f.block)) ≡ own_parts scopes stand (item.Function f)
function_is scopes stand f name some e g =
    ap (λ (x : Name). rules f.line (unit (data_type scopes f.result)) ∷ (name_parts f.line stand (x ∷ []) ++ (parameter_parts scopes 0 [] some ++ body_parts (function_sees scopes f) f.block))) e
    ∙ ap (λ (ps : List Parameter). rules f.line (unit (data_type scopes f.result)) ∷ (name_parts f.line stand (f.name ∷ []) ++ (parameter_parts scopes 0 [] ps ++ body_parts (function_sees scopes f) f.block))) g

pub program_is : (scopes : Scopes) (stand : List Name) (p : Program) (name : Name) → name ≡ p.name → name_parts p.line stand (name ∷ []) ++ block_parts scopes p.block ≡ own_parts scopes stand (item.Program p)
program_is scopes stand p name e = ap (λ (x : Name). name_parts p.line stand (x ∷ []) ++ block_parts scopes p.block) e

pub name_as : (stand : List Name) (read name : Name) (s : Scope) → read ≡ name → SameNames (stand ++ read ∷ []) s → SameNames (stand ++ name ∷ []) s
name_as stand read name s e k = subst (λ (x : Name). SameNames (stand ++ x ∷ []) s) e k

-- ---- an item, but for its signals

abbrev pub NameWalks : Scope → ℕ → ℕ → Name → Result Walked FrontError → Type 0
NameWalks names n line name result = (stand : List Name) → SameNames stand names → Walks (λ (w : Walked). w.count) (λ (w : Walked). SameNames (stand ++ name ∷ []) w.names) n (name_parts line stand (name ∷ [])) result

pub name_walks : (names : Scope) (n line : ℕ) (read name : Name) (result : Result Walked FrontError) → read ≡ name → NameWalks names n line read result → NameWalks names n line name result
name_walks names n line read name result e h = subst (λ (x : Name). NameWalks names n line x result) e h

abbrev pub OwnWalks : Scopes → Scope → ℕ → Item → Result Walked FrontError → Type 0
OwnWalks scopes names n i result = (stand : List Name) → SameNames stand names → Walks (λ (w : Walked). w.count) (λ (w : Walked). SameNames (stand ++ item_names i) w.names) n (own_parts scopes stand i) result

pub own_walks : (scopes : Scopes) (names : Scope) (n : ℕ) (i view : Item) (result : Result Walked FrontError) → i ≡ view → OwnWalks scopes names n view result → OwnWalks scopes names n i result
own_walks scopes names n i view result e h = subst (λ (x : Item). OwnWalks scopes names n x result) (sym e) h

-- ---- the signals of an item

abbrev pub SignalWalks : Scopes → Scope → ℕ → ℕ → List Signal → Result Signalled FrontError → Type 0
SignalWalks scopes outputs count n signals result = (before : List Signal) → OutputsStand before outputs count
    → Walks (λ (s : Signalled). s.count) (λ (s : Signalled). OutputsStand (before ++ signals) s.outputs s.signals) n (signal_parts scopes before [] signals) result

pub signal_walks : (scopes : Scopes) (outputs : Scope) (count n : ℕ) (read signals : List Signal) (result : Result Signalled FrontError) → read ≡ signals → SignalWalks scopes outputs count n read result → SignalWalks scopes outputs count n signals result
signal_walks scopes outputs count n read signals result e h = subst (λ (ss : List Signal). SignalWalks scopes outputs count n ss result) e h

pub interface_signals : (i : Item) (x : Interface) (read : List Signal) → i ≡ item.Interface x → read ≡ x.signals → read ≡ signals_of i
interface_signals i x read is e = e ∙ sym (ap signals_of is)

-- ---- one more item

pub own_stops : (n : ℕ) (scopes : Scopes) (before : List Item) (i : Item) (e : FrontError) → Stops n (own_parts scopes (file_names before) i) e → Stops n (item_parts scopes before i) e
own_stops n scopes before i e h = first_stops n (own_parts scopes (file_names before) i) (signal_parts scopes (signals_in before) [] (signals_of i)) (item_parts scopes before i) e (sym (item_is scopes before i)) h

pub signals_stop : (n : ℕ) (scopes : Scopes) (before : List Item) (i : Item) (m : ℕ) (e : FrontError) → Leads n (own_parts scopes (file_names before) i) m [] → Stops m (signal_parts scopes (signals_in before) [] (signals_of i)) e → Stops n (item_parts scopes before i) e
signals_stop n scopes before i m e a h = more_stop n (own_parts scopes (file_names before) i) (signal_parts scopes (signals_in before) [] (signals_of i)) (item_parts scopes before i) m e (sym (item_is scopes before i)) a h

pub item_leads : (n : ℕ) (scopes : Scopes) (before : List Item) (i : Item) (m k : ℕ) → Leads n (own_parts scopes (file_names before) i) m [] → Leads m (signal_parts scopes (signals_in before) [] (signals_of i)) k [] → Leads n (item_parts scopes before i) k []
item_leads n scopes before i m k a b = more_lead n (own_parts scopes (file_names before) i) (signal_parts scopes (signals_in before) [] (signals_of i)) (item_parts scopes before i) m k (sym (item_is scopes before i)) a b

-- ---- all items

pub no_file_names : (s : Scope) → s ≡ [] → SameNames (file_names []) s
unfolding file_names
no_file_names s e = names_of_none s e

pub no_outputs : (s : Scope) → s ≡ [] → OutputsStand (signals_in []) s 0
unfolding signals_in output_names
no_outputs s e = record { names = names_of_none s e; number = refl }

pub declarations_stop : (scopes : Scopes) (items : List Item) (e : FrontError) → Stops 0 (parts_behind scopes [] items) e → Answers (declarations scopes items) (Err e)
unfolding declarations
declarations_stop scopes items (Refused r) h = walk_refused (parts_behind scopes [] items) r h
declarations_stop scopes items NoMemory h = tt

pub declarations_pass : (scopes : Scopes) (items : List Item) (m : ℕ) → Leads 0 (parts_behind scopes [] items) m [] → declarations scopes items ≡ Ok tt
unfolding declarations
declarations_pass scopes items m h = walk_passes (parts_behind scopes [] items) m h
