-- What a file declares, item by item, as the code goes through it.
use Rattle.std.proofs.Common.{◌≡◌, ℕ, ◌+◌, ◌<◌, ◌≤◌, List, [], ◌∷◌, ◌++◌, None, Some, length, get_or, drop, refl, sym, ap, subst, ◌∙◌}
use Rattle.std.specs.Prelude.{Result, Ok, Err}
use Rattle.std.proofs.lemmas.List.{append-nil, at_drop_more, at_drop_all}
use Rattle.vera_ast.specs.declared.refusal.FrontError.{FrontError}
use Rattle.vera_ast.specs.declared.refusal.FrontError.TheVariants.{Refused, NoMemory}
use Rattle.vera_ast.specs.declared.refusal.Refusal.{Refusal}
use Rattle.vera_ast.specs.declared.tree.interfaces.Interface.{Interface}
use Rattle.vera_ast.specs.declared.tree.interfaces.Signal.{Signal}
use Rattle.vera_ast.specs.declared.tree.items.Function.{Function}
use Rattle.vera_ast.specs.declared.tree.items.Item.{Item}
use Rattle.vera_ast.specs.declared.tree.items.Item.TheVariants as item
use Rattle.vera_ast.specs.declared.tree.items.Program.{Program as ProgramItem}
use Rattle.vera_ast.specs.declared.tree.items.Task.{Task}
use Rattle.vera_ast.specs.declared.tree.items.Tree.{Tree}
use Rattle.vera_ast.specs.declared.typed.file.TypedItem.{TypedItem}
use Rattle.vera_ast.specs.declared.typed.file.TypedTree.{TypedTree}
use Rattle.vera_ast.specs.declared.typed.names.VariablePlace.TheVariants.{Program}
use Rattle.vera_ast.specs.declared.typed.types.ValueType.{ValueType}
use Rattle.typing_rules.specs.Answers.{Answers}
use Rattle.typing_rules.specs.Blocks.{PlacedDecl, declared_in, scope_of}
use Rattle.typing_rules.specs.Bodies.{item_of}
use Rattle.typing_rules.specs.Checked.{Checked, ◌>>=◌, ◌>>◌, each}
use Rattle.typing_rules.specs.DataTypes.{data_type, names_in}
use Rattle.typing_rules.specs.Declarations.{declarations}
use Rattle.typing_rules.specs.FileNames.{file_scope}
use Rattle.typing_rules.specs.Interfaces.{known_signals}
use Rattle.typing_rules.specs.Scopes.{Scopes, later}
use Rattle.typing_rules.specs.Typing.{expected, tasks_in, functions_in, interfaces_in, one_program, outline_of, typed}
use Rattle.typing_rules.specs.declared.context.Outline.{Outline}
use Rattle.typing_rules.specs.declared.names.Expected.{Expected}
use Rattle.typing_rules.specs.declared.names.KnownSignal.{KnownSignal}
use Rattle.typing_rules.specs.declared.names.Routine.{Routine}
use Rattle.vera_names.proofs.Answering.{within, follow, go_on}
use Rattle.vera_names.proofs.Items.{one_more}
use Rattle.vera_names.specs.Lists.{behind}
use Rattle.vera_types.specs.OutlineForms.{Leads, task_routine, function_routine, signals_and, items_in, items_behind, file_items, checked_items}

-- ---- a part whose result stands in front of what is left

in_front : {A B : Type 0} (p : Checked A) (f : A → B) (rest : Checked (List B)) (b : B) (done more : List B)
    → (p >>= (λ a. Ok (f a))) ≡ Ok b → more ≡ done ++ b ∷ [] → behind done (p >>= (λ a. rest >>= (λ bs. Ok (f a ∷ bs)))) ≡ behind more rest
unfolding ◌>>=◌
in_front {B = B} (Ok a) f rest b done more e is =
    let same : f a ≡ b = cc in
    one_more done (f a) rest ∙ ap (λ (x : B). behind (done ++ x ∷ []) rest) same ∙ ap (λ (bs : List B). behind bs rest) (sym is)
in_front (Err r) f rest b done more e is = absurd cc

refused_first : {A B : Type 0} (p : Checked A) (f : A → B) (rest : Checked (List B)) (r : Refusal) (done : List B)
    → (p >>= (λ a. Ok (f a))) ≡ Err r → behind done (p >>= (λ a. rest >>= (λ bs. Ok (f a ∷ bs)))) ≡ Err r
unfolding ◌>>=◌
refused_first (Ok a) f rest r done e = absurd cc
refused_first (Err q) f rest r done e = cc

-- where two parts come first
in_front_of_two : {A C B : Type 0} (p : Checked A) (q : A → Checked C) (f : A → C → B) (rest : Checked (List B)) (b : B) (done more : List B)
    → (p >>= (λ a. q a >>= (λ c. Ok (f a c)))) ≡ Ok b → more ≡ done ++ b ∷ [] → behind done (p >>= (λ a. q a >>= (λ c. rest >>= (λ bs. Ok (f a c ∷ bs))))) ≡ behind more rest
unfolding ◌>>=◌
in_front_of_two (Ok a) q f rest b done more e is = in_front (q a) (f a) rest b done more e is
in_front_of_two (Err r) q f rest b done more e is = absurd cc

refused_of_two : {A C B : Type 0} (p : Checked A) (q : A → Checked C) (f : A → C → B) (rest : Checked (List B)) (r : Refusal) (done : List B)
    → (p >>= (λ a. q a >>= (λ c. Ok (f a c)))) ≡ Err r → behind done (p >>= (λ a. q a >>= (λ c. rest >>= (λ bs. Ok (f a c ∷ bs))))) ≡ Err r
unfolding ◌>>=◌
refused_of_two (Ok a) q f rest r done e = refused_first (q a) (f a) rest r done e
refused_of_two (Err x) q f rest r done e = cc

-- ---- tasks

task_goes : (scopes : Scopes) (t : Task) (left : List Item) (b : Routine) (done more : List Routine)
    → task_routine scopes t ≡ Ok b → more ≡ done ++ b ∷ [] → behind done (tasks_in scopes (item.Task t ∷ left)) ≡ behind more (tasks_in scopes left)
unfolding tasks_in task_routine
task_goes scopes t left b done more e is = in_front (each (expected scopes) t.parameters) (λ (ps : List Expected). record { parameters = ps; gives = None }) (tasks_in scopes left) b done more e is

pub task_goes_at : (scopes : Scopes) (x : Item) (of : Task) (left : List Item) (b : Routine) (done more : List Routine)
    → x ≡ item.Task of → task_routine scopes of ≡ Ok b → more ≡ done ++ b ∷ [] → behind done (tasks_in scopes (x ∷ left)) ≡ behind more (tasks_in scopes left)
task_goes_at scopes x of left b done more is e new = subst (λ (y : Item). behind done (tasks_in scopes (y ∷ left)) ≡ behind more (tasks_in scopes left)) (sym is) (task_goes scopes of left b done more e new)

task_stops : (scopes : Scopes) (t : Task) (left : List Item) (e : FrontError) (done : List Routine)
    → Answers (task_routine scopes t) (Err e) → Answers (behind done (tasks_in scopes (item.Task t ∷ left))) (Err e)
unfolding tasks_in task_routine
task_stops scopes t left (Refused r) done h = refused_first (each (expected scopes) t.parameters) (λ (ps : List Expected). record { parameters = ps; gives = None }) (tasks_in scopes left) r done h
task_stops scopes t left NoMemory done h = tt

pub task_stops_at : (scopes : Scopes) (x : Item) (of : Task) (left : List Item) (e : FrontError) (done : List Routine)
    → x ≡ item.Task of → Answers (task_routine scopes of) (Err e) → Answers (behind done (tasks_in scopes (x ∷ left))) (Err e)
task_stops_at scopes x of left e done is h = subst (λ (y : Item). Answers (behind done (tasks_in scopes (y ∷ left))) (Err e)) (sym is) (task_stops scopes of left e done h)

-- ---- functions

function_goes : (scopes : Scopes) (f : Function) (left : List Item) (b : Routine) (done more : List Routine)
    → function_routine scopes f ≡ Ok b → more ≡ done ++ b ∷ [] → behind done (functions_in scopes (item.Function f ∷ left)) ≡ behind more (functions_in scopes left)
unfolding functions_in function_routine
function_goes scopes f left b done more e is =
    in_front_of_two (data_type scopes f.result) (λ (_ : ValueType). each (expected scopes) f.parameters) (λ (of : ValueType) (ps : List Expected). record { parameters = ps; gives = Some of }) (functions_in scopes left) b done more e is

pub function_goes_at : (scopes : Scopes) (x : Item) (of : Function) (left : List Item) (b : Routine) (done more : List Routine)
    → x ≡ item.Function of → function_routine scopes of ≡ Ok b → more ≡ done ++ b ∷ [] → behind done (functions_in scopes (x ∷ left)) ≡ behind more (functions_in scopes left)
function_goes_at scopes x of left b done more is e new = subst (λ (y : Item). behind done (functions_in scopes (y ∷ left)) ≡ behind more (functions_in scopes left)) (sym is) (function_goes scopes of left b done more e new)

function_stops : (scopes : Scopes) (f : Function) (left : List Item) (e : FrontError) (done : List Routine)
    → Answers (function_routine scopes f) (Err e) → Answers (behind done (functions_in scopes (item.Function f ∷ left))) (Err e)
unfolding functions_in function_routine
function_stops scopes f left (Refused r) done h =
    refused_of_two (data_type scopes f.result) (λ (_ : ValueType). each (expected scopes) f.parameters) (λ (of : ValueType) (ps : List Expected). record { parameters = ps; gives = Some of }) (functions_in scopes left) r done h
function_stops scopes f left NoMemory done h = tt

pub function_stops_at : (scopes : Scopes) (x : Item) (of : Function) (left : List Item) (e : FrontError) (done : List Routine)
    → x ≡ item.Function of → Answers (function_routine scopes of) (Err e) → Answers (behind done (functions_in scopes (x ∷ left))) (Err e)
function_stops_at scopes x of left e done is h = subst (λ (y : Item). Answers (behind done (functions_in scopes (y ∷ left))) (Err e)) (sym is) (function_stops scopes of left e done h)

-- ---- signals

pub signals_go : (scopes : Scopes) (n m : ℕ) (signals : List Signal) (left : List Item) (found : List KnownSignal) (done more : List (List KnownSignal))
    → known_signals scopes n signals ≡ Ok found → m ≡ n + length found → more ≡ done ++ found ∷ [] → behind done (signals_and scopes n signals left) ≡ behind more (interfaces_in scopes m left)
unfolding signals_and ◌>>=◌
signals_go scopes n m signals left found done more e at is =
    ap (λ (q : Checked (List KnownSignal)). behind done (q >>= (λ fs. interfaces_in scopes (n + length fs) left >>= (λ others. Ok (fs ∷ others))))) e
    ∙ one_more done found (interfaces_in scopes (n + length found) left)
    ∙ ap (λ (k : ℕ). behind (done ++ found ∷ []) (interfaces_in scopes k left)) (sym at)
    ∙ ap (λ (ds : List (List KnownSignal)). behind ds (interfaces_in scopes m left)) (sym is)

pub signals_stop : (scopes : Scopes) (n : ℕ) (signals : List Signal) (left : List Item) (e : FrontError) (done : List (List KnownSignal))
    → Answers (known_signals scopes n signals) (Err e) → Answers (behind done (signals_and scopes n signals left)) (Err e)
unfolding signals_and ◌>>=◌
signals_stop scopes n signals left (Refused r) done h =
    ap (λ (q : Checked (List KnownSignal)). behind done (q >>= (λ fs. interfaces_in scopes (n + length fs) left >>= (λ others. Ok (fs ∷ others))))) h
signals_stop scopes n signals left NoMemory done h = tt

pub interface_leads : {S : Type 0} (scopes : Scopes) (n : ℕ) (x : Item) (i : Interface) (signals : List Signal) (left : List Item) (done : List (List KnownSignal)) (after : S → Checked (List (List KnownSignal))) (r : Result S FrontError)
    → x ≡ item.Interface i → signals ≡ i.signals → Leads (behind done (signals_and scopes n signals left)) after r → Leads (behind done (interfaces_in scopes n (x ∷ left))) after r
unfolding interfaces_in signals_and
interface_leads scopes n x i signals left done after r e s h =
    subst (λ (y : Item). Leads (behind done (interfaces_in scopes n (y ∷ left))) after r) (sym e)
    (subst (λ (ss : List Signal). Leads (behind done (signals_and scopes n ss left)) after r) s h)

-- ---- a list that is gone through

pub leads_on : {X B : Type 0} (f g : List X → Checked (List B)) (xs : List X) (i : ℕ) (x : X) (done more : List B) (whole : Checked (List B))
    → i < length xs → x ≡ get_or xs i x → behind done (f (x ∷ drop (i + 1) xs)) ≡ behind more (g (drop (i + 1) xs)) → behind done (f (drop i xs)) ≡ whole → behind more (g (drop (i + 1) xs)) ≡ whole
leads_on {X = X} f g xs i x done more whole lt at next h =
    sym next
    ∙ ap (λ (y : X). behind done (f (y ∷ drop (i + 1) xs))) at
    ∙ sym (at_drop_more (λ (ys : List X). behind done (f ys)) xs i x lt)
    ∙ h

pub leads_nowhere : {X B : Type 0} (f : List X → Checked (List B)) (xs : List X) (i : ℕ) (x : X) (done : List B) (whole : Checked (List B)) (e : FrontError)
    → i < length xs → x ≡ get_or xs i x → Answers (behind done (f (x ∷ drop (i + 1) xs))) (Err e) → behind done (f (drop i xs)) ≡ whole → Answers whole (Err e)
leads_nowhere {X = X} f xs i x done whole (Refused r) lt at next h =
    sym h
    ∙ at_drop_more (λ (ys : List X). behind done (f ys)) xs i x lt
    ∙ ap (λ (y : X). behind done (f (y ∷ drop (i + 1) xs))) (sym at)
    ∙ next
leads_nowhere f xs i x done whole NoMemory lt at next h = tt

pub leads_to : {X B : Type 0} (f : List X → Checked (List B)) (xs : List X) (i : ℕ) (done : List B) (whole : Checked (List B)) → f [] ≡ Ok [] → length xs ≤ i → behind done (f (drop i xs)) ≡ whole → whole ≡ Ok done
leads_to {X = X} {B = B} f xs i done whole none le h =
    sym h ∙ at_drop_all (λ (ys : List X). behind done (f ys)) xs i le ∙ ap (λ (q : Checked (List B)). behind done q) none ∙ ap (λ (bs : List B). Ok bs) (append-nil done)

-- ---- no item is left

pub tasks_in_none : (scopes : Scopes) → tasks_in scopes [] ≡ Ok []
unfolding tasks_in
tasks_in_none scopes = refl

pub functions_in_none : (scopes : Scopes) → functions_in scopes [] ≡ Ok []
unfolding functions_in
functions_in_none scopes = refl

pub interfaces_in_none : (scopes : Scopes) (n : ℕ) → interfaces_in scopes n [] ≡ Ok []
unfolding interfaces_in
interfaces_in_none scopes n = refl

-- ---- the whole

give : List TypedItem → Checked TypedTree
give items = Ok (record { items = items })

items_in_is : (scopes : Scopes) (variables : List PlacedDecl) (items : List Item)
    → (items_in scopes variables items >>= give) ≡ (outline_of scopes items >>= (λ o. each (item_of o scopes variables) items >>= give))
unfolding items_in
items_in_is scopes variables items = within (outline_of scopes items) (λ (o : Outline). each (item_of o scopes variables) items) give

items_behind_is : (outer : Scopes) (main : ProgramItem) (items : List Item)
    → (items_behind outer main items >>= give) ≡ (declared_in outer Program 0 main.block.decls >>= (λ vs. outline_of (scope_of vs ∷ outer) items >>= (λ o. each (item_of o (scope_of vs ∷ outer) vs) items >>= give)))
unfolding items_behind
items_behind_is outer main items =
    within (declared_in outer Program 0 main.block.decls) (λ (vs : List PlacedDecl). items_in (scope_of vs ∷ outer) vs items) give
    ∙ follow (declared_in outer Program 0 main.block.decls) (λ (vs : List PlacedDecl). items_in (scope_of vs ∷ outer) vs items >>= give) (λ (vs : List PlacedDecl). outline_of (scope_of vs ∷ outer) items >>= (λ o. each (item_of o (scope_of vs ∷ outer) vs) items >>= give)) (λ vs. items_in_is (scope_of vs ∷ outer) vs items)

file_items_is : (outer : Scopes) (main : ProgramItem) (items : List Item)
    → (file_items outer main items >>= give) ≡ (declarations (later (names_in main.block.decls) ∷ outer) items >>= (λ _. declared_in outer Program 0 main.block.decls >>= (λ vs. outline_of (scope_of vs ∷ outer) items >>= (λ o. each (item_of o (scope_of vs ∷ outer) vs) items >>= give))))
unfolding file_items
file_items_is outer main items =
    within (declarations (later (names_in main.block.decls) ∷ outer) items) (λ (_ : Unit {0}). items_behind outer main items) give
    ∙ follow (declarations (later (names_in main.block.decls) ∷ outer) items) (λ (_ : Unit {0}). items_behind outer main items >>= give) (λ (_ : Unit {0}). declared_in outer Program 0 main.block.decls >>= (λ vs. outline_of (scope_of vs ∷ outer) items >>= (λ o. each (item_of o (scope_of vs ∷ outer) vs) items >>= give))) (λ _. items_behind_is outer main items)

check_is : (tree : Tree) → (checked_items tree.items >>= give) ≡ typed tree
unfolding checked_items typed give
check_is tree =
    within (one_program tree.items) (λ (main : ProgramItem). file_items (file_scope tree.items ∷ []) main tree.items) give
    ∙ follow (one_program tree.items) (λ (main : ProgramItem). file_items (file_scope tree.items ∷ []) main tree.items >>= give) (λ (main : ProgramItem). declarations (later (names_in main.block.decls) ∷ file_scope tree.items ∷ []) tree.items >>= (λ _. declared_in (file_scope tree.items ∷ []) Program 0 main.block.decls >>= (λ vs. outline_of (scope_of vs ∷ file_scope tree.items ∷ []) tree.items >>= (λ o. each (item_of o (scope_of vs ∷ file_scope tree.items ∷ []) vs) tree.items >>= give)))) (λ main. file_items_is (file_scope tree.items ∷ []) main tree.items)

pub check_ok : (tree : Tree) (items : List TypedItem) → checked_items tree.items ≡ Ok items → typed tree ≡ Ok (record { items = items })
unfolding ◌>>=◌ give
check_ok tree items e = sym (check_is tree) ∙ ap (λ (q : Checked (List TypedItem)). q >>= give) e

pub check_refused : (tree : Tree) (e : FrontError) → Answers (checked_items tree.items) (Err e) → Answers (typed tree) (Err e)
unfolding ◌>>=◌
check_refused tree (Refused r) h = sym (check_is tree) ∙ ap (λ (q : Checked (List TypedItem)). q >>= give) h
check_refused tree NoMemory h = tt

pub items_of_one : (items : List Item) (main : ProgramItem) (r : Result (List TypedItem) FrontError) → Ok main ≡ one_program items → Answers (file_items (file_scope items ∷ []) main items) r → Answers (checked_items items) r
unfolding checked_items
items_of_one items main r e h = go_on (one_program items) main (λ (of : ProgramItem). file_items (file_scope items ∷ []) of items) r (sym e) h

pub not_one : (items : List Item) (r : Refusal) → Err r ≡ one_program items → checked_items items ≡ Err r
unfolding checked_items ◌>>=◌
not_one items r e = ap (λ (p : Checked ProgramItem). p >>= (λ of. file_items (file_scope items ∷ []) of items)) (sym e)
