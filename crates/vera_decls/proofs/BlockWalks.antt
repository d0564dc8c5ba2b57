-- Blocks in the walk through the declarations, as the code goes through their parts.
use Rattle.std.proofs.Common.{◌≡◌, ℕ, ◌≤◌, List, [], ◌∷◌, ◌++◌, Option, Some, None, refl, sym, ap, subst, ◌∙◌}
use Rattle.std.specs.Prelude.{Result, Ok}
use Rattle.std.proofs.lemmas.List.{append-nil}
use Rattle.vera_ast.specs.declared.refusal.FrontError.{FrontError}
use Rattle.vera_ast.specs.declared.tree.declarations.Decl.{Decl}
use Rattle.vera_ast.specs.declared.tree.expressions.Expr.{Expr}
use Rattle.vera_ast.specs.declared.tree.statements.Arm.{Arm}
use Rattle.vera_ast.specs.declared.tree.statements.Block.{Block}
use Rattle.vera_ast.specs.declared.tree.statements.For.{For}
use Rattle.vera_ast.specs.declared.tree.statements.Fork.{Fork}
use Rattle.vera_ast.specs.declared.tree.statements.If.{If}
use Rattle.vera_ast.specs.declared.tree.statements.Repeat.{Repeat}
use Rattle.vera_ast.specs.declared.tree.statements.Stmt.{Stmt}
use Rattle.vera_ast.specs.declared.tree.statements.Stmt.TheViews as views
use Rattle.vera_ast.specs.declared.tree.statements.While.{While}
use Rattle.vera_decls.proofs.BlockViews.{option_parts, inner_parts, if_parts, while_parts, repeat_parts, for_parts, case_parts, fork_parts}
use Rattle.vera_decls.proofs.PartSteps.{leads_itself}
use Rattle.vera_decls.proofs.WalkParts.{stops_first, walks_behind}
use Rattle.typing_rules.specs.DataTypes.{names_in}
use Rattle.typing_rules.specs.Declarations.{Part, decl_parts, stmt_parts, each_parts, block_parts, body_parts}
use Rattle.typing_rules.specs.Scopes.{Scope, Scopes, later}
use Rattle.vera_decls.specs.Walks.{Leads, Stops, CountsTo, block_inside, arm_list_parts}

-- ---- parts that are the same

pub counts_as : (n : ℕ) (one other : List Part) (result : Result ℕ FrontError) → one ≡ other → CountsTo n one result → CountsTo n other result
counts_as n one other result e h = subst (λ (ps : List Part). CountsTo n ps result) e h

pub no_parts : (n : ℕ) (parts : List Part) → parts ≡ [] → n ≤ 65535 → CountsTo n parts (Ok n)
no_parts n parts e within = (subst (λ (ps : List Part). Leads n ps n []) (sym e) (leads_itself n []), within, tt)

-- ---- a block

pub block_stops : (n : ℕ) (scopes inner : Scopes) (decls : List Decl) (xs : List Stmt) (e : FrontError) → inner ≡ scopes → Stops n (decl_parts inner [] decls) e → Stops n (decl_parts scopes [] decls ++ each_parts scopes xs) e
block_stops n scopes inner decls xs e is h =
    stops_first n (decl_parts scopes [] decls) (each_parts scopes xs) e (subst (λ (s : Scopes). Stops n (decl_parts s [] decls) e) is h)

pub block_walks : (n : ℕ) (scopes inner : Scopes) (decls : List Decl) (xs : List Stmt) (m : ℕ) (result : Result ℕ FrontError) → inner ≡ scopes → Leads n (decl_parts inner [] decls) m [] → CountsTo m (each_parts inner xs) result
    → CountsTo n (decl_parts scopes [] decls ++ each_parts scopes xs) result
block_walks n scopes inner decls xs m result is a b =
    walks_behind (λ (k : ℕ). k) (λ (k : ℕ). Unit {0}) n (decl_parts scopes [] decls) (each_parts scopes xs) m result
    (subst (λ (s : Scopes). Leads n (decl_parts s [] decls) m []) is a) (subst (λ (s : Scopes). CountsTo m (each_parts s xs) result) is b)

pub inside_walks : (n : ℕ) (scopes : Scopes) (names : Scope) (decls : List Decl) (xs : List Stmt) (result : Result ℕ FrontError) → names ≡ later (names_in decls)
    → CountsTo n (decl_parts (names ∷ scopes) [] decls ++ each_parts (names ∷ scopes) xs) result → CountsTo n (block_inside scopes decls xs) result
inside_walks n scopes names decls xs result is h = subst (λ (s : Scope). CountsTo n (decl_parts (s ∷ scopes) [] decls ++ each_parts (s ∷ scopes) xs) result) is h

read_block_stops : (n : ℕ) (scopes : Scopes) (b : Block) (e : FrontError) → Stops n (decl_parts scopes [] b.decls) e → Stops n (block_parts scopes b) e
unfolding block_parts
read_block_stops n scopes b e h = stops_first n (decl_parts scopes [] b.decls) (each_parts scopes b.stmts) e h

pub whole_block_stops : (n : ℕ) (scopes : Scopes) (b : Block) (decls : List Decl) (e : FrontError) → decls ≡ b.decls → Stops n (decl_parts scopes [] decls) e → Stops n (block_parts scopes b) e
whole_block_stops n scopes b decls e is h = read_block_stops n scopes b e (subst (λ (ds : List Decl). Stops n (decl_parts scopes [] ds) e) is h)

read_block_walks : (n : ℕ) (scopes : Scopes) (b : Block) (m : ℕ) (result : Result ℕ FrontError) → Leads n (decl_parts scopes [] b.decls) m [] → CountsTo m (each_parts scopes b.stmts) result → CountsTo n (block_parts scopes b) result
unfolding block_parts
read_block_walks n scopes b m result a c = walks_behind (λ (k : ℕ). k) (λ (k : ℕ). Unit {0}) n (decl_parts scopes [] b.decls) (each_parts scopes b.stmts) m result a c

pub whole_block_walks : (n : ℕ) (scopes : Scopes) (b : Block) (decls : List Decl) (xs : List Stmt) (m : ℕ) (result : Result ℕ FrontError) → decls ≡ b.decls → xs ≡ b.stmts
    → Leads n (decl_parts scopes [] decls) m [] → CountsTo m (each_parts scopes xs) result → CountsTo n (block_parts scopes b) result
whole_block_walks n scopes b decls xs m result d x a c =
    read_block_walks n scopes b m result (subst (λ (ds : List Decl). Leads n (decl_parts scopes [] ds) m []) d a) (subst (λ (ss : List Stmt). CountsTo m (each_parts scopes ss) result) x c)

inside_is : (scopes : Scopes) (b : Block) → block_inside scopes b.decls b.stmts ≡ body_parts scopes b
unfolding block_parts
inside_is scopes b = refl

read_inside : (scopes : Scopes) (b : Block) (decls : List Decl) (xs : List Stmt) → decls ≡ b.decls → xs ≡ b.stmts → block_inside scopes decls xs ≡ block_inside scopes b.decls b.stmts
read_inside scopes b decls xs d x = ap (λ (ds : List Decl). block_inside scopes ds xs) d ∙ ap (λ (ss : List Stmt). block_inside scopes b.decls ss) x

pub body_walks : (n : ℕ) (scopes : Scopes) (b : Block) (decls : List Decl) (xs : List Stmt) (result : Result ℕ FrontError) → decls ≡ b.decls → xs ≡ b.stmts → CountsTo n (block_inside scopes decls xs) result → CountsTo n (body_parts scopes b) result
body_walks n scopes b decls xs result d x h = counts_as n (block_inside scopes decls xs) (body_parts scopes b) result (read_inside scopes b decls xs d x ∙ inside_is scopes b) h

-- ---- statements

of_stmt : (scopes : Scopes) (s view : Stmt) (parts : List Part) → s ≡ view → stmt_parts scopes view ≡ parts → parts ≡ stmt_parts scopes s
of_stmt scopes s view parts is e = sym (ap (λ (x : Stmt). stmt_parts scopes x) is ∙ e)

pub inner_walks : (n : ℕ) (scopes : Scopes) (s : Stmt) (b : Block) (decls : List Decl) (xs : List Stmt) (result : Result ℕ FrontError) → s ≡ views.Block b → decls ≡ b.decls → xs ≡ b.stmts → CountsTo n (block_inside scopes decls xs) result → CountsTo n (stmt_parts scopes s) result
inner_walks n scopes s b decls xs result is d x h =
    counts_as n (block_inside scopes decls xs) (stmt_parts scopes s) result (read_inside scopes b decls xs d x ∙ of_stmt scopes s (views.Block b) (block_inside scopes b.decls b.stmts) is (inner_parts scopes b)) h

if_is : (scopes : Scopes) (s : Stmt) (x : If) (first : Stmt) (o : Option Stmt) → s ≡ views.If x → first ≡ x.when_true → x.when_false ≡ o → stmt_parts scopes first ++ option_parts scopes o ≡ stmt_parts scopes s
if_is scopes s x first o is f e =
    ap (λ (y : Stmt). stmt_parts scopes y ++ option_parts scopes o) f ∙ ap (λ (p : Option Stmt). stmt_parts scopes x.when_true ++ option_parts scopes p) (sym e)
    ∙ of_stmt scopes s (views.If x) (stmt_parts scopes x.when_true ++ option_parts scopes x.when_false) is (if_parts scopes x)

pub if_stops : (n : ℕ) (scopes : Scopes) (s : Stmt) (x : If) (first : Stmt) (e : FrontError) → s ≡ views.If x → first ≡ x.when_true → Stops n (stmt_parts scopes first) e → Stops n (stmt_parts scopes s) e
if_stops n scopes s x first e is f h =
    subst (λ (ps : List Part). Stops n ps e) (if_is scopes s x first x.when_false is f refl) (stops_first n (stmt_parts scopes first) (option_parts scopes x.when_false) e h)

pub if_walks : (n : ℕ) (scopes : Scopes) (s : Stmt) (x : If) (first otherwise second : Stmt) (m : ℕ) (result : Result ℕ FrontError) → s ≡ views.If x → first ≡ x.when_true → x.when_false ≡ Some otherwise → second ≡ otherwise
    → Leads n (stmt_parts scopes first) m [] → CountsTo m (stmt_parts scopes second) result → CountsTo n (stmt_parts scopes s) result
if_walks n scopes s x first otherwise second m result is f o g a b =
    counts_as n (stmt_parts scopes first ++ stmt_parts scopes otherwise) (stmt_parts scopes s) result (if_is scopes s x first (Some otherwise) is f o)
    (walks_behind (λ (k : ℕ). k) (λ (k : ℕ). Unit {0}) n (stmt_parts scopes first) (stmt_parts scopes otherwise) m result a (subst (λ (y : Stmt). CountsTo m (stmt_parts scopes y) result) g b))

pub if_alone : (n : ℕ) (scopes : Scopes) (s : Stmt) (x : If) (first : Stmt) (result : Result ℕ FrontError) → s ≡ views.If x → first ≡ x.when_true → x.when_false ≡ None → CountsTo n (stmt_parts scopes first) result → CountsTo n (stmt_parts scopes s) result
if_alone n scopes s x first result is f o h =
    counts_as n (stmt_parts scopes first) (stmt_parts scopes s) result (sym (append-nil (stmt_parts scopes first)) ∙ if_is scopes s x first None is f o) h

pub while_walks : (n : ℕ) (scopes : Scopes) (s : Stmt) (x : While) (body : Stmt) (result : Result ℕ FrontError) → s ≡ views.While x → body ≡ x.body → CountsTo n (stmt_parts scopes body) result → CountsTo n (stmt_parts scopes s) result
while_walks n scopes s x body result is f h =
    counts_as n (stmt_parts scopes body) (stmt_parts scopes s) result (ap (λ (y : Stmt). stmt_parts scopes y) f ∙ of_stmt scopes s (views.While x) (stmt_parts scopes x.body) is (while_parts scopes x)) h

pub repeat_walks : (n : ℕ) (scopes : Scopes) (s : Stmt) (x : Repeat) (body : Stmt) (result : Result ℕ FrontError) → s ≡ views.Repeat x → body ≡ x.body → CountsTo n (stmt_parts scopes body) result → CountsTo n (stmt_parts scopes s) result
repeat_walks n scopes s x body result is f h =
    counts_as n (stmt_parts scopes body) (stmt_parts scopes s) result (ap (λ (y : Stmt). stmt_parts scopes y) f ∙ of_stmt scopes s (views.Repeat x) (stmt_parts scopes x.body) is (repeat_parts scopes x)) h

pub for_walks : (n : ℕ) (scopes : Scopes) (s : Stmt) (x : For) (body : Stmt) (result : Result ℕ FrontError) → s ≡ views.For x → body ≡ x.body → CountsTo n (stmt_parts scopes body) result → CountsTo n (stmt_parts scopes s) result
for_walks n scopes s x body result is f h =
    counts_as n (stmt_parts scopes body) (stmt_parts scopes s) result (ap (λ (y : Stmt). stmt_parts scopes y) f ∙ of_stmt scopes s (views.For x) (stmt_parts scopes x.body) is (for_parts scopes x)) h

pub case_walks : (n : ℕ) (scopes : Scopes) (s : Stmt) (line : ℕ) (value : Expr) (all arms : List Arm) (result : Result ℕ FrontError) → s ≡ views.Case line value all → arms ≡ all → CountsTo n (arm_list_parts scopes arms) result → CountsTo n (stmt_parts scopes s) result
case_walks n scopes s line value all arms result is f h =
    counts_as n (arm_list_parts scopes arms) (stmt_parts scopes s) result
    (ap (λ (xs : List Arm). arm_list_parts scopes xs) f ∙ of_stmt scopes s (views.Case line value all) (arm_list_parts scopes all) is (case_parts scopes line value all)) h

pub fork_walks : (n : ℕ) (scopes : Scopes) (s : Stmt) (x : Fork) (branches : List Stmt) (result : Result ℕ FrontError) → s ≡ views.Fork x → branches ≡ x.branches → CountsTo n (each_parts scopes branches) result → CountsTo n (stmt_parts scopes s) result
fork_walks n scopes s x branches result is f h =
    counts_as n (each_parts scopes branches) (stmt_parts scopes s) result
    (ap (λ (xs : List Stmt). each_parts scopes xs) f ∙ of_stmt scopes s (views.Fork x) (each_parts scopes x.branches) is (fork_parts scopes x)) h
