-- The walk over statements, as the code reads their trees.
use Rattle.std.proofs.Common.{◌≡◌, ℕ, List, [], ◌∷◌, Option, Some, None, length, refl, ap, ◌∙◌}
use Rattle.std.specs.Prelude.{suc, nat_lt, Result, Ok, Err}
use mathlib.Core.Former.{Count}
use Rattle.vera_ast.proofs.StmtViews.{block-is, if-is, while-is, repeat-is, for-is, case-is, fork-is, no_stmts-is, stmts-is, no_arms-is, arms-is, no_alternative-is, alternative-is}
use Rattle.vera_ast.specs.declared.tree.expressions.Expr.{Expr}
use Rattle.vera_ast.specs.declared.tree.statements.Stmt.{Stmt, Row_of-Stmt}
use Rattle.vera_ast.specs.declared.tree.statements.Stmt.TheViews as views
use Rattle.vera_ast.specs.declared.tree.statements.Stmt.TheBlock.{Row_of-Arm, Held-If-when_false, hidden-the_row-Stmt-0 as stmts, hidden-the_row-Arm-2 as arms, back-If-when_false as alternative}
use Rattle.vera_ast.specs.declared.tree.statements.Arm.{Arm}
use Rattle.vera_ast.specs.declared.tree.statements.Block.{Block}
use Rattle.vera_ast.specs.declared.tree.statements.For.{For}
use Rattle.vera_ast.specs.declared.tree.statements.Fork.{Fork}
use Rattle.vera_ast.specs.declared.tree.statements.If.{If}
use Rattle.vera_ast.specs.declared.tree.statements.Repeat.{Repeat}
use Rattle.vera_ast.specs.declared.tree.statements.While.{While}
use Rattle.vera_ast.specs.declared.typed.stmt.TypedArm.{TypedArm}
use Rattle.vera_ast.specs.declared.typed.stmt.TypedStmt.{TypedStmt}
use Rattle.vera_ast.specs.declared.typed.stmt.TypedStmt.TheVariants as typed
use Rattle.vera_ast.specs.declared.typed.stmt.TypedBlock.{TypedBlock}
use Rattle.vera_ast.specs.declared.refusal.FrontError.{FrontError}
use Rattle.vera_names.proofs.Answering.{follow, along}
use Rattle.typing_rules.specs.Answers.{Answers}
use Rattle.vera_ast.specs.declared.tree.expressions.Postfix.{Postfix}
use Rattle.vera_ast.specs.declared.tree.statements.Drive.{Drive}
use Rattle.vera_ast.specs.declared.tree.statements.Edge.{Edge}
use Rattle.vera_ast.specs.declared.tree.statements.Expect.{Expect}
use Rattle.vera_ast.specs.declared.tree.statements.Step.{Step}
use Rattle.vera_ast.specs.declared.tree.statements.Stmt.TheVariants as s
use Rattle.vera_ast.specs.declared.tree.statements.Void.{Void}
use Rattle.typing_rules.specs.Assignments.{step}
use Rattle.typing_rules.specs.Drives.{drive_stmt}
use Rattle.typing_rules.specs.Waits.{edge_stmt, expect_stmt}
use Rattle.typing_rules.specs.Blocks.{PlacedDecl, local_decls, inside, typed_decls}
use Rattle.typing_rules.specs.Bodies.{block, block_with}
use Rattle.typing_rules.specs.Calls.{is_function}
use Rattle.typing_rules.specs.Checked.{Checked, ◌>>=◌, ◌>>◌, keeps, each, perhaps, not_here, past_limit}
use Rattle.typing_rules.specs.Statements.{vector, arm_label, void_stmt, call_stmt, in_branch, branch_count, walk_stmt, walk_stmts, walk_otherwise, walk_arms}
use Rattle.vera_types.specs.StmtForms.{in_loop_only, if_stmt, while_stmt, repeat_stmt, for_stmt, arm, case_stmt, fork_stmt}
use Rattle.typing_rules.specs.declared.context.Context.{Context}

-- ---- steps within steps

regroup : {A B C : Type 0} (p : Checked A) (q : Checked B) (r : Checked (List C)) (f : A → B → C) → (p >>= (λ a. q >>= (λ b. r >>= (λ cs. Ok (f a b ∷ cs))))) ≡ ((p >>= (λ a. q >>= (λ b. Ok (f a b)))) >>= (λ c. r >>= (λ cs. Ok (c ∷ cs))))
unfolding ◌>>=◌
regroup (Ok a) (Ok b) r f = refl
regroup (Ok a) (Err e) r f = refl
regroup (Err e) q r f = refl

wrap : {A B : Type 0} (p : Checked A) (q : Checked B) (f : A → B → TypedBlock) → (p >>= (λ a. q >>= (λ b. Ok (typed.Block (f a b))))) ≡ ((p >>= (λ a. q >>= (λ b. Ok (f a b)))) >>= (λ t. Ok (typed.Block t)))
unfolding ◌>>=◌
wrap (Ok a) (Ok b) f = refl
wrap (Ok a) (Err e) f = refl
wrap (Err e) q f = refl

wrap_all : {A B C : Type 0} (p : Checked A) (f : A → Checked B) (g : B → Checked C) → (p >>= (λ a. f a >>= g)) ≡ ((p >>= f) >>= g)
unfolding ◌>>=◌
wrap_all (Ok a) f g = refl
wrap_all (Err e) f g = refl

-- ---- rows of parts

stmts_row : (c : Context) (xs : List Stmt) → walk_stmts c (stmts xs) ≡ each (walk_stmt c) xs
unfolding walk_stmts each
stmts_row c [] = no_stmts-is (λ (m : Count) (row : Row_of-Stmt m). walk_stmts c row ≡ Ok []) refl
stmts_row c (x ∷ xs) = stmts-is (λ (m : Count) (row : Row_of-Stmt m). walk_stmts c row ≡ each (walk_stmt c) (x ∷ xs)) x xs
    (ap (λ (p : Checked (List TypedStmt)). walk_stmt c x >>= (λ a. p >>= (λ more. Ok (a ∷ more)))) (stmts_row c xs))

count_row : (xs : List Stmt) → branch_count (stmts xs) ≡ length xs
unfolding branch_count
count_row [] = no_stmts-is (λ (m : Count) (row : Row_of-Stmt m). branch_count row ≡ 0) refl
count_row (x ∷ xs) = stmts-is (λ (m : Count) (row : Row_of-Stmt m). branch_count row ≡ length (x ∷ xs)) x xs (ap (λ (n : ℕ). suc n) (count_row xs))

otherwise_is : (c : Context) (o : Option Stmt) → walk_otherwise c (alternative o) ≡ perhaps (walk_stmt c) o
unfolding walk_otherwise perhaps
otherwise_is c None = no_alternative-is (λ (h : Held-If-when_false). walk_otherwise c h ≡ Ok None) refl
otherwise_is c (Some x) = alternative-is (λ (h : Held-If-when_false). walk_otherwise c h ≡ perhaps (walk_stmt c) (Some x)) x (λ p. refl)

arms_row : (c : Context) (xs : List Arm) → walk_arms c (arms xs) ≡ each (arm c) xs
unfolding walk_arms each arm
arms_row c [] = no_arms-is (λ (m : Count) (row : Row_of-Arm m). walk_arms c row ≡ Ok []) refl
arms_row c (x ∷ xs) = arms-is (λ (m : Count) (row : Row_of-Arm m). walk_arms c row ≡ each (arm c) (x ∷ xs)) x xs
    (ap (λ (p : Checked (List TypedArm)). arm_label c x.line x.label >>= (λ found. walk_stmt c x.body >>= (λ inner. p >>= (λ more. Ok (record { line = x.line; label = found; body = inner } ∷ more))))) (arms_row c xs)
    ∙ regroup (arm_label c x.line x.label) (walk_stmt c x.body) (each (arm c) xs) (λ found inner. record { line = x.line; label = found; body = inner }))

-- ---- one lemma a production

block_rest : (c : Context) (variables : List PlacedDecl) (b : Block) → (typed_decls c variables >>= (λ decls. walk_stmts c (stmts b.stmts) >>= (λ all. Ok (typed.Block (record { line = b.line; decls = decls; stmts = all }))))) ≡ (block_with c variables b >>= (λ t. Ok (typed.Block t)))
unfolding block_with
block_rest c variables b =
    ap (λ (p : Checked (List TypedStmt)). typed_decls c variables >>= (λ decls. p >>= (λ all. Ok (typed.Block (record { line = b.line; decls = decls; stmts = all }))))) (stmts_row c b.stmts)
    ∙ wrap (typed_decls c variables) (each (walk_stmt c) b.stmts) (λ decls all. record { line = b.line; decls = decls; stmts = all })

pub block_walks : (c : Context) (b : Block) → walk_stmt c (views.Block b) ≡ (block c b >>= (λ t. Ok (typed.Block t)))
unfolding walk_stmt block
block_walks c b = block-is (λ stmt. walk_stmt c stmt ≡ (block c b >>= (λ t. Ok (typed.Block t)))) b
    (follow (local_decls c b.decls) _ (λ variables. block_with (inside c variables) variables b >>= (λ t. Ok (typed.Block t))) (λ variables. block_rest (inside c variables) variables b)
    ∙ wrap_all (local_decls c b.decls) (λ variables. block_with (inside c variables) variables b) (λ t. Ok (typed.Block t)))

pub if_walks : (c : Context) (x : If) → walk_stmt c (views.If x) ≡ if_stmt c x
unfolding walk_stmt if_stmt
if_walks c x = if-is (λ stmt. walk_stmt c stmt ≡ if_stmt c x) x
    (λ p. ap (λ (q : Checked (Option TypedStmt)). vector c x.line x.condition >>= (λ test. walk_stmt c x.when_true >>= (λ when_true. q >>= (λ when_false. Ok (typed.If (record { line = x.line; condition = test; when_true = when_true; when_false = when_false })))))) (otherwise_is c x.when_false))

pub while_walks : (c : Context) (w : While) → walk_stmt c (views.While w) ≡ while_stmt c w
unfolding walk_stmt while_stmt
while_walks c w = while-is (λ stmt. walk_stmt c stmt ≡ while_stmt c w) w (λ p. refl)

pub repeat_walks : (c : Context) (r : Repeat) → walk_stmt c (views.Repeat r) ≡ repeat_stmt c r
unfolding walk_stmt repeat_stmt
repeat_walks c r = repeat-is (λ stmt. walk_stmt c stmt ≡ repeat_stmt c r) r (λ p. refl)

pub for_walks : (c : Context) (f : For) → walk_stmt c (views.For f) ≡ for_stmt c f
unfolding walk_stmt for_stmt
for_walks c f = for-is (λ stmt. walk_stmt c stmt ≡ for_stmt c f) f (λ p. refl)

pub case_walks : (c : Context) (line : ℕ) (value : Expr) (xs : List Arm) → walk_stmt c (views.Case line value xs) ≡ case_stmt c line value xs
unfolding walk_stmt case_stmt
case_walks c line value xs = case-is (λ stmt. walk_stmt c stmt ≡ case_stmt c line value xs) line value xs
    (ap (λ (p : Checked (List TypedArm)). vector c line value >>= (λ v. p >>= (λ all. Ok (typed.Case line v all)))) (arms_row c xs))

pub fork_walks : (c : Context) (f : Fork) → walk_stmt c (views.Fork f) ≡ fork_stmt c f
unfolding walk_stmt fork_stmt
fork_walks c f = fork-is (λ stmt. walk_stmt c stmt ≡ fork_stmt c f) f
    (ap (λ (n : ℕ). keeps f.line ((not_here, is_function c.body) ∷ (past_limit, nat_lt 4096 n) ∷ []) >> (walk_stmts (in_branch c) (stmts f.branches) >>= (λ all. Ok (typed.Fork (record { line = f.line; branches = all; join = f.join }))))) (count_row f.branches)
    ∙ ap (λ (p : Checked (List TypedStmt)). keeps f.line ((not_here, is_function c.body) ∷ (past_limit, nat_lt 4096 (length f.branches)) ∷ []) >> (p >>= (λ all. Ok (typed.Fork (record { line = f.line; branches = all; join = f.join }))))) (stmts_row (in_branch c) f.branches))

-- ---- and where no part is a statement

pub empty_walks : (c : Context) (line : ℕ) → walk_stmt c (s.Empty line) ≡ Ok (typed.Empty line)
unfolding walk_stmt
empty_walks c line = refl

pub step_walks : (c : Context) (a : Step) → walk_stmt c (s.Step a) ≡ step c a
unfolding walk_stmt
step_walks c a = refl

pub void_walks : (c : Context) (v : Void) → walk_stmt c (s.Void v) ≡ void_stmt c v
unfolding walk_stmt
void_walks c v = refl

pub call_walks : (c : Context) (post : Postfix) → walk_stmt c (s.Call post) ≡ call_stmt c post
unfolding walk_stmt
call_walks c post = refl

pub edge_walks : (c : Context) (e : Edge) → walk_stmt c (s.Edge e) ≡ edge_stmt c e
unfolding walk_stmt
edge_walks c e = refl

pub break_walks : (c : Context) (line : ℕ) → walk_stmt c (s.Break line) ≡ in_loop_only c line (typed.Break line)
unfolding walk_stmt
break_walks c line = refl

pub continue_walks : (c : Context) (line : ℕ) → walk_stmt c (s.Continue line) ≡ in_loop_only c line (typed.Continue line)
unfolding walk_stmt
continue_walks c line = refl

pub return_walks : (c : Context) (line : ℕ) → walk_stmt c (s.Return line) ≡ Ok (typed.Return line)
unfolding walk_stmt
return_walks c line = refl

pub drive_walks : (c : Context) (d : Drive) → walk_stmt c (s.Drive d) ≡ drive_stmt c d
unfolding walk_stmt
drive_walks c d = refl

pub expect_walks : (c : Context) (e : Expect) → walk_stmt c (s.Expect e) ≡ expect_stmt c e
unfolding walk_stmt
expect_walks c e = refl

-- ---- as the code's arms have them

pub arm_answers : (c : Context) (stmt view : Stmt) (d : Checked TypedStmt) (r : Result TypedStmt FrontError) → stmt ≡ view → walk_stmt c view ≡ d → Answers d r → Answers (walk_stmt c stmt) r
arm_answers c stmt view d r is walks h = along (walk_stmt c stmt) d r (ap (λ (x : Stmt). walk_stmt c x) is ∙ walks) h
