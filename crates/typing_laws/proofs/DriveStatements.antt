-- Each drive that the walk over statements gives names an output of the tree.
use Rattle.std.proofs.Common.{ℕ, Bool, true, false, List, [], ◌∷◌, Option, Some, None}
use Rattle.vera_ast.proofs.TypedStmtViews.{block-is, if-is, while-is, repeat-is, for-is, case-is, fork-is, no_stmts-is, stmts-is, no_arms-is, arms-is, no_alternative-is, alternative-is}
use Rattle.vera_ast.specs.Signals.{NamedSignal, DrivesOutputs, AllDriveOutputs, ElseDrivesOutputs, ArmsDriveOutputs}
use Rattle.vera_ast.specs.declared.tree.expressions.Expr.{Expr}
use Rattle.vera_ast.specs.declared.tree.expressions.Expr.TheVariants as x
use Rattle.vera_ast.specs.declared.tree.expressions.Postfix.{Postfix}
use Rattle.vera_ast.specs.declared.tree.interfaces.Direction.{Direction}
use Rattle.vera_ast.specs.declared.tree.interfaces.Direction.TheVariants.{Input, Output}
use Rattle.vera_ast.specs.declared.tree.statements.Change.{Change}
use Rattle.vera_ast.specs.declared.tree.statements.Change.TheVariants as change
use Rattle.vera_ast.specs.declared.tree.statements.Drive.{Drive}
use Rattle.vera_ast.specs.declared.tree.statements.DriveOperator.{DriveOperator}
use Rattle.vera_ast.specs.declared.tree.statements.Edge.{Edge}
use Rattle.vera_ast.specs.declared.tree.statements.Expect.{Expect}
use Rattle.vera_ast.specs.declared.tree.statements.Step.{Step}
use Rattle.vera_ast.specs.declared.tree.statements.Stmt.{Stmt, Row_of-Stmt, end_of-Stmt, more_of-Stmt}
use Rattle.vera_ast.specs.declared.tree.statements.Stmt.TheBlock.{Block', If', While', Repeat', For', Case', Fork', Row_of-Arm, end_of-Arm, more_of-Arm, Held-If-when_false, None', Some'}
use Rattle.vera_ast.specs.declared.tree.statements.Stmt.TheVariants as s
use Rattle.vera_ast.specs.declared.tree.statements.Void.{Void}
use Rattle.vera_ast.specs.declared.typed.names.TypedSignalName.{TypedSignalName}
use Rattle.vera_ast.specs.declared.typed.stmt.TypedArm.{TypedArm}
use Rattle.vera_ast.specs.declared.typed.stmt.TypedBlock.{TypedBlock}
use Rattle.vera_ast.specs.declared.typed.stmt.TypedChange.{TypedChange}
use Rattle.vera_ast.specs.declared.typed.stmt.TypedFor.{TypedFor}
use Rattle.vera_ast.specs.declared.typed.stmt.TypedFork.{TypedFork}
use Rattle.vera_ast.specs.declared.typed.stmt.TypedIf.{TypedIf}
use Rattle.vera_ast.specs.declared.typed.stmt.TypedRepeat.{TypedRepeat}
use Rattle.vera_ast.specs.declared.typed.stmt.TypedStmt.{TypedStmt}
use Rattle.vera_ast.specs.declared.typed.stmt.TypedStmt.TheVariants as typed
use Rattle.vera_ast.specs.declared.typed.stmt.TypedStmt.TheBlock.{hidden-the_row-TypedStmt-0 as stmts_row, hidden-the_row-TypedArm-2 as arms_row, back-TypedIf-when_false as alternative}
use Rattle.vera_ast.specs.declared.typed.stmt.TypedWhile.{TypedWhile}
use Rattle.typing_rules.proofs.Sound.{after, with, from}
use Rattle.typing_rules.specs.Assignments.{stepped, assign, add, count, changed, step}
use Rattle.typing_rules.specs.Blocks.{PlacedDecl, inside}
use Rattle.typing_rules.specs.Checked.{Checked, ◌>>=◌, ◌>>◌, keeps, refuse}
use Rattle.typing_rules.specs.Drives.{drive, driven, drive_stmt}
use Rattle.typing_rules.specs.Laws.{Holds}
use Rattle.typing_rules.specs.Statements.{alone, call_stmt, void_stmt, in_loop, in_branch, walk_stmt, walk_stmts, walk_otherwise, walk_arms}
use Rattle.typing_rules.specs.Waits.{edge_stmt, expect_stmt}
use Rattle.typing_rules.specs.declared.context.Context.{Context}
use Rattle.typing_rules.specs.declared.head.Head.{Head}
use Rattle.typing_rules.specs.declared.head.Head.TheVariants as h
use Rattle.typing_rules.specs.declared.head.Stand.TheVariants as stand
use Rattle.typing_rules.specs.declared.head.Typed.{Typed}
use Rattle.typing_laws.proofs.DriveHeads.{HeadNames, walk_names}
use Rattle.typing_laws.proofs.SignalPlaces.{IsSignal, AllKnown}

-- the third rule is broken
third_broken : {B : Type 0} (Q : B → Type 0) (line c1 c2 c3 : ℕ) (b1 b2 : Bool) (n : Checked B) → Holds Q (keeps line ((c1, b1) ∷ (c2, b2) ∷ (c3, true) ∷ []) >> n)
unfolding keeps refuse ◌>>=◌
third_broken Q line c1 c2 c3 true b2 n = tt
third_broken Q line c1 c2 c3 false true n = tt
third_broken Q line c1 c2 c3 false false n = tt

module _ (signals : List NamedSignal) where
  abbrev Drives : TypedStmt → Type 0
  Drives = DrivesOutputs signals

  abbrev InSight : Context → Type 0
  InSight c = AllKnown signals c.outline.interfaces

  -- ---- rows as the code makes them

  abbrev pub AllDrive : List TypedStmt → Type 0
  AllDrive [] = Unit {0}
  AllDrive (a ∷ more) = Drives a × AllDrive more

  abbrev ArmsDrive : List TypedArm → Type 0
  ArmsDrive [] = Unit {0}
  ArmsDrive (a ∷ more) = Drives a.body × ArmsDrive more

  abbrev ElseDrives : Option TypedStmt → Type 0
  ElseDrives None = Unit {0}
  ElseDrives (Some a) = Drives a

  stmts_drive_row : (all : List TypedStmt) → AllDrive all → AllDriveOutputs signals (stmts_row all)
  stmts_drive_row [] d = no_stmts-is (λ m r. AllDriveOutputs {m = m} signals r) tt
  stmts_drive_row (a ∷ more) d = stmts-is (λ m r. AllDriveOutputs {m = m} signals r) a more (d.0, stmts_drive_row more d.1)

  arms_drive_row : (all : List TypedArm) → ArmsDrive all → ArmsDriveOutputs signals (arms_row all)
  arms_drive_row [] d = no_arms-is (λ m r. ArmsDriveOutputs {m = m} signals r) tt
  arms_drive_row (a ∷ more) d = arms-is (λ m r. ArmsDriveOutputs {m = m} signals r) a more (d.0, arms_drive_row more d.1)

  else_drives : (o : Option TypedStmt) → ElseDrives o → ElseDrivesOutputs signals (alternative o)
  else_drives None d = no_alternative-is (ElseDrivesOutputs signals) tt
  else_drives (Some a) d = alternative-is (ElseDrivesOutputs signals) a (λ p. d)

  pub block_drives : (b : TypedBlock) → AllDrive b.stmts → Drives (typed.Block b)
  block_drives b d = block-is Drives b (stmts_drive_row b.stmts d)

  -- ---- drives

  drive_names : (c : Context) (line : ℕ) (delay : Option Typed) (name : TypedSignalName) (d : Direction) (operator : DriveOperator) (v : Typed) → IsSignal signals name d → Holds Drives (drive c line delay name d operator v)
  unfolding drive
  drive_names c line delay name Output operator v k = after Drives _ _ (record { named = k.named; is = k.is; output = k.as_known; width = k.width })
  drive_names c line delay name Input operator v k = third_broken Drives line _ _ _ _ _ _

  driven_names : (c : Context) (d : Drive) (time : Option Typed) (head : Head) (v : Typed) → HeadNames signals head → Holds Drives (driven c d time head v)
  unfolding refuse
  driven_names c d time (h.Signal signal direction) v k = drive_names c d.line time signal direction d.operator v k
  driven_names c d time _ v k = tt

  drive_stmt_names : (c : Context) → InSight c → (d : Drive) → Holds Drives (drive_stmt c d)
  unfolding drive_stmt
  drive_stmt_names c k d = with Drives _ _ λ time. from (HeadNames signals) Drives _ _ (walk_names signals c k stand.Place (x.Postfix d.signal)) λ target t. with Drives _ _ λ v. driven_names c d time target v t

  -- ---- steps

  stepped_drives : (line : ℕ) (target : Head) (change : TypedChange) → Holds Drives (stepped line target change)
  stepped_drives line target change = with Drives _ _ λ p. tt

  assign_drives : (c : Context) (line : ℕ) (head : Head) (e : Expr) → HeadNames signals head → Holds Drives (assign c line head e)
  unfolding assign
  assign_drives c line (h.Signal name d) e k = with Drives _ _ λ v. drive_names c line None name d _ v k
  assign_drives c line target e k = with Drives _ _ λ r. after Drives _ _ (stepped_drives line target _)

  changed_drives : (c : Context) (line : ℕ) (head : Head) (how : Change) → HeadNames signals head → Holds Drives (changed c line head how)
  unfolding add count
  changed_drives c line head (change.Assign e) k = assign_drives c line head e k
  changed_drives c line head (change.Add e) k = with Drives _ _ λ v. after Drives _ _ (stepped_drives line head _)
  changed_drives c line head (change.Subtract e) k = with Drives _ _ λ v. after Drives _ _ (stepped_drives line head _)
  changed_drives c line head change.Increment k = after Drives _ _ (stepped_drives line head _)
  changed_drives c line head change.Decrement k = after Drives _ _ (stepped_drives line head _)

  step_drives : (c : Context) → InSight c → (a : Step) → Holds Drives (step c a)
  unfolding step
  step_drives c k a = from (HeadNames signals) Drives _ _ (walk_names signals c k stand.Place (x.Postfix a.target)) λ target t. changed_drives c a.line target a.change t

  -- ---- statements that drive nothing

  alone_drives : (line post_line : ℕ) (head : Head) → Holds Drives (alone line post_line head)
  alone_drives line post_line (h.Task call) = tt
  alone_drives line post_line (h.BuiltIn task operands targets) = tt
  alone_drives line post_line (h.Waits call) = tt
  alone_drives line post_line (h.Prints format arguments) = tt
  alone_drives line post_line (h.PrintsInto target format arguments) = tt
  alone_drives line post_line head = with Drives _ _ λ v. tt

  call_drives : (c : Context) (post : Postfix) → Holds Drives (call_stmt c post)
  unfolding call_stmt
  call_drives c post = with Drives _ _ λ head. alone_drives post.line post.line head

  void_drives : (c : Context) (v : Void) → Holds Drives (void_stmt c v)
  unfolding void_stmt
  void_drives c v = with Drives _ _ λ head. alone_drives v.line v.value.line head

  edge_drives : (c : Context) (e : Edge) → Holds Drives (edge_stmt c e)
  unfolding edge_stmt
  edge_drives c e = with Drives _ _ λ is_wrong. after Drives _ _ tt

  expect_drives : (c : Context) (e : Expect) → Holds Drives (expect_stmt c e)
  unfolding expect_stmt
  expect_drives c e = with Drives _ _ λ w. with Drives _ _ λ terms. after Drives _ _ tt

  pub in_sight_inside : (c : Context) (variables : List PlacedDecl) → InSight c → InSight (inside c variables)
  unfolding inside
  in_sight_inside c variables k = k

  -- ---- the walk

  mutual
    unfolding walk_stmt walk_stmts walk_otherwise walk_arms

    pub stmt_drives : (c : Context) → InSight c → (a : Stmt) → Holds Drives (walk_stmt c a)
    stmt_drives c k (Block' line decls p stmts) =
        with Drives _ _ λ variables. with Drives _ _ λ declared.
        from AllDrive Drives _ _ (stmts_drive (inside c variables) (in_sight_inside c variables k) stmts) λ all d.
        let b : TypedBlock = record { line = line; decls = declared; stmts = all } in block_drives b d
    stmt_drives c k (s.Empty line) = tt
    stmt_drives c k (s.Step a) = step_drives c k a
    stmt_drives c k (s.Void v) = void_drives c v
    stmt_drives c k (s.Call post) = call_drives c post
    stmt_drives c k (s.Edge e) = edge_drives c e
    stmt_drives c k (If' line condition p (more_of-Stmt body end_of-Stmt) otherwise) =
        with Drives _ _ λ test. from Drives Drives _ _ (stmt_drives c k body) λ when_true d. from ElseDrives Drives _ _ (otherwise_drives c k otherwise) λ when_false e.
        let i : TypedIf = record { line = line; condition = test; when_true = when_true; when_false = when_false } in if-is Drives i (λ p. (d, else_drives when_false e))
    stmt_drives c k (While' line condition p (more_of-Stmt body end_of-Stmt)) =
        with Drives _ _ λ test. from Drives Drives _ _ (stmt_drives (in_loop c) k body) λ inner d.
        let w : TypedWhile = record { line = line; condition = test; body = inner } in while-is Drives w (λ p. d)
    stmt_drives c k (Repeat' line times p (more_of-Stmt body end_of-Stmt)) =
        with Drives _ _ λ n. from Drives Drives _ _ (stmt_drives (in_loop c) k body) λ inner d.
        let r : TypedRepeat = record { line = line; count = n; body = inner } in repeat-is Drives r (λ p. d)
    stmt_drives c k (For' line start condition next p (more_of-Stmt body end_of-Stmt)) =
        from Drives Drives _ _ (step_drives c k start) λ first d. with Drives _ _ λ test. from Drives Drives _ _ (step_drives c k next) λ behind e.
        from Drives Drives _ _ (stmt_drives (in_loop c) k body) λ inner f.
        let all : TypedFor = record { line = line; start = first; condition = test; step = behind; body = inner } in for-is Drives all (λ p q r. (d, e, f))
    stmt_drives c k (Case' line value p arms) =
        with Drives _ _ λ v. from ArmsDrive Drives _ _ (arms_drive c k arms) λ all d. case-is Drives line v all (arms_drive_row all d)
    stmt_drives c k (s.Break line) = after Drives _ _ tt
    stmt_drives c k (s.Continue line) = after Drives _ _ tt
    stmt_drives c k (s.Return line) = tt
    stmt_drives c k (s.Terminate line) = after Drives _ _ tt
    stmt_drives c k (Fork' line p branches join) =
        after Drives _ _ (from AllDrive Drives _ _ (stmts_drive (in_branch c) k branches) λ all d.
        let f : TypedFork = record { line = line; branches = all; join = join } in fork-is Drives f (stmts_drive_row all d))
    stmt_drives c k (s.Drive d) = drive_stmt_names c k d
    stmt_drives c k (s.Expect e) = expect_drives c e

    stmts_drive : {m : _} (c : Context) → InSight c → (row : Row_of-Stmt m) → Holds AllDrive (walk_stmts c row)
    stmts_drive c k end_of-Stmt = tt
    stmts_drive c k (more_of-Stmt first rest) = from Drives AllDrive _ _ (stmt_drives c k first) λ a d. from AllDrive AllDrive _ _ (stmts_drive c k rest) λ more e. (d, e)

    otherwise_drives : (c : Context) → InSight c → (o : Held-If-when_false) → Holds ElseDrives (walk_otherwise c o)
    otherwise_drives c k None' = tt
    otherwise_drives c k (Some' p (more_of-Stmt body end_of-Stmt)) = from Drives ElseDrives _ _ (stmt_drives c k body) λ inner d. d

    arms_drive : {m : _} (c : Context) → InSight c → (row : Row_of-Arm m) → Holds ArmsDrive (walk_arms c row)
    arms_drive c k end_of-Arm = tt
    arms_drive c k (more_of-Arm line values body rest) =
        with ArmsDrive _ _ λ label. from Drives ArmsDrive _ _ (stmt_drives c k body) λ inner d. from ArmsDrive ArmsDrive _ _ (arms_drive c k rest) λ more e. (d, e)
