use Rattle.std.proofs.Common.{List, refl, sym, subst, rules}
use Rattle.std.specs.Prelude.{Ok, Err}
use Rattle.typing_rules.specs.Answers.{Answers}
use Rattle.vera_ast.specs.declared.tree.statements.Arm.{Arm}
use Rattle.vera_ast.specs.declared.tree.statements.Stmt.{Stmt}
use Rattle.vera_ast.specs.declared.typed.stmt.TypedStmt.{TypedStmt}
use Rattle.vera_ast.specs.declared.typed.stmt.TypedStmt.TheVariants as typed
use Rattle.typing_rules.specs.Checked.{Checked, each}
use Rattle.typing_rules.specs.Statements.{walk_stmt}
use Rattle.vera_types.specs.StmtForms.{arm, case_stmt}
use Rattle.vera_types.proofs.StmtWalks.{arm_answers, break_walks, call_walks, case_walks, continue_walks, drive_walks, edge_walks, empty_walks, expect_walks, for_walks, fork_walks, if_walks, repeat_walks, return_walks, step_walks, void_walks, while_walks}
use Rattle.vera_names.proofs.Items.{each_ends}
use Rattle.vera_steps.proofs.Carried.{carried_stops, carried_goes}
use Rattle.vera_types.proofs.statements.+walk.Goals as goal

pub walk_stmts-returns-in_err-before : goal.walk_stmts-returns-in_err-before
walk_stmts-returns-in_err-before t c =
    let h : Answers (each (walk_stmt c.args.sight.now) c.args.stmts.now) (Err c.in_err-before.field-0.0) = carried_stops (walk_stmt c.args.sight.now) c.args.stmts.now c.loop-stmt.stmt-index c.stmt-item.result _ c.loop-stmt.typed _ _ c.loop-stmt-test.true c.stmt-item.is c.walk_stmt.ensures c.in_err-before.ensures.refused c.loop-stmt.invariant in
    search rules

pub walk_stmts-loop-stmt-preserved : goal.walk_stmts-loop-stmt-preserved
walk_stmts-loop-stmt-preserved t c =
    carried_goes (walk_stmt c.args.sight.now) c.args.stmts.now c.loop-stmt.stmt-index c.stmt-item.result _ _ c.loop-stmt.typed _ _ _ c.loop-stmt-test.true c.stmt-item.is c.walk_stmt.ensures c.in_ok-before.ensures.second c.in_ok-before.ensures.first c.in_ok-typed.ensures c.loop-stmt.invariant

pub walk_stmts-returns : goal.walk_stmts-returns
walk_stmts-returns t c = each_ends _ _ _ _ _ c.loop-stmt-test.false c.loop-stmt.invariant

pub walk_arms-returns-in_err-before : goal.walk_arms-returns-in_err-before
walk_arms-returns-in_err-before t c =
    let h : Answers (each (arm c.args.sight.now) c.args.arms.now) (Err c.in_err-before.field-0.0) = carried_stops (arm c.args.sight.now) c.args.arms.now c.loop-arm.arm-index c.arm-item.result _ c.loop-arm.typed _ _ c.loop-arm-test.true c.arm-item.is c.walk_arm.ensures c.in_err-before.ensures.refused c.loop-arm.invariant in
    search rules

pub walk_arms-loop-arm-preserved : goal.walk_arms-loop-arm-preserved
walk_arms-loop-arm-preserved t c =
    carried_goes (arm c.args.sight.now) c.args.arms.now c.loop-arm.arm-index c.arm-item.result _ _ c.loop-arm.typed _ _ _ c.loop-arm-test.true c.arm-item.is c.walk_arm.ensures c.in_ok-before.ensures.second c.in_ok-before.ensures.first c.in_ok-typed.ensures c.loop-arm.invariant

pub walk_arms-returns : goal.walk_arms-returns
walk_arms-returns t c = each_ends _ _ _ _ _ c.loop-arm-test.false c.loop-arm.invariant

-- ---- the alternatives of a statement

pub walk_stmt-returns-in-Void : goal.walk_stmt-returns-in-Void
walk_stmt-returns-in-Void t c = arm_answers c.args.sight.now c.args.stmt.now _ _ c.void_stmt.result c.in-Void.is (void_walks c.args.sight.now c.in-Void.void) c.void_stmt.ensures

pub walk_stmt-returns-in-Call : goal.walk_stmt-returns-in-Call
walk_stmt-returns-in-Call t c = arm_answers c.args.sight.now c.args.stmt.now _ _ c.call_stmt.result c.in-Call.is (call_walks c.args.sight.now c.in-Call.post) c.call_stmt.ensures

pub walk_stmt-returns-in-Step : goal.walk_stmt-returns-in-Step
walk_stmt-returns-in-Step t c = arm_answers c.args.sight.now c.args.stmt.now _ _ c.step.result c.in-Step.is (step_walks c.args.sight.now c.in-Step.change) c.step.ensures

pub walk_stmt-returns-in-If : goal.walk_stmt-returns-in-If
walk_stmt-returns-in-If t c = arm_answers c.args.sight.now c.args.stmt.now _ _ c.if_stmt.result c.in-If.is (if_walks c.args.sight.now c.in-If.choice) c.if_stmt.ensures

pub walk_stmt-returns-in-While : goal.walk_stmt-returns-in-While
walk_stmt-returns-in-While t c = arm_answers c.args.sight.now c.args.stmt.now _ _ c.while_stmt.result c.in-While.is (while_walks c.args.sight.now c.in-While.turns) c.while_stmt.ensures

pub walk_stmt-returns-in-Repeat : goal.walk_stmt-returns-in-Repeat
walk_stmt-returns-in-Repeat t c = arm_answers c.args.sight.now c.args.stmt.now _ _ c.repeat_stmt.result c.in-Repeat.is (repeat_walks c.args.sight.now c.in-Repeat.turns) c.repeat_stmt.ensures

pub walk_stmt-returns-in-For : goal.walk_stmt-returns-in-For
walk_stmt-returns-in-For t c = arm_answers c.args.sight.now c.args.stmt.now _ _ c.for_stmt.result c.in-For.is (for_walks c.args.sight.now c.in-For.turns) c.for_stmt.ensures

pub walk_stmt-returns-in-Fork : goal.walk_stmt-returns-in-Fork
walk_stmt-returns-in-Fork t c = arm_answers c.args.sight.now c.args.stmt.now _ _ c.fork_stmt.result c.in-Fork.is (fork_walks c.args.sight.now c.in-Fork.fork) c.fork_stmt.ensures

pub walk_stmt-returns-in-Drive : goal.walk_stmt-returns-in-Drive
walk_stmt-returns-in-Drive t c = arm_answers c.args.sight.now c.args.stmt.now _ _ c.drive_stmt.result c.in-Drive.is (drive_walks c.args.sight.now c.in-Drive.drive) c.drive_stmt.ensures

pub walk_stmt-returns-in-Expect : goal.walk_stmt-returns-in-Expect
walk_stmt-returns-in-Expect t c = arm_answers c.args.sight.now c.args.stmt.now _ _ c.expect_stmt.result c.in-Expect.is (expect_walks c.args.sight.now c.in-Expect.expect) c.expect_stmt.ensures

pub walk_stmt-returns-in-Break : goal.walk_stmt-returns-in-Break
walk_stmt-returns-in-Break t c = arm_answers c.args.sight.now c.args.stmt.now _ _ c.break_stmt.result c.in-Break.is (break_walks c.args.sight.now c.in-Break.line) c.break_stmt.ensures

pub walk_stmt-returns-in-Continue : goal.walk_stmt-returns-in-Continue
walk_stmt-returns-in-Continue t c = arm_answers c.args.sight.now c.args.stmt.now _ _ c.continue_stmt.result c.in-Continue.is (continue_walks c.args.sight.now c.in-Continue.line) c.continue_stmt.ensures

pub walk_stmt-returns-in-Edge : goal.walk_stmt-returns-in-Edge
walk_stmt-returns-in-Edge t c =
    arm_answers c.args.sight.now c.args.stmt.now _ _ c.answered.result c.in-Edge.is (edge_walks c.args.sight.now c.in-Edge.edge)
    (subst (λ (d : Checked TypedStmt). Answers d c.answered.result) c.edge_stmt.ensures c.answered.ensures.tells)

pub walk_stmt-returns-in-Case : goal.walk_stmt-returns-in-Case
walk_stmt-returns-in-Case t c =
    arm_answers c.args.sight.now c.args.stmt.now _ _ c.case_stmt.result c.in-Case.is (case_walks c.args.sight.now c.in-Case.line c.in-Case.value c.in-Case.arms)
    (subst (λ (xs : List Arm). Answers (case_stmt c.args.sight.now c.in-Case.line c.in-Case.value xs) c.case_stmt.result) c.as_slice.ensures c.case_stmt.ensures)

pub walk_stmt-returns-in-Empty : goal.walk_stmt-returns-in-Empty
walk_stmt-returns-in-Empty t c = arm_answers c.args.sight.now c.args.stmt.now _ _ (Ok (typed.Empty c.in-Empty.line)) c.in-Empty.is (empty_walks c.args.sight.now c.in-Empty.line) refl

pub walk_stmt-returns-in-Return : goal.walk_stmt-returns-in-Return
walk_stmt-returns-in-Return t c = arm_answers c.args.sight.now c.args.stmt.now _ _ (Ok (typed.Return c.in-Return.line)) c.in-Return.is (return_walks c.args.sight.now c.in-Return.line) refl

pub walk_stmt-returns-in-Terminate : goal.walk_stmt-returns-in-Terminate
walk_stmt-returns-in-Terminate t c = subst (λ (x : Stmt). Answers (walk_stmt c.args.sight.now x) c.terminate.result) (sym c.in-Terminate.is) c.terminate.ensures
