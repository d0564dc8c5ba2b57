use Rattle.std.proofs.Common.{◌∷◌, ◌≤◌, Ok, arith, rules}
use Rattle.std.proofs.lemmas.Result.{err_from_is_err_and}
use Rattle.vera_decls.proofs.BlockWalks.{block_stops, block_walks, inside_walks, inner_walks, if_stops, if_walks, if_alone, while_walks, repeat_walks, for_walks, case_walks, fork_walks}
use Rattle.vera_decls.proofs.Families.{stay, stmts_left, one_stmt, stmts_first, stmts_none, arms_left, one_arm, arms_first, arms_none}
use Rattle.vera_decls.proofs.Going.{goes_start, goes_on, goes_stops, goes_end}
use Rattle.vera_decls.proofs.declarations.blocks.+blocks.Goals as goal

pub stmt-returns-in-Block : goal.stmt-returns-in-Block
stmt-returns-in-Block t c = inner_walks c.args.count c.args.scopes.now c.args.stmt.now c.in-Block.block _ _ c.inner_block.result c.in-Block.is c.as_slice.ensures c.as_slice-in-Block.ensures c.inner_block.ensures

pub stmt-returns-in_err-count-in-If : goal.stmt-returns-in_err-count-in-If
stmt-returns-in_err-count-in-If t c =
    let p = err_from_is_err_and c.from_residual.result c.from_residual.ensures.1 in
    rw (p.1, p.2) (if_stops c.args.count c.args.scopes.now c.args.stmt.now c.in-If.choice _ _ c.in-If.is c.get.ensures c.in_err-count-in-If.ensures)

pub stmt-returns-in-Some : goal.stmt-returns-in-Some
stmt-returns-in-Some t c =
    if_walks c.args.count c.args.scopes.now c.args.stmt.now c.in-If.choice _ _ _ c.in_ok-count-in-If.count c.stmt-in-Some.result c.in-If.is c.get.ensures c.in-Some.is c.get-in-Some.ensures c.in_ok-count-in-If.ensures.0 c.stmt-in-Some.ensures

pub stmt-returns-in-None : goal.stmt-returns-in-None
stmt-returns-in-None t c = if_alone c.args.count c.args.scopes.now c.args.stmt.now c.in-If.choice _ (Ok c.in_ok-count-in-If.count) c.in-If.is c.get.ensures c.in-None.is c.in_ok-count-in-If.ensures

pub stmt-returns-in-While : goal.stmt-returns-in-While
stmt-returns-in-While t c = while_walks c.args.count c.args.scopes.now c.args.stmt.now c.in-While.turns _ c.stmt-in-While.result c.in-While.is c.get-in-While.ensures c.stmt-in-While.ensures

pub stmt-returns-in-Repeat : goal.stmt-returns-in-Repeat
stmt-returns-in-Repeat t c = repeat_walks c.args.count c.args.scopes.now c.args.stmt.now c.in-Repeat.turns _ c.stmt-in-Repeat.result c.in-Repeat.is c.get-in-Repeat.ensures c.stmt-in-Repeat.ensures

pub stmt-returns-in-For : goal.stmt-returns-in-For
stmt-returns-in-For t c = for_walks c.args.count c.args.scopes.now c.args.stmt.now c.in-For.turns _ c.stmt-in-For.result c.in-For.is c.get-in-For.ensures c.stmt-in-For.ensures

pub stmt-returns-in-Case : goal.stmt-returns-in-Case
stmt-returns-in-Case t c = case_walks c.args.count c.args.scopes.now c.args.stmt.now _ _ _ _ c.arms.result c.in-Case.is c.as_slice-in-Case.ensures c.arms.ensures

pub stmt-returns-in-Fork : goal.stmt-returns-in-Fork
stmt-returns-in-Fork t c = fork_walks c.args.count c.args.scopes.now c.args.stmt.now c.in-Fork.fork _ c.stmts.result c.in-Fork.is c.as_slice-in-Fork.ensures c.stmts.ensures

pub stmts-loop-next-init : goal.stmts-loop-next-init
stmts-loop-next-init t c = goes_start (stmts_left c.args.scopes.now) stay tt c.args.stmts.now c.args.count (λ s. Unit {0}) c.requires tt

pub stmts-loop-next-preserved : goal.stmts-loop-next-preserved
stmts-loop-next-preserved t c =
    goes_on (stmts_left c.args.scopes.now) (one_stmt c.args.scopes.now) stay tt c.args.stmts.now c.args.count (λ s. Unit {0}) (λ s. Unit {0})
    c.loop-next.next-index c.loop-next.count c.in_ok-count.count c.next-item.result (stmts_first c.args.scopes.now) (omega arith) c.next-item.is c.loop-next.invariant (λ s h. c.in_ok-count.ensures)

pub stmts-returns-in_err-count : goal.stmts-returns-in_err-count
stmts-returns-in_err-count t c =
    let p = err_from_is_err_and c.from_residual.result c.from_residual.ensures.1 in
    rw (p.1, p.2) (goes_stops (stmts_left c.args.scopes.now) (one_stmt c.args.scopes.now) stay tt c.args.stmts.now c.args.count (λ s. Unit {0})
    c.loop-next.next-index c.loop-next.count c.next-item.result _ (stmts_first c.args.scopes.now) (omega arith) c.next-item.is c.loop-next.invariant (λ s h. c.in_err-count.ensures))

pub stmts-returns : goal.stmts-returns
stmts-returns t c =
    goes_end (stmts_left c.args.scopes.now) stay tt c.args.stmts.now c.args.count (λ s. Unit {0}) c.loop-next.next-index c.loop-next.count (stmts_none c.args.scopes.now) (omega arith) c.loop-next.invariant

pub arms-loop-arm-init : goal.arms-loop-arm-init
arms-loop-arm-init t c = goes_start (arms_left c.args.scopes.now) stay tt c.args.arms.now c.args.count (λ s. Unit {0}) c.requires tt

pub arms-loop-arm-preserved : goal.arms-loop-arm-preserved
arms-loop-arm-preserved t c =
    goes_on (arms_left c.args.scopes.now) (one_arm c.args.scopes.now) stay tt c.args.arms.now c.args.count (λ s. Unit {0}) (λ s. Unit {0})
    c.loop-arm.arm-index c.loop-arm.count c.in_ok-count.count c.arm-item.result (arms_first c.args.scopes.now) (omega arith) c.arm-item.is c.loop-arm.invariant (λ s h. c.in_ok-count.ensures)

pub arms-returns-in_err-count : goal.arms-returns-in_err-count
arms-returns-in_err-count t c =
    let p = err_from_is_err_and c.from_residual.result c.from_residual.ensures.1 in
    rw (p.1, p.2) (goes_stops (arms_left c.args.scopes.now) (one_arm c.args.scopes.now) stay tt c.args.arms.now c.args.count (λ s. Unit {0})
    c.loop-arm.arm-index c.loop-arm.count c.arm-item.result _ (arms_first c.args.scopes.now) (omega arith) c.arm-item.is c.loop-arm.invariant (λ s h. c.in_err-count.ensures))

pub arms-returns : goal.arms-returns
arms-returns t c =
    goes_end (arms_left c.args.scopes.now) stay tt c.args.arms.now c.args.count (λ s. Unit {0}) c.loop-arm.arm-index c.loop-arm.count (arms_none c.args.scopes.now) (omega arith) c.loop-arm.invariant

pub block_among-returns-in_err-count : goal.block_among-returns-in_err-count
block_among-returns-in_err-count t c =
    let p = err_from_is_err_and c.from_residual-in_err-count.result c.from_residual-in_err-count.ensures.1 in
    rw (p.1, p.2) (block_stops c.args.count (c.args.names.now ∷ c.args.outer.now) c.in_ok-inner.inner c.args.decls.now c.args.stmts.now _ c.in_ok-inner.ensures c.in_err-count.ensures)

pub block_among-stmts-requires : goal.block_among-stmts-requires
block_among-stmts-requires t c = let within : c.in_ok-count.count ≤ 65535 = c.in_ok-count.ensures.1 in search rules

pub block_among-returns : goal.block_among-returns
block_among-returns t c =
    block_walks c.args.count (c.args.names.now ∷ c.args.outer.now) c.in_ok-inner.inner c.args.decls.now c.args.stmts.now c.in_ok-count.count c.stmts.result c.in_ok-inner.ensures c.in_ok-count.ensures.0 c.stmts.ensures

pub inner_block-returns : goal.inner_block-returns
inner_block-returns t c = inside_walks c.args.count c.args.scopes.now c.in_ok-names.names c.args.decls.now c.args.stmts.now c.block_among.result c.in_ok-names.ensures c.block_among.ensures
