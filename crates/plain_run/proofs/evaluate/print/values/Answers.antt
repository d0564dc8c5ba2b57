use Rattle.std.proofs.Common.{subst, sym, drop, ◌+◌}
use Rattle.plain_run.specs.Values.{contents_of}
use Rattle.plain_run.proofs.Arguments.{GivesSoFar, gives_one_at, gives_all}
use Rattle.plain_run.proofs.evaluate.print.values.Goals as goal

pub loop-argument-preserved : goal.loop-argument-preserved
loop-argument-preserved c =
    let before = c.loop-argument in
    subst (λ values. GivesSoFar c.args.arguments.now (drop (before.argument-index + 1) c.args.arguments.now) (contents_of c.args.contents.now) values)
    (sym c.in_ok-push.ensures.items)
    (gives_one_at c.args.arguments.now before.argument-index c.argument-item.result (contents_of c.args.contents.now) before.values.items c.value.result c.loop-argument-test.true c.argument-item.is before.invariant c.value.ensures.of c.value.ensures.bits)

pub returns : goal.returns
returns c = gives_all _ _ _ _ c.loop-argument-test.false c.loop-argument.invariant
