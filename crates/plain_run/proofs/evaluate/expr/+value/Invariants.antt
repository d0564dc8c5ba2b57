use Rattle.std.proofs.Common.{drop}
use Rattle.plain_run.specs.Values.{contents_of}
use Rattle.plain_run.proofs.Chains.{Chained}
use Rattle.plain_run.proofs.evaluate.expr.+value.Given as goal

abbrev pub invariant-loop-link : goal.invariant-loop-link
invariant-loop-link l =
    Chained l.expr (contents_of l.values) (drop l.link-index l.link-items) l.left.of l.left.bits
