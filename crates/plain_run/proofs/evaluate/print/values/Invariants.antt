use Rattle.std.proofs.Common.{drop}
use Rattle.plain_run.specs.Values.{contents_of}
use Rattle.plain_run.proofs.Arguments.{GivesSoFar}
use Rattle.plain_run.proofs.evaluate.print.values.Given as goal

abbrev pub invariant-loop-argument : goal.invariant-loop-argument
invariant-loop-argument l =
    GivesSoFar l.arguments (drop l.argument-index l.arguments) (contents_of l.contents) l.values.items
