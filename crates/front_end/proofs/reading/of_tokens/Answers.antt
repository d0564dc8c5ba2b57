use Rattle.std.proofs.lemmas.Result.{err_from_is_err_and}
use Rattle.front_end.proofs.Steps.{not_parsed, parsed}
use Rattle.front_end.proofs.reading.of_tokens.Goals as goal

pub returns-in_err-tree : goal.returns-in_err-tree
returns-in_err-tree c =
    let x = err_from_is_err_and c.from_residual.result c.from_residual.ensures.1 in
    rw (x.1, x.2) (not_parsed c.args.purpose c.args.tokens.now c.in_err-tree.field-0.0 c.in_err-tree.ensures.refused)

pub returns : goal.returns
returns c = parsed c.args.purpose c.args.tokens.now c.in_ok-tree.tree c.typed.result c.in_ok-tree.ensures.found c.typed.ensures
