use Rattle.std.proofs.Common.{◌∷◌}
use Rattle.std.proofs.lemmas.Result.{err_from_is_err_and}
use Rattle.vera_decls.proofs.NameLines.{within_limit, line_stops, line_walks}
use Rattle.vera_decls.proofs.declarations.enumeration.Goals as goal

pub returns-in_err-first : goal.returns-in_err-first
returns-in_err-first c = λ stand same.
    let p = err_from_is_err_and c.from_residual.result c.from_residual.ensures.1 in
    rw (p.1, p.2) (line_stops c.args.count c.args.of.now.line stand c.args.of.now.name _ c.args.of.now.values _ c.as_slice.ensures (c.in_err-first.ensures stand same))

pub names_of_line-requires : goal.names_of_line-requires
names_of_line-requires c = within_limit c.args.names c.in_ok-first.first.count _ _ c.in_ok-first.ensures

pub returns : goal.returns
returns c = λ stand same.
    let w = c.in_ok-first.ensures stand same in
    line_walks c.args.count c.args.of.now.line stand c.args.of.now.name _ c.args.of.now.values _ c.in_ok-first.first.count c.names_of_line.result c.as_slice.ensures c.as_slice-2.ensures w.0
    (c.names_of_line.ensures (c.as_slice.result.now ∷ stand) w.2)
