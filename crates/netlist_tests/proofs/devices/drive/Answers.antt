use Rattle.std.proofs.Common.{List, ℕ, get_or, subst, sym, arith, Contains}
use Rattle.std.proofs.lemmas.List.Elements.{Contains-get_or}
use Rattle.blif_read.specs.Netlists.{Parts}
use Rattle.netlist_tests.proofs.devices.drive.Goals as goal

pub set_input-requires : goal.set_input-requires
set_input-requires c =
    let inputs = c.as_slice-inputs.result.now in
    let place = c.args.place in
    subst (λ (p : Parts). Contains p.inputs (get_or inputs place 0)) (sym c.requires)
    (subst (λ (xs : List ℕ). Contains xs (get_or inputs place 0)) c.as_slice-inputs.ensures (Contains-get_or inputs place 0 (omega arith)))
