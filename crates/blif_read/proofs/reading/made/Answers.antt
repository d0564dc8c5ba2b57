use Rattle.std.proofs.Common.{sym, subst}
use Rattle.blif_read.specs.Netlists.{Parts}
use Rattle.blif_read.specs.Valid.{IsValid}
use Rattle.blif_read.proofs.Made.{same_parts}
use Rattle.blif_read.proofs.reading.made.Goals as goal

pub invariant_of-result : goal.invariant_of-result
invariant_of-result c = record {
  valid = subst (λ (p : Parts). IsValid p) (sym (same_parts c.args.known.items c.args.blocks.now _ _ _ _ _ _ c.of.ensures c.in_ok-all_inputs.ensures c.in_ok-all_outputs.ensures c.first_clock.ensures c.in_ok-all_covers.ensures c.in_ok-all_latches.ensures)) c.requires.valid;
}

pub returns : goal.returns
returns c = same_parts c.args.known.items c.args.blocks.now _ _ _ _ _ _ c.of.ensures c.in_ok-all_inputs.ensures c.in_ok-all_outputs.ensures c.first_clock.ensures c.in_ok-all_covers.ensures c.in_ok-all_latches.ensures
