use Rattle.std.proofs.Common.{◌∷◌, refl, sym, ap, subst, ◌∙◌, arith}
use Rattle.std.proofs.lemmas.Result.{err_from_is_err_and}
use Rattle.vera_decls.proofs.ItemParts.{outputs_more}
use Rattle.vera_decls.proofs.WalkParts.{signal_twice, output_twice, signal_late, signal_over, signal_stands}
use Rattle.typing_rules.specs.Scopes.{Name, is_among}
use Rattle.vera_names.specs.NameSets.{SameNames}
use Rattle.vera_decls.proofs.declarations.signals.signal_name.Goals as goal

pub returns-then-has_name : goal.returns-then-has_name
returns-then-has_name c = λ before stand outs same.
    signal_twice c.args.count before stand c.args.signal.now _ (ap (λ (n : Name). is_among stand n) (sym c.as_slice.ensures) ∙ sym (c.has_name.ensures stand same) ∙ c.if-has_name.true) c.refused.ensures

pub returns-then-is_second_output : goal.returns-then-is_second_output
returns-then-is_second_output c = λ before stand outs same.
    output_twice c.args.count before stand c.args.signal.now _ (ap (λ (n : Name). is_among stand n) (sym c.as_slice.ensures) ∙ sym (c.has_name.ensures stand same) ∙ c.if-has_name.false)
    (sym (c.is_second_output.ensures before outs.names) ∙ c.if-is_second_output.true) c.refused-then-is_second_output.ensures

pub returns-then-signals-ge4096 : goal.returns-then-signals-ge4096
returns-then-signals-ge4096 c = λ before stand outs same.
    signal_late c.args.count before stand c.args.signal.now _ c.args.signals (ap (λ (n : Name). is_among stand n) (sym c.as_slice.ensures) ∙ sym (c.has_name.ensures stand same) ∙ c.if-has_name.false)
    (sym (c.is_second_output.ensures before outs.names) ∙ c.if-is_second_output.false) outs.number (omega arith) c.refused-then-signals-ge4096.ensures

pub returns-in_err-count : goal.returns-in_err-count
returns-in_err-count c = λ before stand outs same.
    let p = err_from_is_err_and c.from_residual.result c.from_residual.ensures.1 in
    rw (p.1, p.2) (signal_over c.args.count before stand c.args.signal.now _ c.args.signals (ap (λ (n : Name). is_among stand n) (sym c.as_slice.ensures) ∙ sym (c.has_name.ensures stand same) ∙ c.if-has_name.false)
    (sym (c.is_second_output.ensures before outs.names) ∙ c.if-is_second_output.false) outs.number (omega arith) c.in_err-count.ensures.0 c.in_err-count.ensures.1)

pub returns : goal.returns
returns c = λ before stand outs same. (
  signal_stands c.args.count before stand c.args.signal.now c.args.signals _ (ap (λ (n : Name). is_among stand n) (sym c.as_slice.ensures) ∙ sym (c.has_name.ensures stand same) ∙ c.if-has_name.false)
      (sym (c.is_second_output.ensures before outs.names) ∙ c.if-is_second_output.false) outs.number (omega arith) c.in_ok-count.ensures.0 c.in_ok-count.ensures.1,
  omega (arith, c.in_ok-count.ensures.0, c.in_ok-count.ensures.1),
  (
    outputs_more before c.args.signal.now c.in_ok-outputs.outputs c.args.signals _ outs.number refl (c.in_ok-outputs.ensures before outs.names),
    subst (λ (n : Name). SameNames (n ∷ stand) c.in_ok-names.names) c.as_slice-2.ensures (c.in_ok-names.ensures stand same),
  ),
)
