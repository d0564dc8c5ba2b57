use Rattle.std.proofs.Common.{sym, ◌∙◌, ap, option_map}
use Rattle.four_state.specs.Numbers.{vector_of}
use Rattle.four_state.proofs.DecimalLiterals.{single_x, single_z, single_number}
use Rattle.four_state.proofs.vec4.literals.single.Goals as goal

pub returns-then-is_x : goal.returns-then-is_x
returns-then-is_x c = single_x _ _ _ (sym c.is_x.ensures ∙ c.if-is_x.true) c.all_x.ensures

pub returns-then-is_z : goal.returns-then-is_z
returns-then-is_z c = single_z _ _ _ (sym c.is_x.ensures ∙ c.if-is_x.false) (sym c.is_z.ensures ∙ c.if-is_z.true) c.all_z.ensures

pub returns : goal.returns
returns c =
    single_number _ _ _ (sym c.is_x.ensures ∙ c.if-is_x.false) (sym c.is_z.ensures ∙ c.if-is_z.false) (c.of_some_number.ensures ∙ ap (λ o. option_map (vector_of c.args.width) o) c.decimal_step.ensures)
