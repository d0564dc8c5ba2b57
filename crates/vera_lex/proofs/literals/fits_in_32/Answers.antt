use Rattle.std.proofs.Common.{◌∙◌, sym}
use Rattle.vera_lex.proofs.Digits.{right_decimal}
use Rattle.vera_lex.proofs.literals.fits_in_32.Goals as goal

pub small_number-requires : goal.small_number-requires
small_number-requires c =
    right_decimal c.args.digits.now (rw c.if-base-eq10.true at c.requires.right) (sym c.is_only_x_or_z.ensures ∙ c.if-is_only_x_or_z.false)
