use Rattle.std.proofs.Common.{rules, ap, ◌∙◌, sym}
use Rattle.std.specs.Option.{option_copied}
use Rattle.blif_read.proofs.Indexed.{number_old, number_new_key}
use Rattle.blif_read.proofs.nets.Nets.number.Goals as goal

pub returns-in-Some : goal.returns-in-Some
returns-in-Some c = number_old c.args.self.now c.args.name.now c.in-Some.number.now c.requires (sym c.get.ensures.value ∙ ap option_copied c.in-Some.is)

pub returns : goal.returns
returns c =
    number_new_key c.args.self.now _ c.args.name.now c.len-number.result c.in_ok-from_slice.field-0 c.requires
    (sym c.get.ensures.value ∙ ap option_copied c.in_default.is)
    (search rules) (search rules) c.in_ok-from_slice.ensures.items c.in_ok-insert.ensures.updates
