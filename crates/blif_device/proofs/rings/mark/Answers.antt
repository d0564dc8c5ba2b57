use Rattle.std.proofs.Common.{◌≡◌, false, arith}
use Rattle.std.proofs.lemmas.Grind.{common_steps}
use Rattle.blif_device.specs.Reaching.{is_marked}
use Rattle.blif_device.proofs.Marking.{marks_new}
use Rattle.blif_device.proofs.rings.mark.Goals as goal

pub returns-in_ok-push : goal.returns-in_ok-push
returns-in_ok-push c =
    let new : is_marked c.args.marks.now c.args.net ≡ false = grind (arith, common_steps) in
    rw c.in_ok-push.ensures.items (marks_new c.args.marks.now c.args.found.now.items c.args.net c.requires.listed c.requires.below new)
