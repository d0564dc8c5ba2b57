use Rattle.std.proofs.Common.{sym, ◌∙◌, ap}
use Rattle.blif_read.proofs.Joined.{gathered-end, gathered-end_begun}
use Rattle.blif_read.proofs.lines.Joiner.finish.Goals.{in-Some+in_ok-close, in_default}
use Rattle.blif_read.proofs.lines.Joiner.finish.Goals as goal

pub returns : goal.returns
returns c =
    elim c.match-self.branch [
      | in-Some+in_ok-close w ↦
          let e = gathered-end_begun c.args.self w.in-Some.first w.in-Some.is in
          ap (λ j. j.lines.items) w.self-is ∙ w.in_ok-close.ensures.lines ∙ sym e
      | in_default w ↦ ap (λ j. j.lines.items) w.self-is ∙ sym (gathered-end c.args.self w.in_default.is c.requires)
    ]
