use Rattle.std.proofs.Common.{◌∙◌, ap, ◌||◌, ◌++◌}
use Rattle.blif_read.specs.Sets.{clashes}
use Rattle.blif_read.proofs.Marks.{clashes-append}
use Rattle.blif_read.proofs.sets.NetSet.insert_both.Goals as goal

pub returns-then-not-insert_new-clause-clash : goal.returns-then-not-insert_new-clause-clash
returns-then-not-insert_new-clause-clash c = λ known s.
    clashes-append known c.args.nets.now c.args.more.now ∙ ap (λ b. b || clashes (known ++ c.args.nets.now) c.args.more.now) (c.if-not-insert_new.ensures.clash known s)

pub returns-clause-clash : goal.returns-clause-clash
returns-clause-clash c = λ known s.
    clashes-append known c.args.nets.now c.args.more.now
    ∙ ap (λ b. b || clashes (known ++ c.args.nets.now) c.args.more.now) (c.if-not-insert_new.ensures.clash known s)
    ∙ c.insert_new-2.ensures.clash (known ++ c.args.nets.now) (c.if-not-insert_new.ensures.set known s)
