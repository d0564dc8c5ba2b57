use Rattle.std.proofs.Common.{◌≡◌, length, replicate, None, rules}
use Rattle.plain_run.proofs.Beginning.{stands_first, never}
use Rattle.plain_run.proofs.outside.Outside.new.Goals as goal

pub returns-clause-stands : goal.returns-clause-stands
returns-clause-stands c = λ design linked count new.
    let items : c.in_ok-vec.field-0.items ≡ replicate (length c.args.nets.now) None = search rules in
    stands_first _ design (length c.args.nets.now) linked count new (search rules) items

pub returns-clause-begins : goal.returns-clause-begins
returns-clause-begins c = λ cycle n l last.
    let items : c.in_ok-vec.field-0.items ≡ replicate (length c.args.nets.now) None = search rules in
    absurd (never c.in_ok-vec.field-0.items (length c.args.nets.now) items n l last)
