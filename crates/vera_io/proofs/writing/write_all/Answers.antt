use Rattle.std.proofs.Common.{rules, ◌<◌, length}
use Rattle.vera_io.proofs.Written.{Wrote-part, Wrote-more}
use Rattle.vera_io.proofs.writing.write_all.Goals as goal

pub returns-in_err-taken-clause-part : goal.returns-in_err-taken-clause-part
returns-in_err-taken-clause-part g c =
    let there_is : 0 < length c.loop-rest.rest.now = search rules in
    let part = Wrote-part c.loop-rest.invariant.0 there_is in
    search rules

pub loop-rest-preserved : goal.loop-rest-preserved
loop-rest-preserved g c =
    (Wrote-more c.in_ok-taken.taken _ c.loop-rest.invariant.0 c.in_ok-taken.ensures.took (search rules), search rules)
