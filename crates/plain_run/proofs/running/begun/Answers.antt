use Rattle.std.proofs.Common.{ap, refl}
use Rattle.plain_run.specs.Logs.{Told}
use Rattle.plain_run.proofs.Ran.{first_item}
use Rattle.plain_run.proofs.running.begun.Goals as goal

pub returns-clause-begun : goal.returns-clause-begun
returns-clause-begun c = record {
  agenda = first_item _ _ _ _ c.in_ok-push.ensures.items c.new-agenda.ensures.items refl;
  contents = c.new.ensures;
  printed = ap (λ (t : Told). t.printed) c.new-2.ensures;
  applied = c.new-4.ensures.items;
  cycle = refl;
}
