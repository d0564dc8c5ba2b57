use Rattle.std.proofs.Common.{◌≤◌, length}
use Rattle.vera_io.proofs.Written.{Wrote}
use Rattle.vera_io.proofs.writing.write_all.Given as goal

abbrev pub invariant-loop-rest : goal.invariant-loop-rest
invariant-loop-rest g l =
    Wrote (g.K.Sink.bytes_taken l.initial.sink) (g.K.Sink.bytes_taken l.sink) l.bytes l.rest
    × (g.K.Sink.faults l.initial.sink ≤ g.K.Sink.faults l.sink)

abbrev pub decreases-loop-rest : goal.decreases-loop-rest
decreases-loop-rest g l = length l.rest
