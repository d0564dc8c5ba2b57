use Rattle.std.proofs.Common.{◌≡◌, false, drop}
use Rattle.std.specs.Prelude.{slice_index_or}
use Rattle.std.specs.List.{list_all}
use Rattle.signal_link.proofs.roles.all_marked.Given as goal

abbrev pub invariant-loop-net : goal.invariant-loop-net
invariant-loop-net l = list_all (λ net. slice_index_or l.marks net false) (drop l.net-index l.nets) ≡ list_all (λ net. slice_index_or l.marks net false) l.nets
