use Rattle.std.proofs.Common.{◌≡◌, ◌-◌, length}
use Rattle.typing_rules.specs.Types.{is_below}
use Rattle.vera_names.proofs.fitting.descends.Given as goal

-- what is left of the way up tells what the whole does
abbrev pub invariant-loop-step : goal.invariant-loop-step
invariant-loop-step l = is_below (l._step-end - l._step) l.parents l.below l.ancestor ≡ is_below (length l.parents) l.parents l.fn.class l.ancestor
