use Rattle.std.proofs.Common.{List, ℕ, subst}
use Rattle.std.specs.Bool.{Decides}
use Rattle.run_rules.specs.Links.{HasClockName}
use Rattle.signal_link.proofs.Allowed.{clock_allowed, clock_output_allowed, other_allowed}
use Rattle.signal_link.proofs.roles.Roles.allow.Goals as goal

pub returns-in-Input : goal.returns-in-Input
returns-in-Input c = λ p h is. clock_allowed p c.args.signal.now _ c.in-Clock.is c.in-Input.is (subst (λ (name : List ℕ). Decides c.allow_clock.result (HasClockName p name)) c.as_slice.ensures (c.allow_clock.ensures p h))

pub returns-in-Output : goal.returns-in-Output
returns-in-Output c = λ p h is. clock_output_allowed p c.args.signal.now c.args.nets.now _ c.in-Clock.is c.in-Output.is is (c.allow_nets.ensures p h)

pub returns-in_default : goal.returns-in_default
returns-in_default c = λ p h is. other_allowed p c.args.signal.now c.args.nets.now _ c.in_default.not-Clock is (c.allow_nets-in_default.ensures p h)
