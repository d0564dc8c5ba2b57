use Rattle.std.proofs.Common.{◌≢◌, ℕ, ◌+◌, ◌<◌, ◌≤◌, true, false, sym, ap, ◌∙◌, subst, arith}
use Rattle.plain_run.specs.Logs.{told}
use Rattle.plain_run.specs.Values.{contents_of}
use Rattle.plain_run.specs.Work.{agenda_of}
use Rattle.plain_run.proofs.OneCycle.{can_apply, spent, printed_too_much, finished, at_limit, driven_too_much, went_on, told_as, waits, test_is, next_of}
use Rattle.plain_run.proofs.cycles.Run.one_cycle.Goals as goal

pub returns-in-Spent-clause-done : goal.returns-in-Spent-clause-done
returns-in-Spent-clause-done c =
    λ design serial driven held settles stands.
    spent design c.args.limits serial driven held c.args.self.now c.in_ok-slice.slice (told c.run_slice.new.log) (contents_of c.run_slice.new.values) (agenda_of c.run_slice.new.agenda.items) stands c.in_ok-slice.ensures c.in-Spent.is

pub returns-then-is_too_much : goal.returns-then-is_too_much
returns-then-is_too_much c = record {
  done = λ design serial driven held settles stands.
      printed_too_much design c.args.limits serial driven held c.args.self.now c.in_ok-slice.slice (told c.run_slice.new.log) (contents_of c.run_slice.new.values) (agenda_of c.run_slice.new.agenda.items) stands c.in_ok-slice.ensures c.in_default.not-Spent
      (test_is true _ _ _ _ _ c.deref.ensures.value c.deref-2.ensures.value c.is_too_much.ensures c.if-is_too_much.true);
  still = c.requires.within;
  later = λ e. absurd cc;
}

pub apply_drives-requires : goal.apply_drives-requires
apply_drives-requires c = record {
  design = c.requires.stands.design;
  driven = c.requires.stands.driven;
  held = c.requires.stands.held;
  cycle = c.args.self.now.cycle;
  can = can_apply c.requires.stands.design c.args.limits 0 c.requires.stands.driven c.requires.stands.held c.args.self.now c.in_ok-slice.slice (told c.run_slice.new.log) (contents_of c.run_slice.new.values) (agenda_of c.run_slice.new.agenda.items) c.requires.stands.stands c.in_ok-slice.ensures;
}

pub returns-in-Ended : goal.returns-in-Ended
returns-in-Ended c =
    let d = c.in_ok-apply_drives.ensures in
    record {
      done = λ design serial driven held settles stands.
          told_as _ _ _ _ _ _ _ _ _ _ d.cycle (ap (λ v. v.items) d.printed) d.applied
          (finished design c.args.limits serial driven held c.args.self.now c.in_ok-slice.slice (told c.run_slice.new.log) (contents_of c.run_slice.new.values) (agenda_of c.run_slice.new.agenda.items) stands c.in_ok-slice.ensures c.in-Ended.is
          (test_is false _ _ _ _ _ c.deref.ensures.value c.deref-2.ensures.value c.is_too_much.ensures c.if-is_too_much.false));
      still = subst (λ y. y ≤ c.args.limits.cycles) (sym d.cycle) c.requires.within;
      later = λ e. absurd cc;
    }

pub returns-then-self-limits : goal.returns-then-self-limits
returns-then-self-limits c =
    let d = c.in_ok-apply_drives.ensures in
    record {
      done = λ design serial driven held settles stands.
          told_as _ _ _ _ _ _ _ _ _ _ d.cycle (ap (λ v. v.items) d.printed) d.applied
          (at_limit design c.args.limits serial driven held c.args.self.now c.in_ok-slice.slice (told c.run_slice.new.log) (contents_of c.run_slice.new.values) (agenda_of c.run_slice.new.agenda.items) stands c.in_ok-slice.ensures (waits _ c.in_default.not-Spent c.in_default-slice.not-Ended)
          (test_is false _ _ _ _ _ c.deref.ensures.value c.deref-2.ensures.value c.is_too_much.ensures c.if-is_too_much.false)
          (sym d.cycle ∙ c.if-self-limits.true));
      still = subst (λ y. y ≤ c.args.limits.cycles) (sym d.cycle) c.requires.within;
      later = λ e. absurd cc;
    }

pub next_cycle-requires : goal.next_cycle-requires
next_cycle-requires c =
    let d = c.in_ok-apply_drives.ensures in
    let can = can_apply c.requires.stands.design c.args.limits 0 c.requires.stands.driven c.requires.stands.held c.args.self.now c.in_ok-slice.slice (told c.run_slice.new.log) (contents_of c.run_slice.new.values) (agenda_of c.run_slice.new.agenda.items) c.requires.stands.stands c.in_ok-slice.ensures in
    (c.requires.stands.design, _, c.requires.stands.held, (d.outside c.requires.stands.design c.requires.stands.driven c.requires.stands.held c.args.self.now.cycle can).stands)

below : (a b : ℕ) → a ≤ b → a ≢ b → a + 1 ≤ b
below a b h ne = omega arith

pub returns-then-is_too_much-2 : goal.returns-then-is_too_much-2
returns-then-is_too_much-2 c =
    let d = c.in_ok-apply_drives.ensures in
    record {
      done = λ design serial driven held settles stands.
          told_as _ _ _ _ _ _ _ _ _ _ (ap (λ y. y + 1) d.cycle) (ap (λ v. v.items) d.printed) d.applied
          (driven_too_much design c.args.limits serial driven held c.args.self.now c.in_ok-slice.slice (told c.run_slice.new.log) (contents_of c.run_slice.new.values) (agenda_of c.run_slice.new.agenda.items) stands c.in_ok-slice.ensures (waits _ c.in_default.not-Spent c.in_default-slice.not-Ended)
          (test_is false _ _ _ _ _ c.deref.ensures.value c.deref-2.ensures.value c.is_too_much.ensures c.if-is_too_much.false)
          (λ e. c.if-self-limits.false (d.cycle ∙ e))
          (test_is true _ _ _ _ _ (c.deref-3.ensures.value ∙ ap (λ v. v.items) d.printed) (c.deref-4.ensures.value ∙ d.applied) c.is_too_much-2.ensures c.if-is_too_much-2.true));
      still = below _ _ (subst (λ y. y ≤ c.args.limits.cycles) (sym d.cycle) c.requires.within) c.if-self-limits.false;
      later = λ e. absurd cc;
    }

pub returns : goal.returns
returns c =
    let d = c.in_ok-apply_drives.ensures in
    record {
      done = λ design serial driven held settles stands.
          let can = can_apply design c.args.limits serial driven held c.args.self.now c.in_ok-slice.slice (told c.run_slice.new.log) (contents_of c.run_slice.new.values) (agenda_of c.run_slice.new.agenda.items) stands c.in_ok-slice.ensures in
          let has = d.outside design driven held c.args.self.now.cycle can in
          went_on design c.args.limits serial driven held c.args.self.now c.in_ok-slice.slice (told c.run_slice.new.log) (contents_of c.run_slice.new.values) (agenda_of c.run_slice.new.agenda.items) stands c.in_ok-slice.ensures c.requires.turns _ (waits _ c.in_default.not-Spent c.in_default-slice.not-Ended)
          (test_is false _ _ _ _ _ c.deref.ensures.value c.deref-2.ensures.value c.is_too_much.ensures c.if-is_too_much.false)
          (λ e. c.if-self-limits.false (d.cycle ∙ e))
          (test_is false _ _ _ _ _ (c.deref-3.ensures.value ∙ ap (λ v. v.items) d.printed) (c.deref-4.ensures.value ∙ d.applied) c.is_too_much-2.ensures c.if-is_too_much-2.false)
          (record {
            agenda = ap (λ v. agenda_of v.items) d.agenda;
            cycle = ap (λ y. y + 1) d.cycle;
            printed = ap (λ v. v.items) d.printed;
            due = d.due;
            applied = d.applied;
            next = next_of design _ _ _ _ _ _ (ap contents_of d.values) (c.in_ok-next_cycle.ensures.next design _ held settles has.stands);
            fits = has.fits;
            begins = c.in_ok-next_cycle.ensures.begins (c.args.self.now.cycle + 1) has.begins;
          });
      still = below _ _ (subst (λ y. y ≤ c.args.limits.cycles) (sym d.cycle) c.requires.within) c.if-self-limits.false;
      later = λ e. subst (λ y. c.args.self.now.cycle < y + 1) (sym d.cycle) (omega arith);
    }
