-- What becomes of a built-in call, by its mode and the number of its arguments.
use Rattle.std.specs.Prelude.{ℕ, ◌==◌, Bool, true, false, if◌then◌else◌, Option, Some}
use Rattle.vera_ast.specs.declared.typed.builtin.BuiltInFunction.TheVariants as f
use Rattle.vera_ast.specs.declared.typed.builtin.BuiltInTask.TheVariants as task
use Rattle.vera_ast.specs.declared.typed.builtin.WaitingFunction.TheVariants as wf
use Rattle.vera_ast.specs.declared.typed.modes.MailboxMode.TheVariants.{Take, Copy}
use Rattle.vera_ast.specs.declared.typed.modes.SyncMode.TheVariants as sync
use Rattle.vera_ast.specs.declared.typed.modes.TriggerMode.TheVariants as trigger
use Rattle.typing_rules.specs.declared.words.BuiltIn.{BuiltIn}
use Rattle.typing_rules.specs.declared.words.BuiltIn.TheVariants as b
use Rattle.typing_rules.specs.declared.words.Mode.{Mode}
use Rattle.typing_rules.specs.declared.words.Mode.TheVariants as m
use Rattle.typing_rules.specs.declared.words.Outcome.{Outcome}
use Rattle.typing_rules.specs.declared.words.Outcome.TheVariants as o

-- ---- what becomes of a call with so many arguments

abbrev pub mailbox_get : Option Mode → ℕ → Outcome
mailbox_get (Some m.Wait) n = o.MayWait (wf.MailboxGet Take)
mailbox_get (Some m.CopyWait) n = o.MayWait (wf.MailboxGet Copy)
mailbox_get (Some m.CopyNoWait) n = o.Gives (f.MailboxGet Copy)
mailbox_get _ n = if n == 1 then o.Gives f.MailboxSize else o.Gives (f.MailboxGet Take)

abbrev pub outcome : BuiltIn → Option Mode → ℕ → Outcome
outcome b.Printf mode n = o.Prints
outcome b.Sprintf mode n = o.PrintsInto
outcome b.Exit mode n = o.Does task.Exit
outcome b.Flag mode n = o.Gives f.Flag
outcome b.GetCycle mode n = o.Gives f.GetCycle
outcome b.Alloc (Some m.Semaphore) n = o.Gives f.AllocSemaphore
outcome b.Alloc (Some m.Mailbox) n = o.Gives f.AllocMailbox
outcome b.Alloc _ n = o.Gives f.AllocRegion
outcome b.SemaphoreGet (Some m.Wait) n = o.MayWait wf.SemaphoreGet
outcome b.SemaphoreGet _ n = o.Gives f.SemaphoreGet
outcome b.SemaphorePut mode n = o.Does task.SemaphorePut
outcome b.MailboxPut mode n = o.Does task.MailboxPut
outcome b.MailboxGet mode n = mailbox_get mode n
outcome b.RegionEnter (Some m.Wait) n = o.MayWait wf.RegionEnter
outcome b.RegionEnter _ n = o.Gives f.RegionEnter
outcome b.RegionExit mode n = o.Does task.RegionExit
outcome b.Sync (Some m.Check) n = o.Gives f.SyncCheck
outcome b.Sync (Some m.All) n = o.MayWait (wf.Sync sync.All)
outcome b.Sync (Some m.Any) n = o.MayWait (wf.Sync sync.Any)
outcome b.Sync _ n = o.MayWait (wf.Sync sync.Order)
outcome b.Trigger (Some m.OneBlast) n = o.Does (task.Trigger trigger.OneBlast)
outcome b.Trigger (Some m.HandShake) n = o.Does (task.Trigger trigger.HandShake)
outcome b.Trigger (Some m.On) n = o.Does (task.Trigger trigger.On)
outcome b.Trigger (Some m.Off) n = o.Does (task.Trigger trigger.Off)
outcome b.Trigger _ n = o.Does (task.Trigger trigger.OneShot)
outcome b.WaitChild mode n = o.Does task.WaitChild
outcome b.WaitVar mode n = o.Does task.WaitVar
outcome b.CastAssign (Some m.Check) n = o.Gives f.CastAssign
outcome b.CastAssign _ n = o.Does task.CastAssign

abbrev pub gives_a_number : Outcome → Bool
gives_a_number (o.Gives function) = true
gives_a_number (o.MayWait function) = true
gives_a_number _ = false

abbrev pub may_wait : Outcome → Bool
may_wait (o.MayWait function) = true
may_wait _ = false

-- no function has these, nor a call that may wait
abbrev pub is_for_tasks : Outcome → Bool
is_for_tasks (o.MayWait function) = true
is_for_tasks (o.Does task.Exit) = true
is_for_tasks (o.Does task.WaitChild) = true
is_for_tasks (o.Does task.WaitVar) = true
is_for_tasks _ = false
