-- The names of the built-in calls, and the mode words.
use Rattle.std.specs.Prelude.{ℕ, Bool, ◌||◌, if◌then◌else◌, List, [], ◌∷◌, Option, Some, None, is_some, codes}
use Rattle.std.specs.Str.{bytes_eq}
use Rattle.typing_rules.specs.declared.words.BuiltIn.{BuiltIn}
use Rattle.typing_rules.specs.declared.words.BuiltIn.TheVariants as b
use Rattle.typing_rules.specs.declared.words.Mode.{Mode}
use Rattle.typing_rules.specs.declared.words.Mode.TheVariants as m

abbrev pub called : List (List ℕ × BuiltIn)
called = (codes "printf", b.Printf) ∷ (codes "sprintf", b.Sprintf) ∷ (codes "exit", b.Exit) ∷ (codes "flag", b.Flag) ∷ (codes "get_cycle", b.GetCycle)
    ∷ (codes "alloc", b.Alloc) ∷ (codes "semaphore_get", b.SemaphoreGet) ∷ (codes "semaphore_put", b.SemaphorePut)
    ∷ (codes "mailbox_put", b.MailboxPut) ∷ (codes "mailbox_get", b.MailboxGet) ∷ (codes "region_enter", b.RegionEnter)
    ∷ (codes "region_exit", b.RegionExit) ∷ (codes "sync", b.Sync) ∷ (codes "trigger", b.Trigger) ∷ (codes "wait_child", b.WaitChild)
    ∷ (codes "wait_var", b.WaitVar) ∷ (codes "cast_assign", b.CastAssign) ∷ []

abbrev pub modes : List (List ℕ × Mode)
modes = (codes "WAIT", m.Wait) ∷ (codes "NO_WAIT", m.NoWait) ∷ (codes "COPY_WAIT", m.CopyWait) ∷ (codes "COPY_NO_WAIT", m.CopyNoWait)
    ∷ (codes "SEMAPHORE", m.Semaphore) ∷ (codes "MAILBOX", m.Mailbox) ∷ (codes "REGION", m.Region) ∷ (codes "ALL", m.All) ∷ (codes "ANY", m.Any)
    ∷ (codes "ORDER", m.Order) ∷ (codes "CHECK", m.Check) ∷ (codes "ONE_SHOT", m.OneShot) ∷ (codes "ONE_BLAST", m.OneBlast)
    ∷ (codes "HAND_SHAKE", m.HandShake) ∷ (codes "ON", m.On) ∷ (codes "OFF", m.Off) ∷ []

-- what stands beside a word in a table
unfoldable pub beside : {A : Type 0} → List (List ℕ × A) → List ℕ → Option A
beside [] word = None
beside (row ∷ rows) word = if bytes_eq row.0 word then Some row.1 else beside rows word

unfoldable pub built_in : List ℕ → Option BuiltIn
built_in word = beside called word

unfoldable pub mode : List ℕ → Option Mode
mode word = beside modes word

unfoldable pub is_word : List ℕ → Bool
is_word word = is_some (built_in word) || is_some (mode word)
