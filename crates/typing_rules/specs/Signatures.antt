-- The built-in calls: their mode words, what they want as arguments, and how many.
use Rattle.std.specs.Prelude.{ℕ, ◌&&◌, nat_le, Bool, true, false, if◌then◌else◌, List, [], ◌∷◌, map, Option, Some, None}
use Rattle.typing_rules.specs.declared.names.Expected.{Expected}
use Rattle.typing_rules.specs.declared.words.BuiltIn.{BuiltIn}
use Rattle.typing_rules.specs.declared.words.BuiltIn.TheVariants as b
use Rattle.typing_rules.specs.declared.words.Mode.{Mode}
use Rattle.typing_rules.specs.declared.words.Mode.TheVariants as m
use Rattle.typing_rules.specs.declared.words.Want.{Want}
use Rattle.typing_rules.specs.declared.words.Want.TheVariants as w

-- ---- mode words

abbrev pub takes : BuiltIn → Mode → Bool
takes b.Alloc m.Semaphore = true
takes b.Alloc m.Mailbox = true
takes b.Alloc m.Region = true
takes b.SemaphoreGet m.Wait = true
takes b.SemaphoreGet m.NoWait = true
takes b.MailboxGet m.Wait = true
takes b.MailboxGet m.NoWait = true
takes b.MailboxGet m.CopyWait = true
takes b.MailboxGet m.CopyNoWait = true
takes b.RegionEnter m.Wait = true
takes b.RegionEnter m.NoWait = true
takes b.Sync m.All = true
takes b.Sync m.Any = true
takes b.Sync m.Order = true
takes b.Sync m.Check = true
takes b.Trigger m.OneShot = true
takes b.Trigger m.OneBlast = true
takes b.Trigger m.HandShake = true
takes b.Trigger m.On = true
takes b.Trigger m.Off = true
takes _ _ = false

-- ---- arguments in order, and what any further ones are

pub record Wants : Type 0 where
  pub first : List Want
  pub more : Option Want

abbrev pub exactly : List Want → Wants
exactly wants = record { first = wants; more = None }

abbrev pub then_any : List Want → Want → Wants
then_any wants further = record { first = wants; more = Some further }

abbrev pub wants_of : BuiltIn → Wants
wants_of b.Printf = then_any (w.Format ∷ []) w.Printed
wants_of b.Sprintf = then_any (w.StrVariable ∷ w.Format ∷ []) w.Printed
wants_of b.Exit = exactly (w.Vector ∷ [])
wants_of b.Flag = exactly []
wants_of b.GetCycle = exactly []
wants_of b.Alloc = exactly (w.Mode ∷ w.Zero ∷ w.Vector ∷ w.Vector ∷ [])
wants_of b.SemaphoreGet = exactly (w.Mode ∷ w.Vector ∷ w.Vector ∷ [])
wants_of b.SemaphorePut = exactly (w.Vector ∷ w.Vector ∷ [])
wants_of b.MailboxPut = exactly (w.Vector ∷ w.Item ∷ [])
wants_of b.MailboxGet = exactly (w.Mode ∷ w.Vector ∷ w.ItemVariable ∷ [])
wants_of b.RegionEnter = then_any (w.Mode ∷ w.Vector ∷ []) w.Vector
wants_of b.RegionExit = then_any (w.Vector ∷ []) w.Vector
wants_of b.Sync = then_any (w.Mode ∷ []) w.Event
wants_of b.Trigger = then_any (w.ModeOrEvent ∷ []) w.Event
wants_of b.WaitChild = exactly []
wants_of b.WaitVar = then_any [] w.WholeVariable
wants_of b.CastAssign = exactly (w.ObjectVariable ∷ w.Object ∷ w.Check ∷ [])

-- those of a call in this mode: what is surplus there has no type to fit. `alloc` has a fourth argument for a semaphore
-- alone, and `sync` checks one event.
abbrev pub wants_in : BuiltIn → Option Mode → Wants
wants_in b.Alloc (Some m.Semaphore) = wants_of b.Alloc
wants_in b.Alloc mode = exactly (w.Mode ∷ w.Zero ∷ w.Vector ∷ [])
wants_in b.Sync (Some m.Check) = exactly (w.Mode ∷ w.Event ∷ [])
wants_in other mode = wants_of other

-- those of a user's task or function
abbrev pub wants_by : List Expected → Wants
wants_by parameters = exactly (map (λ p. if p.is_var then w.Variable else w.Value) parameters)

-- what is wanted next, and behind it; a surplus argument is a value
abbrev pub next_of : List Want → Option Want → Want
next_of [] None = w.Value
next_of [] (Some further) = further
next_of (first ∷ rest) more = first

abbrev pub behind : List Want → List Want
behind [] = []
behind (first ∷ rest) = rest

abbrev pub next_want : Wants → Want
next_want wants = next_of wants.first wants.more

abbrev pub after_next : Wants → Wants
after_next wants = record { first = behind wants.first; more = wants.more }

-- ---- how many arguments, the mode word not counted

pub record Count : Type 0 where
  pub least : ℕ
  pub most : Option ℕ

abbrev pub just : ℕ → Count
just n = record { least = n; most = Some n }

abbrev pub at_least : ℕ → Count
at_least n = record { least = n; most = None }

abbrev pub count_of : BuiltIn → Option Mode → Count
count_of b.Printf mode = at_least 1
count_of b.Sprintf mode = at_least 2
count_of b.Exit mode = just 1
count_of b.Flag mode = just 0
count_of b.GetCycle mode = just 0
count_of b.Alloc (Some m.Semaphore) = just 3
count_of b.Alloc _ = just 2
count_of b.SemaphoreGet mode = just 2
count_of b.SemaphorePut mode = just 2
count_of b.MailboxPut mode = just 2
count_of b.MailboxGet (Some m.NoWait) = record { least = 1; most = Some 2 }
count_of b.MailboxGet _ = just 2
count_of b.RegionEnter mode = at_least 2
count_of b.RegionExit mode = at_least 2
count_of b.Sync (Some m.Check) = just 1
count_of b.Sync _ = at_least 1
count_of b.Trigger mode = at_least 1
count_of b.WaitChild mode = just 0
count_of b.WaitVar mode = at_least 1
count_of b.CastAssign mode = just 2

abbrev pub no_more_than : ℕ → Option ℕ → Bool
no_more_than n None = true
no_more_than n (Some most) = nat_le n most

abbrev pub counts : Count → ℕ → Bool
counts count n = nat_le count.least n && no_more_than n count.most
