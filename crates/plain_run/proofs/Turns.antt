-- The turns of the evaluator's loop.
use Rattle.std.proofs.Common.{◌≡◌, ℕ, suc, ◌-◌, List, ◌∷◌, Option, Some, None, subst, arith}
use Rattle.store_api.specs.Places.{Contents}
use Rattle.slice_core.specs.Walks.{End}
use Rattle.vera_meaning.specs.Rests.{Here, Item, Rest}
use Rattle.plain_run.specs.declared.evaluate.slice.SliceEnd.TheVariants as ends
use Rattle.plain_run.specs.declared.evaluate.stmt.Taken.{Taken}
use Rattle.plain_run.specs.declared.evaluate.stmt.Taken.TheVariants as taken
use Rattle.plain_run.specs.declared.evaluate.work.Timed.{Timed}
use Rattle.plain_run.specs.Going.{IsAt}
use Rattle.plain_run.specs.Logs.{Told}
use Rattle.plain_run.specs.Next.{FindsNext}
use Rattle.plain_run.specs.SliceEnds.{EndsSo}
use Rattle.plain_run.specs.Taking.{TakenSo}
use Rattle.plain_run.specs.Work.{timed_item}
use Rattle.plain_run.proofs.Steps.{ended_so, spent_so}

-- something that takes a tick was found
pub found_some : (here : Here) (slice : End Rest) (start log : Told) (items left : List Item) (found : Option Timed) (t : Timed) (ticks : ℕ) (c : Contents) → IsAt here slice start log items ticks c → FindsNext items found left → found ≡ Some t → IsAt here slice start log (timed_item t ∷ left) ticks c
found_some here slice start log items left found t ticks c at finds is =
    let f : FindsNext items (Some t) left = subst (λ o. FindsNext items o left) is finds in
    f here slice start log ticks c at

-- and there is no tick
pub found_spent : (here : Here) (slice : End Rest) (start log : Told) (items left : List Item) (found : Option Timed) (t : Timed) (ticks : ℕ) (c : Contents) → IsAt here slice start log items ticks c → FindsNext items found left → found ≡ Some t → ticks ≡ 0 → EndsSo ends.Spent start log c left slice
found_spent here slice start log items left found t ticks c at finds is none =
    spent_so here slice start log t left ticks c left none (found_some here slice start log items left found t ticks c at finds is)

-- or there is one
pub found_timed : (here : Here) (slice : End Rest) (start log : Told) (items left : List Item) (found : Option Timed) (t : Timed) (ticks : ℕ) (c : Contents) → IsAt here slice start log items ticks c → FindsNext items found left → found ≡ Some t → (ticks ≡ 0 → ⊥) → IsAt here slice start log (timed_item t ∷ left) (suc (ticks - 1)) c
found_timed here slice start log items left found t ticks c at finds is some =
    let e : ticks ≡ suc (ticks - 1) = omega arith in
    subst (λ n. IsAt here slice start log (timed_item t ∷ left) n c) e (found_some here slice start log items left found t ticks c at finds is)

-- nothing was found
pub found_none : (here : Here) (slice : End Rest) (start log : Told) (items left : List Item) (found : Option Timed) (ticks : ℕ) (c : Contents) → IsAt here slice start log items ticks c → FindsNext items found left → found ≡ None → EndsSo ends.Ended start log c left slice
found_none here slice start log items left found ticks c at finds is =
    let f : FindsNext items None left = subst (λ o. FindsNext items o left) is finds in
    ended_so here slice start log ticks c left (f here slice start log ticks c at)

-- what was found was done: the slice goes on, or its thread waits
pub went_on : (how : Taken) (cycle : ℕ) (before after : List Item) (old new : Told) (c d : Contents) (goal : End Rest) (start : Told) → how ≡ taken.GoesOn → TakenSo how cycle before after old new c d → (ticks : ℕ) → IsAt (record { thread = 1; cycle = cycle }) goal start old before (suc ticks) c → IsAt (record { thread = 1; cycle = cycle }) goal start new after ticks d
went_on how cycle before after old new c d goal start is so ticks at =
    let f : TakenSo taken.GoesOn cycle before after old new c d = subst (λ h. TakenSo h cycle before after old new c d) is so in
    f goal start ticks at

pub waited : (how : Taken) (cycle : ℕ) (before after : List Item) (old new : Told) (c d : Contents) (goal : End Rest) (start : Told) → how ≡ taken.Waits → TakenSo how cycle before after old new c d → (ticks : ℕ) → IsAt (record { thread = 1; cycle = cycle }) goal start old before (suc ticks) c → EndsSo ends.Waits start new d after goal
waited how cycle before after old new c d goal start is so ticks at =
    let f : TakenSo taken.Waits cycle before after old new c d = subst (λ h. TakenSo h cycle before after old new c d) is so in
    f goal start ticks at
