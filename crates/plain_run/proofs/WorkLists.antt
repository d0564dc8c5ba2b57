-- The evaluator's work list, where its last entry is taken off and a block is opened.
use Rattle.std.proofs.Common.{◌≡◌, ℕ, ◌<◌, List, [], ◌∷◌, ◌++◌, map, true, refl, sym, ap, ◌∙◌, subst, arith}
use Rattle.std.proofs.lemmas.Grind.{common_steps}
use Rattle.vera_ast.specs.declared.typed.stmt.TypedBlock.{TypedBlock}
use Rattle.vera_ast.specs.declared.typed.stmt.TypedStmt.TheViews.{Block}
use Rattle.store_api.specs.Places.{Contents}
use Rattle.slice_core.specs.Walks.{End}
use Rattle.vera_meaning.specs.Rests.{Here, Item, Do, Rest}
use Rattle.vera_meaning.specs.Statements.{Inside, is_free, rest_at, size_of}
use Rattle.vera_meaning.proofs.StatementViews.{inside-block, is_free-block}
use Rattle.vera_meaning.proofs.Bounds.{size_of-free}
use Rattle.plain_run.specs.declared.evaluate.work.Work.{Work}
use Rattle.plain_run.specs.Work.{item_of, agenda_of}
use Rattle.plain_run.specs.Going.{IsAt, Finds}
use Rattle.plain_run.specs.Logs.{Told}
use Rattle.plain_run.proofs.Steps.{opens_free}

-- the last entry comes first
pub agenda_of-push : (list : List Work) (w : Work) → agenda_of (list ++ w ∷ []) ≡ item_of w ∷ agenda_of list
agenda_of-push list w = grind (arith, common_steps)

-- what is found where the first entry takes no tick
pub record Opened (before after : List Work) : Type 0 where
  pub smaller : size_of (agenda_of after) < size_of (agenda_of before)
  pub finds : Finds (agenda_of before) (agenda_of after)

opened : (before popped after : List Work) (w : Work) (i : Item) → before ≡ popped ++ w ∷ [] → item_of w ≡ i → is_free i ≡ true → agenda_of after ≡ rest_at i (agenda_of popped) Inside → Opened before after
opened before popped after w i parts is free left =
    let rest = agenda_of popped in
    let first : i ∷ rest ≡ agenda_of before = sym (ap agenda_of parts ∙ (agenda_of-push popped w ∙ ap (λ i. i ∷ rest) is)) in
    record {
      smaller = subst (λ items. size_of (agenda_of after) < size_of items) first (subst (λ items. size_of items < size_of (i ∷ rest)) (sym left) (size_of-free i rest free));
      finds = subst (λ items. Finds items (agenda_of after)) first (subst (λ items. Finds (i ∷ rest) items) (sym left) (opens_free i rest free));
    }

pub block_opened : (before popped after : List Work) (w : Work) (b : TypedBlock) → before ≡ popped ++ w ∷ [] → item_of w ≡ Do (Block b) → agenda_of after ≡ map Do b.stmts ++ agenda_of popped → Opened before after
block_opened before popped after w b parts is pushed =
    opened before popped after w (Do (Block b)) parts is (is_free-block b) (pushed ∙ sym (inside-block b (agenda_of popped)))

pub nothing_opened : (before popped : List Work) (w : Work) → before ≡ popped ++ w ∷ [] → is_free (item_of w) ≡ true → ((rest : List Item) → rest_at (item_of w) rest Inside ≡ rest) → Opened before popped
nothing_opened before popped w parts free inside = opened before popped popped w (item_of w) parts refl free (sym (inside (agenda_of popped)))

-- an equal item stands first
pub with_item : (i j : Item) → i ≡ j → (here : Here) (goal : End Rest) (start log : Told) (rest : List Item) (ticks : ℕ) (c : Contents) → IsAt here goal start log (i ∷ rest) ticks c → IsAt here goal start log (j ∷ rest) ticks c
with_item i j e here goal start log rest ticks c at = subst (λ k. IsAt here goal start log (k ∷ rest) ticks c) e at

-- an entry is pushed
pub pushed : (before after : List Work) (w : Work) → after ≡ before ++ w ∷ [] → (here : Here) (goal : End Rest) (start log : Told) (ticks : ℕ) (c : Contents) → IsAt here goal start log (item_of w ∷ agenda_of before) ticks c → IsAt here goal start log (agenda_of after) ticks c
pushed before after w e here goal start log ticks c at =
    subst (λ items. IsAt here goal start log items ticks c) (sym (ap agenda_of e ∙ agenda_of-push before w)) at

-- an entry was pushed behind the first item
pub pushed_behind : (before after : List Work) (w : Work) (i : Item) → after ≡ before ++ w ∷ [] → (here : Here) (goal : End Rest) (start log : Told) (ticks : ℕ) (c : Contents) → IsAt here goal start log (i ∷ item_of w ∷ agenda_of before) ticks c → IsAt here goal start log (i ∷ agenda_of after) ticks c
pushed_behind before after w i e here goal start log ticks c at =
    subst (λ items. IsAt here goal start log (i ∷ items) ticks c) (sym (ap agenda_of e ∙ agenda_of-push before w)) at
