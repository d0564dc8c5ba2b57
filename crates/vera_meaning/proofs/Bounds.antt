-- The bounds by which a slice's definition ends never count.
use Rattle.std.proofs.Common.{◌≡◌, ℕ, zero, suc, ◌+◌, ◌<◌, ◌≤◌, List, [], ◌∷◌, Bool, true, false, cond, refl, sym, ap, ◌∙◌, arith, zero-add, add_assoc}
use Rattle.slice_core.specs.Tree.{Tree}
use Rattle.vera_ast.specs.declared.typed.stmt.TypedStmt.{Row_of-TypedStmt, end_of-TypedStmt, more_of-TypedStmt}
use Rattle.vera_ast.specs.declared.typed.stmt.TypedStmt.TheVariants.{Block', Step, While', Printf, Drive, Edge}
use Rattle.vera_meaning.specs.Rests.{Here, Item, Do, Again, Rest}
use Rattle.vera_meaning.specs.Statements.{Exit, Inside, take_item, rest_at, gone_on, is_free, do_all, stmt_size, stmts_size, size_of}
use Rattle.vera_meaning.specs.Slices.{until_tick, all_items, slice_of}
use Rattle.vera_meaning.proofs.Fewer.{item-fewer, item-free}

size_of-do_all : {m : _} (stmts : Row_of-TypedStmt m) (rest : List Item) → size_of (do_all stmts rest) ≡ stmts_size stmts + size_of rest
size_of-do_all end_of-TypedStmt rest = sym (zero-add (size_of rest))
size_of-do_all (more_of-TypedStmt s stmts) rest = ap (λ n. stmt_size s + n) (size_of-do_all stmts rest) ∙ sym (add_assoc (stmt_size s) (stmts_size stmts) (size_of rest))

less_plus : (m n k : ℕ) → k ≡ m + n → k < suc m + n
less_plus m n k e = omega arith

-- what an item that takes no tick has inside is smaller
pub size_of-free : (i : Item) (rest : List Item) → is_free i ≡ true → size_of (rest_at i rest Inside) < size_of (i ∷ rest)
size_of-free (Do (Block' line decls p stmts)) rest free = less_plus (stmts_size stmts) (size_of rest) _ (size_of-do_all stmts rest)
size_of-free (Do (Step s)) rest free = absurd cc
size_of-free (Do (While' line condition p body)) rest free = absurd cc
size_of-free (Do (Printf p)) rest free = absurd cc
size_of-free (Do (Drive d)) rest free = absurd cc
size_of-free (Do (Edge e)) rest free = absurd cc
size_of-free (Do other) rest free = less_plus 0 (size_of rest) (size_of rest) (sym (zero-add (size_of rest)))
size_of-free (Again line condition body) rest free = absurd cc

-- what comes after the first item
abbrev beyond : Bool → Here → (List Item → ℕ → Tree Rest) → (free : ℕ) → Item → List Item → Exit → ℕ → Tree Rest
beyond free? here later free i rest exit left =
    gone_on exit (rest_at i rest exit) (cond free? (until_tick here later free (rest_at i rest exit) left) (later (rest_at i rest exit) left))

-- two slices that go on alike
gone_on-same : (exit : Exit) (items : List Item) (s t : Tree Rest) → s ≡ t → gone_on exit items s ≡ gone_on exit items t
gone_on-same exit items s t e = ap (gone_on exit items) e

pub first_free : (here : Here) (later : List Item → ℕ → Tree Rest) (free : ℕ) (i : Item) (rest : List Item) (ticks : ℕ) → is_free i ≡ true → until_tick here later (suc free) (i ∷ rest) ticks ≡ until_tick here later free (rest_at i rest Inside) ticks
first_free here later free i rest ticks e =
    ap (λ b. take_item here i ticks (beyond b here later free i rest)) e ∙ item-free here i ticks (beyond true here later free i rest) e

first_timed : (here : Here) (later : List Item → ℕ → Tree Rest) (free : ℕ) (i : Item) (rest : List Item) (ticks : ℕ) → is_free i ≡ false → until_tick here later (suc free) (i ∷ rest) ticks ≡ take_item here i ticks (λ exit left. gone_on exit (rest_at i rest exit) (later (rest_at i rest exit) left))
first_timed here later free i rest ticks e = ap (λ b. take_item here i ticks (beyond b here later free i rest)) e

pub until_tick-same : (here : Here) (free free' : ℕ) (items : List Item) (ticks : ℕ) (f g : List Item → ℕ → Tree Rest) → size_of items < free → size_of items < free' → ((its : List Item) (left : ℕ) → left < ticks → f its left ≡ g its left) → until_tick here f free items ticks ≡ until_tick here g free' items ticks
until_tick-same here zero free' items ticks f g within within' same = absurd (omega arith)
until_tick-same here (suc free) zero items ticks f g within within' same = absurd (omega arith)
until_tick-same here (suc free) (suc free') [] ticks f g within within' same = refl
until_tick-same here (suc free) (suc free') (i ∷ rest) ticks f g within within' same =
    by (is_free i) refl (λ e.
    let smaller = size_of-free i rest e in
    until_tick-same here free free' (rest_at i rest Inside) ticks f g (omega arith) (omega arith) same)
  where
    by : (b : Bool) → is_free i ≡ b → (is_free i ≡ true → until_tick here f free (rest_at i rest Inside) ticks ≡ until_tick here g free' (rest_at i rest Inside) ticks) → until_tick here f (suc free) (i ∷ rest) ticks ≡ until_tick here g (suc free') (i ∷ rest) ticks
    by true e inner = first_free here f free i rest ticks e ∙ (inner e ∙ sym (first_free here g free' i rest ticks e))
    by false e inner =
        first_timed here f free i rest ticks e
        ∙ (item-fewer here i ticks _ _ e (λ exit left lt. gone_on-same exit (rest_at i rest exit) _ _ (same (rest_at i rest exit) left lt))
        ∙ sym (first_timed here g free' i rest ticks e))

pub all_items-same : (here : Here) (bound bound' : ℕ) (items : List Item) (ticks : ℕ) → ticks < bound → ticks < bound' → all_items here bound items ticks ≡ all_items here bound' items ticks
all_items-same here zero bound' items ticks within within' = absurd (omega arith)
all_items-same here (suc bound) zero items ticks within within' = absurd (omega arith)
all_items-same here (suc bound) (suc bound') items ticks within within' =
    until_tick-same here (suc (size_of items)) (suc (size_of items)) items ticks (all_items here bound) (all_items here bound') (omega arith) (omega arith) (λ its left lt. all_items-same here bound bound' its left (omega arith) (omega arith))

-- more free items and more ticks than there are make no difference
pub slice_of-bounds : (here : Here) (r : Rest) (budget bound free : ℕ) → budget ≤ bound → size_of r.agenda < free → until_tick here (all_items here bound) free r.agenda budget ≡ slice_of here r budget
unfolding slice_of
slice_of-bounds here r budget bound free enough within =
    until_tick-same here free (suc (size_of r.agenda)) r.agenda budget (all_items here bound) (all_items here budget) within (omega arith) (λ its left lt. all_items-same here bound budget its left (omega arith) lt)

-- items are taken off one after another
pub slice_of-item : (here : Here) (i : Item) (rest : List Item) (budget : ℕ) → slice_of here (record { agenda = i ∷ rest }) budget ≡ take_item here i budget (λ exit left. gone_on exit (rest_at i rest exit) (slice_of here (record { agenda = rest_at i rest exit }) left))
unfolding slice_of
slice_of-item here i rest budget = by (is_free i) refl
  where
    by : (b : Bool) → is_free i ≡ b → all_items here (suc budget) (i ∷ rest) budget ≡ take_item here i budget (λ exit left. gone_on exit (rest_at i rest exit) (all_items here (suc left) (rest_at i rest exit) left))
    by true e =
        let smaller = size_of-free i rest e in
        first_free here (all_items here budget) (size_of (i ∷ rest)) i rest budget e
        ∙ (until_tick-same here (size_of (i ∷ rest)) (suc (size_of (rest_at i rest Inside))) (rest_at i rest Inside) budget (all_items here budget) (all_items here budget) (omega arith) (omega arith) (λ its left lt. refl)
        ∙ sym (item-free here i budget (λ exit left. gone_on exit (rest_at i rest exit) (all_items here (suc left) (rest_at i rest exit) left)) e))
    by false e =
        first_timed here (all_items here budget) (size_of (i ∷ rest)) i rest budget e
        ∙ item-fewer here i budget _ _ e (λ exit left lt. gone_on-same exit (rest_at i rest exit) _ _ (all_items-same here budget (suc left) (rest_at i rest exit) left lt (omega arith)))
