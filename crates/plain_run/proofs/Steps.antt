-- The steps of a slice's walk.
use Rattle.std.proofs.Common.{◌≡◌, ℕ, zero, suc, ◌<◌, ◌≤◌, List, [], ◌∷◌, ◌++◌, map, Option, Some, None, Bool, true, false, cond, if◌then◌else◌, refl, sym, ap, ◌∙◌, subst, arith}
use Rattle.four_state.specs.declared.bit.Bit.{Bit}
use Rattle.store_api.specs.Places.{Contents}
use Rattle.store_api.specs.declared.loc.Loc.{Loc}
use Rattle.slice_core.specs.Tree.{Tree, Effect, Prints, Drives, Emits, Ends, Spent}
use Rattle.slice_core.specs.Walks.{End, walked, walked_from}
use Rattle.vera_ast.specs.declared.typed.expr.TypedExpr.{TypedExpr}
use Rattle.vera_ast.specs.declared.typed.format.FormatPart.{FormatPart}
use Rattle.vera_ast.specs.declared.typed.names.TypedVariable.{TypedVariable}
use Rattle.vera_ast.specs.declared.typed.place.TypedPlace.{TypedPlace}
use Rattle.vera_ast.specs.declared.typed.place.TypedPlace.TheVariants as places
use Rattle.vera_ast.specs.declared.typed.stmt.TypedChange.{TypedChange}
use Rattle.vera_ast.specs.declared.typed.stmt.TypedChange.TheVariants.{Assign}
use Rattle.vera_ast.specs.declared.typed.stmt.TypedDrive.{TypedDrive}
use Rattle.vera_ast.specs.declared.typed.stmt.TypedEdge.{TypedEdge}
use Rattle.vera_ast.specs.declared.typed.stmt.TypedPrintf.{TypedPrintf}
use Rattle.vera_ast.specs.declared.typed.stmt.TypedStep.{TypedStep}
use Rattle.vera_ast.specs.declared.typed.stmt.TypedStmt.TheVariants.{Step, While', Printf, Drive, Edge}
use Rattle.vera_ast.specs.declared.typed.stmt.TypedStmt.TheViews as stmts
use Rattle.vera_ast.specs.declared.typed.stmt.TypedWhile.{TypedWhile}
use Rattle.vera_ast.specs.declared.typed.types.ValueType.{ValueType}
use Rattle.vera_ast.specs.declared.typed.types.ValueType.TheVariants.{Vector}
use Rattle.vera_ast.specs.declared.typed.types.VectorType.TheVariants as types
use Rattle.vera_ast.specs.ExprTypes.{type_of}
use Rattle.run_rules.specs.declared.drive.Drive as drive
use Rattle.vera_meaning.specs.Rests.{Here, Item, Do, Again, Rest, nothing_left}
use Rattle.vera_meaning.specs.Operators.{fitted, is_true}
use Rattle.vera_meaning.specs.Formats.{formatted}
use Rattle.vera_meaning.specs.Expressions.{place_of, bits_at, read_at, Next}
use Rattle.vera_meaning.specs.Statements.{size_of, written_at, driven, take_item, rest_at, gone_on, is_free, Exit, Inside, After}
use Rattle.vera_meaning.specs.Slices.{until_tick, all_items, slice_of}
use Rattle.vera_meaning.proofs.StatementViews.{take_stmt-while, is_free-while, inside-while}
use Rattle.vera_meaning.proofs.Bounds.{size_of-free, first_free}
use Rattle.plain_run.specs.declared.evaluate.expr.Typed.{Typed}
use Rattle.plain_run.specs.declared.evaluate.slice.SliceEnd.TheVariants as ends
use Rattle.plain_run.specs.declared.evaluate.work.Timed.{Timed}
use Rattle.plain_run.specs.declared.evaluate.work.Timed.TheVariants as timed
use Rattle.plain_run.specs.Gives.{Gives, Changes}
use Rattle.plain_run.specs.SliceEnds.{EndsSo}
use Rattle.plain_run.specs.Work.{timed_item}
use Rattle.plain_run.specs.Going.{IsAt, Finds}
use Rattle.plain_run.specs.Logs.{Told, tells, tells_all}
use Rattle.plain_run.specs.Printing.{argument_of, GivesAll}
use Rattle.plain_run.specs.Values.{found_at, written}

-- a number above another isn't 0
above : (n m : ℕ) → n < m → (k : ℕ) × (m ≡ suc k) × (n ≤ k)
above n zero h = absurd (omega arith)
above n (suc m) h = (m, refl, omega arith)

-- an item that takes none is opened, where more than the free items may be taken off
pub opens_free : (i : Item) (rest : List Item) → is_free i ≡ true → Finds (i ∷ rest) (rest_at i rest Inside)
opens_free i rest free here goal start log ticks c at =
    let smaller = size_of-free i rest free in
    let left = above (size_of (i ∷ rest)) at.free at.free_within in
    record {
      effects = at.effects;
      bound = at.bound;
      free = left.0;
      ticks_within = at.ticks_within;
      free_within = omega (arith, smaller, left.2);
      log_is = at.log_is;
      same =
          sym (ap (λ t. walked_from t c at.effects) (first_free here (all_items here at.bound) left.0 i rest ticks free))
          ∙ (ap (λ n. walked_from (until_tick here (all_items here at.bound) n (i ∷ rest) ticks) c at.effects) (sym left.1) ∙ at.same);
    }

-- An item that takes a tick is taken off: it goes on with what remains.
later : (here : Here) (goal : End Rest) (start log : Told) (rest : List Item) (bound ticks : ℕ) (c : Contents) (effects : List Effect) → suc ticks ≤ bound → log ≡ tells_all start effects → walked_from (all_items here bound rest ticks) c effects ≡ goal → IsAt here goal start log rest ticks c
later here goal start log rest bound ticks c effects within log_is same =
    let n = above ticks bound (omega arith) in
    record {
      effects = effects;
      bound = n.0;
      free = suc (size_of rest);
      ticks_within = n.2;
      free_within = omega arith;
      log_is = log_is;
      same = ap (λ m. walked_from (all_items here m rest ticks) c effects) (sym n.1) ∙ same;
    }

-- what comes behind an item
abbrev behind : Here → (bound : ℕ) → Item → List Item → Exit → ℕ → Tree Rest
behind here bound item rest exit left = gone_on exit (rest_at item rest exit) (all_items here bound (rest_at item rest exit) left)

-- what an item does where it stands first and takes a tick
pub record Taking (here : Here) (goal : End Rest) (start log : Told) (item : Item) (rest : List Item) (ticks : ℕ) (c : Contents) : Type 0 where
  pub effects : List Effect
  pub bound : ℕ
  pub within : ticks ≤ bound
  pub log_is : log ≡ tells_all start effects
  pub same : walked_from (take_item here item ticks (behind here bound item rest)) c effects ≡ goal

taking : (here : Here) (goal : End Rest) (start log : Told) (item : Item) (rest : List Item) (ticks : ℕ) (c : Contents) → is_free item ≡ false → IsAt here goal start log (item ∷ rest) ticks c → Taking here goal start log item rest ticks c
taking here goal start log item rest ticks c timed at =
    let free = above (size_of (item ∷ rest)) at.free at.free_within in
    record {
      effects = at.effects;
      bound = at.bound;
      within = at.ticks_within;
      log_is = at.log_is;
      same =
          ap (λ b. walked_from (take_item here item ticks (λ exit left. gone_on exit (rest_at item rest exit) (cond b (until_tick here (all_items here at.bound) free.0 (rest_at item rest exit) left) (all_items here at.bound (rest_at item rest exit) left)))) c at.effects) (sym timed)
          ∙ (ap (λ n. walked_from (until_tick here (all_items here at.bound) n (item ∷ rest) ticks) c at.effects) (sym free.1) ∙ at.same);
    }

-- what stands at a place
pub reads : (o : Option Loc) (of : ValueType) (c : Contents) (bits : List Bit) → bits ≡ bits_at of (found_at c o) → (ticks : ℕ) (next : Next) (es : List Effect) → walked_from (read_at o of ticks next) c es ≡ walked_from (next bits ticks) c es
reads None of c bits is ticks next es = ap (λ b. walked_from (next b ticks) c es) (sym is)
reads (Some l) of c bits is ticks next es = ap (λ b. walked_from (next b ticks) c es) (sym is)

-- bits are written at a place
writes : (o : Option Loc) (bits : List Bit) (c : Contents) (t : Tree Rest) (es : List Effect) → walked_from (written_at o bits t) c es ≡ walked_from t (written o bits c) es
writes None bits c t es = refl
writes (Some l) bits c t es = refl

-- an assignment
pub assigned : (v : TypedVariable) (e : TypedExpr) (of : ValueType) (bits result : List Bit) (c d : Contents) → of ≡ type_of e → Gives e c bits → result ≡ fitted of v.of bits → d ≡ written (place_of v.place) result c → Changes (places.Variable v) (Assign e) c d
assigned v e of bits result c d of_is gives result_is put = λ ticks next es.
    let is : result ≡ fitted (type_of e) v.of bits = result_is ∙ ap (λ ty. fitted ty v.of bits) of_is in
    gives ticks (λ b left. written_at (place_of v.place) (fitted (type_of e) v.of b) (next left)) es
    ∙ (writes (place_of v.place) (fitted (type_of e) v.of bits) c (next ticks) es
    ∙ ap (λ x. walked_from (next ticks) x es) (sym (put ∙ ap (λ b. written (place_of v.place) b c) is)))

-- the same of an equal place and an equal change
pub changes_at : (target place : TypedPlace) (change changed : TypedChange) (c d : Contents) → target ≡ place → change ≡ changed → Changes place changed c d → Changes target change c d
changes_at target place change changed c d same_place same_change h =
    subst (λ p. Changes p change c d) (sym same_place) (subst (λ x. Changes place x c d) (sym same_change) h)

-- a step
pub stepped : (a : TypedStep) (c d : Contents) → Changes a.target a.change c d → (here : Here) (goal : End Rest) (start log : Told) (rest : List Item) (ticks : ℕ) → IsAt here goal start log (Do (Step a) ∷ rest) (suc ticks) c → IsAt here goal start log rest ticks d
stepped a c d changes here goal start log rest ticks at =
    let t = taking here goal start log (Do (Step a)) rest (suc ticks) c refl at in
    later here goal start log rest t.bound ticks d t.effects t.within t.log_is
    (sym (changes ticks (behind here t.bound (Do (Step a)) rest After) t.effects) ∙ t.same)

-- one effect more
tells_all-push : (t : Told) (es : List Effect) (e : Effect) → tells_all t (es ++ e ∷ []) ≡ tells (tells_all t es) e
tells_all-push t [] e = refl
tells_all-push t (x ∷ es) e = tells_all-push (tells t x) es e

told_more : (start log log' : Told) (es : List Effect) (e : Effect) → log ≡ tells_all start es → log' ≡ tells log e → log' ≡ tells_all start (es ++ e ∷ [])
told_more start log log' es e is more = more ∙ (ap (λ t. tells t e) is ∙ sym (tells_all-push start es e))

-- a printf
pub printed : (p : TypedPrintf) (values : List Typed) (bytes : List ℕ) (c : Contents) → GivesAll p.arguments c values → (here : Here) (goal : End Rest) (start log : Told) (rest : List Item) (ticks : ℕ) → bytes ≡ log.printed ++ formatted p.format (map argument_of values) → IsAt here goal start log (Do (Printf p) ∷ rest) (suc ticks) c → IsAt here goal start (record log { printed = bytes }) rest ticks c
printed p values bytes c gives here goal start log rest ticks is at =
    let t = taking here goal start log (Do (Printf p)) rest (suc ticks) c refl at in
    let text = formatted p.format (map argument_of values) in
    later here goal start (record log { printed = bytes }) rest t.bound ticks c (t.effects ++ Prints text ∷ []) t.within
    (told_more start log (record log { printed = bytes }) t.effects (Prints text) t.log_is (ap (λ xs. record log { printed = xs }) is))
    (sym (gives ticks (λ args left. Emits (Prints (formatted p.format args)) (all_items here t.bound rest left)) t.effects) ∙ t.same)

-- the same, where slices stand for the lists
pub printed_at : (p : TypedPrintf) (all : List TypedExpr) (format : List FormatPart) (values slice : List Typed) (before after : List ℕ) (c : Contents) → all ≡ p.arguments → GivesAll all c values → format ≡ p.format → slice ≡ values → after ≡ before ++ formatted format (map argument_of slice) → (here : Here) (goal : End Rest) (start log : Told) (rest : List Item) (ticks : ℕ) → log.printed ≡ before → IsAt here goal start log (Do (Printf p) ∷ rest) (suc ticks) c → IsAt here goal start (record log { printed = after }) rest ticks c
printed_at p all format values slice before after c all_is gives format_is slice_is text here goal start log rest ticks front at =
    printed p values after c (subst (λ xs. GivesAll xs c values) all_is gives) here goal start log rest ticks
    (text
    ∙ (ap (λ f. before ++ formatted f (map argument_of slice)) format_is
    ∙ (ap (λ vs. before ++ formatted p.format (map argument_of vs)) slice_is
    ∙ ap (λ xs. xs ++ formatted p.format (map argument_of values)) (sym front))))
    at

-- a drive
pub driven_now : (d : TypedDrive) (of : ValueType) (bits result : List Bit) (before after : List drive.Drive) (c : Contents) (here : Here) → d.delay ≡ None → of ≡ type_of d.value → Gives d.value c bits → result ≡ fitted of (Vector (types.Bits d.target.width)) bits → after ≡ before ++ record { cycle = here.cycle; signal = d.target.number; bits = result } ∷ [] → (goal : End Rest) (start log : Told) (rest : List Item) (ticks : ℕ) → log.due ≡ before → IsAt here goal start log (Do (Drive d) ∷ rest) (suc ticks) c → IsAt here goal start (record log { due = after }) rest ticks c
driven_now d of bits result before after c here now of_is gives result_is due goal start log rest ticks front at =
    let fit = fitted (type_of d.value) (Vector (types.Bits d.target.width)) bits in
    let is : result ≡ fit = result_is ∙ ap (λ ty. fitted ty (Vector (types.Bits d.target.width)) bits) of_is in
    let t = taking here goal start log (Do (Drive d)) rest (suc ticks) c refl at in
    let next = behind here t.bound (Do (Drive d)) rest After in
    later here goal start (record log { due = after }) rest t.bound ticks c (t.effects ++ Drives here.cycle d.target.number fit ∷ []) t.within
    (told_more start log (record log { due = after }) t.effects (Drives here.cycle d.target.number fit) t.log_is
    (ap (λ xs. record log { due = xs }) (due ∙ (ap (λ b. before ++ record { cycle = here.cycle; signal = d.target.number; bits = b } ∷ []) is ∙ ap (λ xs. xs ++ record { cycle = here.cycle; signal = d.target.number; bits = fit } ∷ []) (sym front)))))
    (sym (gives ticks (λ b left. Emits (Drives here.cycle d.target.number (fitted (type_of d.value) (Vector (types.Bits d.target.width)) b)) (next left)) t.effects)
    ∙ (ap (λ o. walked_from (driven here d.target o d.value ticks next) c t.effects) (sym now) ∙ t.same))

-- a drive with a delay
pub driven_later : (d : TypedDrive) (delay : TypedExpr) (before : List drive.Drive) (c : Contents) (here : Here) → d.delay ≡ Some delay → (goal : End Rest) (start log : Told) (rest : List Item) (ticks : ℕ) → log.due ≡ before → IsAt here goal start log (Do (Drive d) ∷ rest) (suc ticks) c → IsAt here goal start (record log { due = before }) rest ticks c
driven_later d delay before c here delayed goal start log rest ticks front at =
    let t = taking here goal start log (Do (Drive d)) rest (suc ticks) c refl at in
    let next = behind here t.bound (Do (Drive d)) rest After in
    subst (λ due. IsAt here goal start (record log { due = due }) rest ticks c) front
    (later here goal start log rest t.bound ticks c t.effects t.within t.log_is
    (ap (λ o. walked_from (driven here d.target o d.value ticks next) c t.effects) (sym delayed) ∙ t.same))

-- an edge
pub waits : (e : TypedEdge) (here : Here) (goal : End Rest) (start log : Told) (rest : List Item) (ticks : ℕ) (c : Contents) → IsAt here goal start log (Do (Edge e) ∷ rest) (suc ticks) c → EndsSo ends.Waits start log c rest goal
waits e here goal start log rest ticks c at =
    let t = taking here goal start log (Do (Edge e)) rest (suc ticks) c refl at in
    record {
      outcome = sym (ap (λ x. x.outcome) t.same);
      log = t.log_is ∙ ap (λ x. tells_all start x.effects) t.same;
      contents_are = ap (λ x. x.contents) t.same;
      rest = λ is. sym (ap (λ x. x.rest) t.same);
    }

-- a loop comes to its first test
pub loop_begins : (w : TypedWhile) (here : Here) (goal : End Rest) (start log : Told) (rest : List Item) (ticks : ℕ) (c : Contents) → IsAt here goal start log (Do (stmts.While w) ∷ rest) (suc ticks) c → IsAt here goal start log (Again w.line w.condition w.body ∷ rest) ticks c
loop_begins w here goal start log rest ticks c at =
    let t = taking here goal start log (Do (stmts.While w)) rest (suc ticks) c (is_free-while w) at in
    later here goal start log (Again w.line w.condition w.body ∷ rest) t.bound ticks c t.effects t.within t.log_is
    (ap (λ items. walked_from (all_items here t.bound items ticks) c t.effects) (sym (inside-while w rest))
    ∙ (sym (ap (λ tree. walked_from tree c t.effects) (take_stmt-while here w (suc ticks) (behind here t.bound (Do (stmts.While w)) rest))) ∙ t.same))

-- where a test goes on
goes_where : (b : Bool) (here : Here) (w : TypedWhile) (rest : List Item) (bound left : ℕ) → behind here bound (Again w.line w.condition w.body) rest (if b then Inside else After) left ≡ all_items here bound (rest_at (Again w.line w.condition w.body) rest (if b then Inside else After)) left
goes_where true here w rest bound left = refl
goes_where false here w rest bound left = refl

-- a test: the loop goes on, or it is left
pub tested : (w : TypedWhile) (bits : List Bit) (c : Contents) → Gives w.condition c bits → (here : Here) (goal : End Rest) (start log : Told) (rest : List Item) (ticks : ℕ) → IsAt here goal start log (Again w.line w.condition w.body ∷ rest) (suc ticks) c → IsAt here goal start log (rest_at (Again w.line w.condition w.body) rest (if is_true bits then Inside else After)) ticks c
tested w bits c gives here goal start log rest ticks at =
    let item = Again w.line w.condition w.body in
    let t = taking here goal start log item rest (suc ticks) c refl at in
    later here goal start log (rest_at item rest (if is_true bits then Inside else After)) t.bound ticks c t.effects t.within t.log_is
    (ap (λ tree. walked_from tree c t.effects) (sym (goes_where (is_true bits) here w rest t.bound ticks))
    ∙ (sym (gives ticks (λ b left. behind here t.bound item rest (if is_true b then Inside else After) left) t.effects) ∙ t.same))

-- where the condition is true, and where it isn't
pub goes_round : (w : TypedWhile) (bits : List Bit) (c : Contents) → Gives w.condition c bits → is_true bits ≡ true → (here : Here) (goal : End Rest) (start log : Told) (rest : List Item) (ticks : ℕ) → IsAt here goal start log (Again w.line w.condition w.body ∷ rest) (suc ticks) c → IsAt here goal start log (Do w.body ∷ Again w.line w.condition w.body ∷ rest) ticks c
goes_round w bits c gives is here goal start log rest ticks at =
    subst (λ b. IsAt here goal start log (rest_at (Again w.line w.condition w.body) rest (if b then Inside else After)) ticks c) is (tested w bits c gives here goal start log rest ticks at)

pub goes_past : (w : TypedWhile) (bits : List Bit) (c : Contents) → Gives w.condition c bits → is_true bits ≡ false → (here : Here) (goal : End Rest) (start log : Told) (rest : List Item) (ticks : ℕ) → IsAt here goal start log (Again w.line w.condition w.body ∷ rest) (suc ticks) c → IsAt here goal start log rest ticks c
goes_past w bits c gives isnt here goal start log rest ticks at =
    subst (λ b. IsAt here goal start log (rest_at (Again w.line w.condition w.body) rest (if b then Inside else After)) ticks c) isnt (tested w bits c gives here goal start log rest ticks at)

-- nothing is left to do
pub ended_so : (here : Here) (slice : End Rest) (start log : Told) (ticks : ℕ) (c : Contents) (items : List Item) → IsAt here slice start log [] ticks c → EndsSo ends.Ended start log c items slice
ended_so here slice start log ticks c items at =
    let free = above 0 at.free at.free_within in
    let e = ap (λ n. walked_from (until_tick here (all_items here at.bound) n [] ticks) c at.effects) (sym free.1) ∙ at.same in
    record {
      outcome = sym (ap (λ x. x.outcome) e);
      log = at.log_is ∙ ap (λ x. tells_all start x.effects) e;
      contents_are = ap (λ x. x.contents) e;
      rest = λ is. absurd cc;
    }

-- an item that takes a tick can't be done without one
no_tick : (here : Here) (item : Item) (next : Exit → ℕ → Tree Rest) → is_free item ≡ false → take_item here item 0 next ≡ Ends Spent nothing_left
no_tick here (Do (Step a)) next timed = refl
no_tick here (Do (While' line condition p body)) next timed = refl
no_tick here (Do (Printf p)) next timed = refl
no_tick here (Do (Drive d)) next timed = refl
no_tick here (Do (Edge e)) next timed = refl
no_tick here (Do other) next timed = absurd cc
no_tick here (Again line condition body) next timed = refl

is_free-timed : (t : Timed) → is_free (timed_item t) ≡ false
is_free-timed (timed.Step s) = refl
is_free-timed (timed.While w) = is_free-while w.now
is_free-timed (timed.Printf p) = refl
is_free-timed (timed.Drive d) = refl
is_free-timed (timed.Edge e) = refl
is_free-timed (timed.Test w) = refl

-- no tick is left
pub spent_so : (here : Here) (slice : End Rest) (start log : Told) (t : Timed) (rest : List Item) (ticks : ℕ) (c : Contents) (items : List Item) → ticks ≡ 0 → IsAt here slice start log (timed_item t ∷ rest) ticks c → EndsSo ends.Spent start log c items slice
spent_so here slice start log t rest ticks c items none at =
    let timed = is_free-timed t in
    let k = taking here slice start log (timed_item t) rest 0 c timed (subst (λ n. IsAt here slice start log (timed_item t ∷ rest) n c) none at) in
    let e = sym (ap (λ tree. walked_from tree c k.effects) (no_tick here (timed_item t) (behind here k.bound (timed_item t) rest) timed)) ∙ k.same in
    record {
      outcome = sym (ap (λ x. x.outcome) e);
      log = k.log_is ∙ ap (λ x. tells_all start x.effects) e;
      contents_are = ap (λ x. x.contents) e;
      rest = λ is. absurd cc;
    }

-- a slice of these items
pub begins : (here : Here) (items : List Item) (budget : ℕ) (c : Contents) (start : Told) → IsAt here (walked (slice_of here (record { agenda = items }) budget) c) start start items budget c
unfolding slice_of
begins here items budget c start = record {
  effects = [];
  bound = budget;
  free = suc (size_of items);
  ticks_within = omega arith;
  free_within = omega arith;
  log_is = refl;
  same = refl;
}
