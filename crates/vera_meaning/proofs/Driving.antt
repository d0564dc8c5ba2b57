-- What a slice drives, and what it leaves: seen on its tree, so for all answers at once.
use Rattle.std.proofs.Common.{ℕ, zero, suc, List, [], ◌∷◌, ◌++◌, Option, Some, None, Bool, true, false, if◌then◌else◌, refl, ap, sym, subst, ◌∙◌}
use Rattle.four_state.specs.declared.bit.Bit.{Bit}
use Rattle.store_api.specs.Places.{Contents}
use Rattle.store_api.specs.declared.loc.Loc.{Loc}
use Rattle.store_api.specs.declared.loc.Loc.TheVariants as locs
use Rattle.store_api.specs.declared.val.Val.{Val}
use Rattle.slice_core.specs.Tree.{Tree, Asks, Puts, Emits, Ends, Effect, Cycle}
use Rattle.slice_core.specs.Slices.{on}
use Rattle.slice_core.specs.Walks.{walked_from, walked, put_at, End}
use Rattle.slice_core.proofs.Walked.{walked_same}
use Rattle.vera_ast.specs.declared.typed.expr.TypedExpr.{TypedExpr, end_of-TypedExpr, more_of-TypedExpr, Row_of-TypedLink, end_of-TypedLink, more_of-TypedLink}
use Rattle.vera_ast.specs.declared.typed.expr.TypedExpr.TheVariants.{Number, Variable, Sample, Chain'}
use Rattle.vera_ast.specs.declared.typed.names.TypedSignalName.{TypedSignalName}
use Rattle.vera_ast.specs.declared.typed.place.TypedPlace.{TypedPlace}
use Rattle.vera_ast.specs.declared.typed.place.TypedPlace.TheVariants as places
use Rattle.vera_ast.specs.declared.typed.stmt.TypedChange.{TypedChange}
use Rattle.vera_ast.specs.declared.typed.stmt.TypedChange.TheVariants.{Assign}
use Rattle.vera_ast.specs.declared.typed.stmt.TypedStmt.{TypedStmt, Row_of-TypedStmt, end_of-TypedStmt, more_of-TypedStmt}
use Rattle.vera_ast.specs.declared.typed.stmt.TypedStmt.TheVariants.{Block', Step, While', Printf, Drive, Edge}
use Rattle.vera_ast.specs.declared.typed.types.ValueType.{ValueType}
use Rattle.vera_ast.specs.declared.typed.types.ValueType.TheVariants.{Vector}
use Rattle.vera_ast.specs.declared.typed.types.VectorType.TheVariants as types
use Rattle.vera_ast.specs.declared.typed.types.Width.{Width}
use Rattle.vera_ast.specs.Signals.{NamedSignal, IsOutput, DrivesOutputs, AllDriveOutputs}
use Rattle.vera_ast.specs.ExprTypes.{type_of}
use Rattle.vera_ast.specs.Types.{chain_type}
use Rattle.vera_meaning.specs.Rests.{Here, Item, Do, Again, Rest}
use Rattle.vera_meaning.specs.Operators.{is_signed_at, unknown, fitted, applied, is_true}
use Rattle.vera_meaning.specs.Formats.{Argument}
use Rattle.vera_meaning.specs.Expressions.{tick, place_of, bits_at, read_at, value, chained, arguments, Next}
use Rattle.vera_meaning.specs.Statements.{Exit, After, Inside, Leaves, written_at, changed, driven, take_item, do_all, inside, rest_at, gone_on, is_free, size_of}
use Rattle.vera_meaning.specs.Slices.{until_tick, all_items, slice_of}
use Rattle.vera_meaning.specs.Driving.{FitsSignal, ItemDrives, ItemsDrive, EffectFits, EffectsFit}
use Rattle.vera_meaning.proofs.Widths.{length-extended}

-- whatever the answers are, each effect fits, and what is left drives output signals alone
abbrev pub TreeFits : List NamedSignal → ℕ → Tree Rest → Type 0
TreeFits signals cycle (Asks l k) = (found : Option Val) → TreeFits signals cycle (k found)
TreeFits signals cycle (Puts l v t) = TreeFits signals cycle t
TreeFits signals cycle (Emits e t) = EffectFits signals cycle e × TreeFits signals cycle t
TreeFits signals cycle (Ends o r) = ItemsDrive signals r.agenda

read_at-fits : (signals : List NamedSignal) (cycle : ℕ) (l : Option Loc) (ty : ValueType) (ticks : ℕ) (next : Next) → ((bits : List Bit) (left : ℕ) → TreeFits signals cycle (next bits left)) → TreeFits signals cycle (read_at l ty ticks next)
read_at-fits signals cycle None ty ticks next fits = fits (unknown ty) ticks
read_at-fits signals cycle (Some l) ty ticks next fits = λ found. fits (bits_at ty found) ticks

mutual
  value-fits : (signals : List NamedSignal) (cycle : ℕ) (e : TypedExpr) (ticks : ℕ) (next : Next) → ((bits : List Bit) (left : ℕ) → TreeFits signals cycle (next bits left)) → TreeFits signals cycle (value e ticks next)
  value-fits signals cycle (Number bits ty) ticks next fits = fits bits ticks
  value-fits signals cycle (Variable v) ticks next fits = read_at-fits signals cycle (place_of v.place) v.of ticks next fits
  value-fits signals cycle (Sample s) ticks next fits = read_at-fits signals cycle (Some (locs.Sample s.number)) (Vector (types.Bits s.width)) ticks next fits
  value-fits signals cycle (Chain' p (more_of-TypedExpr first end_of-TypedExpr) q links) ticks next fits =
      value-fits signals cycle first ticks _ (λ bits left. chained-fits signals cycle links (type_of first) bits left next fits)
  value-fits signals cycle other ticks next fits = fits (unknown (type_of other)) ticks

  chained-fits : {m : _} (signals : List NamedSignal) (cycle : ℕ) (links : Row_of-TypedLink m) (ty : ValueType) (bits : List Bit) (ticks : ℕ) (next : Next) → ((b : List Bit) (left : ℕ) → TreeFits signals cycle (next b left)) → TreeFits signals cycle (chained links ty bits ticks next)
  chained-fits signals cycle end_of-TypedLink ty bits ticks next fits = fits bits ticks
  chained-fits signals cycle (more_of-TypedLink operator works_in operand links) ty bits ticks next fits =
      value-fits signals cycle operand ticks _ (λ other left. chained-fits signals cycle links (chain_type operator works_in) (applied operator works_in (fitted ty works_in bits) (fitted (type_of operand) works_in other)) left next fits)

arguments-fit : (signals : List NamedSignal) (cycle : ℕ) (es : List TypedExpr) (ticks : ℕ) (next : List Argument → ℕ → Tree Rest) → ((args : List Argument) (left : ℕ) → TreeFits signals cycle (next args left)) → TreeFits signals cycle (arguments es ticks next)
arguments-fit signals cycle [] ticks next fits = fits [] ticks
arguments-fit signals cycle (e ∷ es) ticks next fits =
    value-fits signals cycle e ticks _ (λ bits left. arguments-fit signals cycle es left _ (λ args left'. fits (record { of = type_of e; bits = bits } ∷ args) left'))

tick-fits : (signals : List NamedSignal) (cycle ticks : ℕ) (next : ℕ → Tree Rest) → ((left : ℕ) → TreeFits signals cycle (next left)) → TreeFits signals cycle (tick ticks next)
tick-fits signals cycle zero next fits = tt
tick-fits signals cycle (suc ticks) next fits = fits ticks

-- what is driven has the width of the signal that the name stands for
bits-fit : (signals : List NamedSignal) (name : TypedSignalName) (from : ValueType) (bits : List Bit) → IsOutput signals name → FitsSignal signals name.number (fitted from (Vector (types.Bits name.width)) bits)
bits-fit signals name from bits o = record {
  named = o.named;
  is = o.is;
  output = o.output;
  width = length-extended name.width.bits (is_signed_at from) bits ∙ sym (ap (λ (w : Width). w.bits) o.width);
}

written_at-fits : (signals : List NamedSignal) (cycle : ℕ) (l : Option Loc) (bits : List Bit) (t : Tree Rest) → TreeFits signals cycle t → TreeFits signals cycle (written_at l bits t)
written_at-fits signals cycle None bits t fits = fits
written_at-fits signals cycle (Some l) bits t fits = fits

changed-fits : (signals : List NamedSignal) (cycle : ℕ) (target : TypedPlace) (change : TypedChange) (ticks : ℕ) (next : ℕ → Tree Rest) → ((left : ℕ) → TreeFits signals cycle (next left)) → TreeFits signals cycle (changed target change ticks next)
changed-fits signals cycle (places.Variable v) (Assign e) ticks next fits =
    value-fits signals cycle e ticks _ (λ bits left. written_at-fits signals cycle (place_of v.place) (fitted (type_of e) v.of bits) (next left) (fits left))
changed-fits signals cycle target change ticks next fits = fits ticks

driven-fits : (signals : List NamedSignal) (here : Here) (name : TypedSignalName) (delay : Option TypedExpr) (e : TypedExpr) (ticks : ℕ) (next : ℕ → Tree Rest) → IsOutput signals name → ((left : ℕ) → TreeFits signals here.cycle (next left)) → TreeFits signals here.cycle (driven here name delay e ticks next)
driven-fits signals here name None e ticks next o fits =
    value-fits signals here.cycle e ticks _ (λ bits left. ((refl, bits-fit signals name (type_of e) bits o), fits left))
driven-fits signals here name (Some delay) e ticks next o fits = fits ticks

pub item-fits : (signals : List NamedSignal) (here : Here) (i : Item) (ticks : ℕ) (next : Exit → ℕ → Tree Rest) → ItemDrives signals i → ((exit : Exit) (left : ℕ) → TreeFits signals here.cycle (next exit left)) → TreeFits signals here.cycle (take_item here i ticks next)
item-fits signals here (Do (Step s)) ticks next drives fits =
    tick-fits signals here.cycle ticks _ (λ left. changed-fits signals here.cycle s.target s.change left (next After) (fits After))
item-fits signals here (Do (While' line condition p body)) ticks next drives fits = tick-fits signals here.cycle ticks _ (fits Inside)
item-fits signals here (Do (Printf p)) ticks next drives fits =
    tick-fits signals here.cycle ticks _ (λ left. arguments-fit signals here.cycle p.arguments left _ (λ args left'. (tt, fits After left')))
item-fits signals here (Do (Drive d)) ticks next drives fits =
    tick-fits signals here.cycle ticks _ (λ left. driven-fits signals here d.target d.delay d.value left (next After) drives (fits After))
item-fits signals here (Do (Edge e)) ticks next drives fits = tick-fits signals here.cycle ticks _ (fits (Leaves (Cycle 1)))
item-fits signals here (Do other) ticks next drives fits = fits Inside ticks
item-fits signals here (Again line condition body) ticks next drives fits =
    tick-fits signals here.cycle ticks _ (λ left. value-fits signals here.cycle condition left _ (λ bits left'. fits (if is_true bits then Inside else After) left'))

all-drive : {m : _} (signals : List NamedSignal) (stmts : Row_of-TypedStmt m) (rest : List Item) → AllDriveOutputs signals stmts → ItemsDrive signals rest → ItemsDrive signals (do_all stmts rest)
all-drive signals end_of-TypedStmt rest drive after = after
all-drive signals (more_of-TypedStmt s stmts) rest drive after = (drive.0, all-drive signals stmts rest drive.1 after)

inside-drives : (signals : List NamedSignal) (s : TypedStmt) (rest : List Item) → DrivesOutputs signals s → ItemsDrive signals rest → ItemsDrive signals (inside s rest)
inside-drives signals (Block' line decls p stmts) rest drives after = all-drive signals stmts rest drives after
inside-drives signals (While' line condition p (more_of-TypedStmt body end_of-TypedStmt)) rest drives after = (drives, after)
inside-drives signals other rest drives after = after

rest-drives : (signals : List NamedSignal) (i : Item) (rest : List Item) (exit : Exit) → ItemDrives signals i → ItemsDrive signals rest → ItemsDrive signals (rest_at i rest exit)
rest-drives signals i rest After drives after = after
rest-drives signals i rest (Leaves outcome) drives after = after
rest-drives signals (Do s) rest Inside drives after = inside-drives signals s rest drives after
rest-drives signals (Again line condition body) rest Inside drives after = (drives, (drives, after))

gone_on-fits : (signals : List NamedSignal) (cycle : ℕ) (exit : Exit) (items : List Item) (t : Tree Rest) → ItemsDrive signals items → TreeFits signals cycle t → TreeFits signals cycle (gone_on exit items t)
gone_on-fits signals cycle After items t drive fits = fits
gone_on-fits signals cycle Inside items t drive fits = fits
gone_on-fits signals cycle (Leaves outcome) items t drive fits = drive

either-fits : (signals : List NamedSignal) (cycle : ℕ) (b : Bool) (t u : Tree Rest) → TreeFits signals cycle t → TreeFits signals cycle u → TreeFits signals cycle (if b then t else u)
either-fits signals cycle true t u on off = on
either-fits signals cycle false t u on off = off

pub until-fits : (signals : List NamedSignal) (here : Here) (later : List Item → ℕ → Tree Rest) → ((items : List Item) (left : ℕ) → ItemsDrive signals items → TreeFits signals here.cycle (later items left)) → (free : ℕ) (items : List Item) (ticks : ℕ) → ItemsDrive signals items → TreeFits signals here.cycle (until_tick here later free items ticks)
until-fits signals here later fits zero items ticks drive = tt
until-fits signals here later fits (suc free) [] ticks drive = tt
until-fits signals here later fits (suc free) (i ∷ rest) ticks drive =
    item-fits signals here i ticks _ drive.0 (λ exit left.
    let after = rest-drives signals i rest exit drive.0 drive.1 in
    gone_on-fits signals here.cycle exit (rest_at i rest exit) _ after
    (either-fits signals here.cycle (is_free i) _ _ (until-fits signals here later fits free (rest_at i rest exit) left after) (fits (rest_at i rest exit) left after)))

pub all-fit : (signals : List NamedSignal) (here : Here) (bound : ℕ) (items : List Item) (ticks : ℕ) → ItemsDrive signals items → TreeFits signals here.cycle (all_items here bound items ticks)
all-fit signals here zero items ticks drive = tt
all-fit signals here (suc bound) items ticks drive =
    until-fits signals here (all_items here bound) (λ its left d. all-fit signals here bound its left d) (suc (size_of items)) items ticks drive

pub slice-fits : (signals : List NamedSignal) (here : Here) (items : List Item) (budget : ℕ) → ItemsDrive signals items → TreeFits signals here.cycle (slice_of here (record { agenda = items }) budget)
unfolding slice_of
slice-fits signals here items budget drive = all-fit signals here (suc budget) items budget drive

-- what a slice did, and what it leaves
abbrev pub EndFits : List NamedSignal → ℕ → End Rest → Type 0
EndFits signals cycle e = EffectsFit signals cycle e.effects × ItemsDrive signals e.rest.agenda

pub one-more : (signals : List NamedSignal) (cycle : ℕ) (es : List Effect) (e : Effect) → EffectsFit signals cycle es → EffectFits signals cycle e → EffectsFit signals cycle (es ++ e ∷ [])
one-more signals cycle [] e before fits = (fits, tt)
one-more signals cycle (d ∷ es) e before fits = (before.0, one-more signals cycle es e before.1 fits)

pub walk-fits : (signals : List NamedSignal) (cycle : ℕ) (t : Tree Rest) (c : Contents) (es : List Effect) → TreeFits signals cycle t → EffectsFit signals cycle es → EndFits signals cycle (walked_from t c es)
walk-fits signals cycle (Asks l k) c es fits before = walk-fits signals cycle (k (c l)) c es (fits (c l)) before
walk-fits signals cycle (Puts l v t) c es fits before = walk-fits signals cycle t (put_at c l v) es fits before
walk-fits signals cycle (Emits e t) c es fits before = walk-fits signals cycle t c (es ++ e ∷ []) fits.1 (one-more signals cycle es e before fits.0)
walk-fits signals cycle (Ends o r) c es fits before = (before, fits)

pub walked-fits : (signals : List NamedSignal) (here : Here) (items : List Item) (budget : ℕ) (c : Contents) → ItemsDrive signals items → EffectsFit signals here.cycle (walked (slice_of here (record { agenda = items }) budget) c).effects × ItemsDrive signals (walked (slice_of here (record { agenda = items }) budget) c).rest.agenda
walked-fits signals here items budget c drive =
    walk-fits signals here.cycle (slice_of here (record { agenda = items }) budget) c [] (slice-fits signals here items budget drive) tt

pub on-fits : (signals : List NamedSignal) (here : Here) (items : List Item) (budget : ℕ) (c : Contents) → ItemsDrive signals items → EffectsFit signals here.cycle (on (slice_of here (record { agenda = items }) budget) c).effects × ItemsDrive signals (on (slice_of here (record { agenda = items }) budget) c).rest.agenda
on-fits signals here items budget c drive =
    subst (λ e. EndFits signals here.cycle e) (walked_same (slice_of here (record { agenda = items }) budget) c) (walked-fits signals here items budget c drive)
