-- What a value, and an item that takes a tick, does in given contents: it is the same with any number of ticks.
use Rattle.std.proofs.Common.{◌≡◌, ℕ, zero, suc, List, [], ◌∷◌, ◌++◌, Option, Some, None, false, if◌then◌else◌, refl, ap, ◌∙◌}
use Rattle.std.specs.Map.{lookup}
use Rattle.four_state.specs.declared.bit.Bit.{Bit}
use Rattle.store_api.specs.Places.{Contents, loc_eq}
use Rattle.store_api.specs.declared.loc.Loc.{Loc}
use Rattle.store_api.specs.declared.loc.Loc.TheVariants as locs
use Rattle.store_api.specs.declared.val.Val.{Val}
use Rattle.slice_core.specs.Tree.{Tree, Emits, Prints, Drives, Ends, Spent, Cycle, Effect}
use Rattle.slice_core.specs.Slices.{Notes, Writes, on_from, answered, noted}
use Rattle.vera_ast.specs.declared.typed.expr.TypedExpr.{TypedExpr, end_of-TypedExpr, more_of-TypedExpr, Row_of-TypedLink, end_of-TypedLink, more_of-TypedLink}
use Rattle.vera_ast.specs.declared.typed.expr.TypedExpr.TheVariants.{Number, Variable, Sample, Chain'}
use Rattle.vera_ast.specs.declared.typed.names.TypedSignalName.{TypedSignalName}
use Rattle.vera_ast.specs.declared.typed.place.TypedPlace.{TypedPlace}
use Rattle.vera_ast.specs.declared.typed.place.TypedPlace.TheVariants as places
use Rattle.vera_ast.specs.declared.typed.stmt.TypedChange.{TypedChange}
use Rattle.vera_ast.specs.declared.typed.stmt.TypedChange.TheVariants.{Assign}
use Rattle.vera_ast.specs.declared.typed.stmt.TypedStmt.TheVariants.{Step, While', Printf, Drive, Edge}
use Rattle.vera_ast.specs.declared.typed.types.ValueType.{ValueType}
use Rattle.vera_ast.specs.declared.typed.types.ValueType.TheVariants.{Vector}
use Rattle.vera_ast.specs.declared.typed.types.VectorType.TheVariants as types
use Rattle.vera_ast.specs.ExprTypes.{type_of}
use Rattle.vera_ast.specs.Types.{chain_type}
use Rattle.vera_meaning.specs.Rests.{Here, Item, Do, Again, Rest, nothing_left}
use Rattle.vera_meaning.specs.Operators.{unknown, fitted, applied, is_true}
use Rattle.vera_meaning.specs.Formats.{Argument, formatted}
use Rattle.vera_meaning.specs.Expressions.{place_of, bits_at, read_at, value, chained, arguments, Next}
use Rattle.vera_meaning.specs.Statements.{Exit, After, Inside, Leaves, written_at, changed, driven, take_item, is_free}

-- the value of an expression in contents behind these notes and writes, and the notes that it leaves
pub record ValueIn (e : TypedExpr) (c : Contents) (ns : Notes) (ws : Writes) : Type 0 where
  pub bits : List Bit
  pub notes : Notes
  pub same : (ticks : ℕ) (next : Next) (es : List Effect) → on_from (value e ticks next) c ns ws es ≡ on_from (next bits ticks) c notes ws es

record ChainIn {m : _} (links : Row_of-TypedLink m) (ty : ValueType) (first : List Bit) (c : Contents) (ns : Notes) (ws : Writes) : Type 0 where
  bits : List Bit
  notes : Notes
  same : (ticks : ℕ) (next : Next) (es : List Effect) → on_from (chained links ty first ticks next) c ns ws es ≡ on_from (next bits ticks) c notes ws es

-- what is at a place of this type
record ReadIn (l : Option Loc) (ty : ValueType) (c : Contents) (ns : Notes) (ws : Writes) : Type 0 where
  bits : List Bit
  notes : Notes
  same : (ticks : ℕ) (next : Next) (es : List Effect) → on_from (read_at l ty ticks next) c ns ws es ≡ on_from (next bits ticks) c notes ws es

read-in : (l : Option Loc) (ty : ValueType) (c : Contents) (ns : Notes) (ws : Writes) → ReadIn l ty c ns ws
read-in None ty c ns ws = record { bits = unknown ty; notes = ns; same = λ ticks next es. refl }
read-in (Some l) ty c ns ws = by (lookup (loc_eq l) ws) refl
  where
    by : (o : Option Val) → lookup (loc_eq l) ws ≡ o → ReadIn (Some l) ty c ns ws
    by None is = record {
      bits = bits_at ty (c l);
      notes = noted ns l (c l);
      same = λ ticks next es. ap (λ (o : Option Val). answered o (λ x. on_from (next (bits_at ty (Some x)) ticks) c ns ws es) (on_from (next (bits_at ty (c l)) ticks) c (noted ns l (c l)) ws es)) is;
    }
    by (Some x) is = record {
      bits = bits_at ty (Some x);
      notes = ns;
      same = λ ticks next es. ap (λ (o : Option Val). answered o (λ x. on_from (next (bits_at ty (Some x)) ticks) c ns ws es) (on_from (next (bits_at ty (c l)) ticks) c (noted ns l (c l)) ws es)) is;
    }

mutual
  pub value-in : (e : TypedExpr) (c : Contents) (ns : Notes) (ws : Writes) → ValueIn e c ns ws
  value-in (Number bits ty) c ns ws = record { bits = bits; notes = ns; same = λ ticks next es. refl }
  value-in (Variable v) c ns ws = let a = read-in (place_of v.place) v.of c ns ws in record { bits = a.bits; notes = a.notes; same = a.same }
  value-in (Sample s) c ns ws = let a = read-in (Some (locs.Sample s.number)) (Vector (types.Bits s.width)) c ns ws in record { bits = a.bits; notes = a.notes; same = a.same }
  value-in (Chain' p (more_of-TypedExpr first end_of-TypedExpr) q links) c ns ws =
      let v = value-in first c ns ws in
      let w = chained-in links (type_of first) v.bits c v.notes ws in
      record {
        bits = w.bits;
        notes = w.notes;
        same = λ ticks next es. v.same ticks (λ bits left. chained links (type_of first) bits left next) es ∙ w.same ticks next es;
      }
  value-in other c ns ws = record { bits = unknown (type_of other); notes = ns; same = λ ticks next es. refl }

  chained-in : {m : _} (links : Row_of-TypedLink m) (ty : ValueType) (first : List Bit) (c : Contents) (ns : Notes) (ws : Writes) → ChainIn links ty first c ns ws
  chained-in end_of-TypedLink ty first c ns ws = record { bits = first; notes = ns; same = λ ticks next es. refl }
  chained-in (more_of-TypedLink operator works_in operand links) ty first c ns ws =
      let v = value-in operand c ns ws in
      let w = chained-in links (chain_type operator works_in) (applied operator works_in (fitted ty works_in first) (fitted (type_of operand) works_in v.bits)) c v.notes ws in
      record {
        bits = w.bits;
        notes = w.notes;
        same = λ ticks next es.
            v.same ticks (λ other left. chained links (chain_type operator works_in) (applied operator works_in (fitted ty works_in first) (fitted (type_of operand) works_in other)) left next) es
            ∙ w.same ticks next es;
      }

record ArgumentsIn (args : List TypedExpr) (c : Contents) (ns : Notes) (ws : Writes) : Type 0 where
  values : List Argument
  notes : Notes
  same : (ticks : ℕ) (next : List Argument → ℕ → Tree Rest) (es : List Effect) → on_from (arguments args ticks next) c ns ws es ≡ on_from (next values ticks) c notes ws es

arguments-in : (args : List TypedExpr) (c : Contents) (ns : Notes) (ws : Writes) → ArgumentsIn args c ns ws
arguments-in [] c ns ws = record { values = []; notes = ns; same = λ ticks next es. refl }
arguments-in (e ∷ args) c ns ws =
    let v = value-in e c ns ws in
    let w = arguments-in args c v.notes ws in
    record {
      values = record { of = type_of e; bits = v.bits } ∷ w.values;
      notes = w.notes;
      same = λ ticks next es.
          v.same ticks (λ bits left. arguments args left (λ rest left'. next (record { of = type_of e; bits = bits } ∷ rest) left')) es
          ∙ w.same ticks (λ rest left'. next (record { of = type_of e; bits = v.bits } ∷ rest) left') es;
    }

-- what a step changes
record ChangedIn (target : TypedPlace) (change : TypedChange) (c : Contents) (ns : Notes) (ws : Writes) : Type 0 where
  notes : Notes
  writes : Writes
  same : (ticks : ℕ) (next : ℕ → Tree Rest) (es : List Effect) → on_from (changed target change ticks next) c ns ws es ≡ on_from (next ticks) c notes writes es

-- where bits are written
record WrittenIn (l : Option Loc) (bits : List Bit) (c : Contents) (ns : Notes) (ws : Writes) : Type 0 where
  writes : Writes
  same : (t : Tree Rest) (es : List Effect) → on_from (written_at l bits t) c ns ws es ≡ on_from t c ns writes es

written-in : (l : Option Loc) (bits : List Bit) (c : Contents) (ns : Notes) (ws : Writes) → WrittenIn l bits c ns ws
written-in None bits c ns ws = record { writes = ws; same = λ t es. refl }
written-in (Some l) bits c ns ws = record { writes = _; same = λ t es. refl }

changed-in : (target : TypedPlace) (change : TypedChange) (c : Contents) (ns : Notes) (ws : Writes) → ChangedIn target change c ns ws
changed-in (places.Variable v) (Assign e) c ns ws =
    let d = value-in e c ns ws in
    let w = written-in (place_of v.place) (fitted (type_of e) v.of d.bits) c d.notes ws in
    record {
      notes = d.notes;
      writes = w.writes;
      same = λ ticks next es.
          d.same ticks (λ bits left. written_at (place_of v.place) (fitted (type_of e) v.of bits) (next left)) es
          ∙ w.same (next ticks) es;
    }
changed-in target change c ns ws = record { notes = ns; writes = ws; same = λ ticks next es. refl }

-- what a drive does
record DrivenIn (here : Here) (name : TypedSignalName) (delay : Option TypedExpr) (e : TypedExpr) (c : Contents) (ns : Notes) (ws : Writes) (es : List Effect) : Type 0 where
  notes : Notes
  effects : List Effect
  same : (ticks : ℕ) (next : ℕ → Tree Rest) → on_from (driven here name delay e ticks next) c ns ws es ≡ on_from (next ticks) c notes ws effects

driven-in : (here : Here) (name : TypedSignalName) (delay : Option TypedExpr) (e : TypedExpr) (c : Contents) (ns : Notes) (ws : Writes) (es : List Effect) → DrivenIn here name delay e c ns ws es
driven-in here name None e c ns ws es =
    let v = value-in e c ns ws in
    record {
      notes = v.notes;
      effects = _;
      same = λ ticks next. v.same ticks (λ bits left. Emits (Drives here.cycle name.number (fitted (type_of e) (Vector (types.Bits name.width)) bits)) (next left)) es;
    }
driven-in here name (Some delay) e c ns ws es = record { notes = ns; effects = es; same = λ ticks next. refl }

-- what an item does with its tick
pub record ItemIn (here : Here) (i : Item) (c : Contents) (ns : Notes) (ws : Writes) (es : List Effect) : Type 0 where
  pub exit : Exit
  pub notes : Notes
  pub writes : Writes
  pub effects : List Effect
  pub same : (ticks : ℕ) (next : Exit → ℕ → Tree Rest) → on_from (take_item here i (suc ticks) next) c ns ws es ≡ on_from (next exit ticks) c notes writes effects

pub item-in : (here : Here) (i : Item) (c : Contents) (ns : Notes) (ws : Writes) (es : List Effect) → is_free i ≡ false → ItemIn here i c ns ws es
item-in here (Do (Step s)) c ns ws es timed =
    let v = changed-in s.target s.change c ns ws in
    record { exit = After; notes = v.notes; writes = v.writes; effects = es; same = λ ticks next. v.same ticks (next After) es }
item-in here (Do (While' line condition p body)) c ns ws es timed = record { exit = Inside; notes = ns; writes = ws; effects = es; same = λ ticks next. refl }
item-in here (Do (Printf p)) c ns ws es timed =
    let v = arguments-in p.arguments c ns ws in
    record {
      exit = After;
      notes = v.notes;
      writes = ws;
      effects = es ++ Prints (formatted p.format v.values) ∷ [];
      same = λ ticks next. v.same ticks (λ args left. Emits (Prints (formatted p.format args)) (next After left)) es;
    }
item-in here (Do (Drive d)) c ns ws es timed =
    let v = driven-in here d.target d.delay d.value c ns ws es in
    record { exit = After; notes = v.notes; writes = ws; effects = v.effects; same = λ ticks next. v.same ticks (next After) }
item-in here (Do (Edge e)) c ns ws es timed = record { exit = Leaves (Cycle 1); notes = ns; writes = ws; effects = es; same = λ ticks next. refl }
item-in here (Do other) c ns ws es timed = absurd cc
item-in here (Again line condition body) c ns ws es timed =
    let v = value-in condition c ns ws in
    record {
      exit = if is_true v.bits then Inside else After;
      notes = v.notes;
      writes = ws;
      effects = es;
      same = λ ticks next. v.same ticks (λ bits left. next (if is_true bits then Inside else After) left) es;
    }

-- without a tick it does nothing
pub item-spent : (here : Here) (i : Item) (next : Exit → ℕ → Tree Rest) → is_free i ≡ false → take_item here i zero next ≡ Ends Spent nothing_left
item-spent here (Do (Step s)) next timed = refl
item-spent here (Do (While' line condition p body)) next timed = refl
item-spent here (Do (Printf p)) next timed = refl
item-spent here (Do (Drive d)) next timed = refl
item-spent here (Do (Edge e)) next timed = refl
item-spent here (Do other) next timed = absurd cc
item-spent here (Again line condition body) next timed = refl
