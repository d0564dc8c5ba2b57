-- The single parts of the walk through the declarations, as the code takes them.
use Rattle.std.proofs.Common.{◌≡◌, ℕ, ◌+◌, ◌<◌, ◌≤◌, Bool, true, false, List, [], ◌∷◌, ◌++◌, length, refl, sym, subst, ◌∙◌, arith}
use Rattle.std.specs.Prelude.{◌||◌, nat_le, Result, Ok, Err}
use Rattle.std.proofs.lemmas.Bool.{le-leb, lt-leb}
use Rattle.vera_ast.specs.declared.refusal.FrontError.{FrontError}
use Rattle.vera_ast.specs.declared.refusal.FrontError.TheVariants.{Refused, NoMemory}
use Rattle.vera_ast.specs.declared.refusal.Refusal.{Refusal}
use Rattle.vera_ast.specs.declared.tree.declarations.DataType.{DataType}
use Rattle.vera_ast.specs.declared.tree.declarations.Variable.{Variable}
use Rattle.vera_ast.specs.declared.tree.interfaces.Signal.{Signal}
use Rattle.vera_ast.specs.declared.tree.items.Parameter.{Parameter}
use Rattle.vera_ast.specs.declared.typed.types.ValueType.{ValueType}
use Rattle.vera_ast.specs.declared.typed.types.VariableType.{VariableType}
use Rattle.vera_names.proofs.Answering.{ok_then, err_then}
use Rattle.vera_decls.proofs.PartSteps.{name_passes, name_refused, name_past, rules_pass, rules_refused, leads_both, refused_first, refused_second}
use Rattle.typing_rules.specs.Answers.{Answers}
use Rattle.typing_rules.specs.Checked.{Checked, ◌>>=◌, keeps, refuse}
use Rattle.typing_rules.specs.DataTypes.{data_type, variable_type}
use Rattle.typing_rules.specs.Declarations.{Part, rules, declares, unit, is_second_output}
use Rattle.typing_rules.specs.Scopes.{Name, Scopes, is_among}
use Rattle.vera_decls.specs.Walks.{Leads, IsRefused, Stops, Walks, name_part, variable_part, parameter_part, signal_part}

abbrev pub at_line : ℕ → ℕ → Refusal
at_line code line = record { code = code; line = line }

pub stops_as : (n : ℕ) (parts : List Part) (e : FrontError) (r : Refusal) → e ≡ Refused r → IsRefused n parts r → Stops n parts e
stops_as n parts e r is h = subst (λ (x : FrontError). Stops n parts x) (sym is) h

-- ---- two parts, one after the other

stops_second : (n : ℕ) (one two : List Part) (m : ℕ) (e : FrontError) → Leads n one m [] → Stops m two e → Stops n (one ++ two) e
stops_second n one two m (Refused r) a b = refused_second n one two m r a b
stops_second n one two m NoMemory a b = tt

pub stops_first : (n : ℕ) (one two : List Part) (e : FrontError) → Stops n one e → Stops n (one ++ two) e
stops_first n one two (Refused r) a = refused_first n one two r a
stops_first n one two NoMemory a = tt

pub walks_behind : {S : Type 0} (count : S → ℕ) (holds : S → Type 0) (n : ℕ) (one two : List Part) (m : ℕ) (result : Result S FrontError) → Leads n one m [] → Walks count holds m two result → Walks count holds n (one ++ two) result
walks_behind count holds n one two m (Ok s) a b = (leads_both n one two m (count s) a b.0, b.1, b.2)
walks_behind count holds n one two m (Err e) a b = stops_second n one two m e a b

pub walks_map : {S : Type 0} (count : S → ℕ) (holds other : S → Type 0) (n : ℕ) (parts : List Part) (result : Result S FrontError) → ((s : S) → holds s → other s) → Walks count holds n parts result → Walks count other n parts result
walks_map count holds other n parts (Ok s) f a = (a.0, a.1, f s a.2)
walks_map count holds other n parts (Err e) f a = a

-- ---- rules without a name

unit_ok : {A : Type 0} (m : Checked A) (a : A) → m ≡ Ok a → unit m ≡ Ok tt
unit_ok m a e = ok_then m a (λ x. Ok tt) e

unit_err : {A : Type 0} (m : Checked A) (r : Refusal) → m ≡ Err r → unit m ≡ Err r
unit_err m r e = err_then m r (λ x. Ok tt) e

pub rules_stop : {A : Type 0} (n line : ℕ) (m : Checked A) (e : FrontError) → Answers m (Err e) → Stops n (rules line (unit m) ∷ []) e
rules_stop n line m (Refused r) h = rules_refused n line (unit m) r (unit_err m r h)
rules_stop n line m NoMemory h = tt

pub rules_stand : {A : Type 0} (n line : ℕ) (m : Checked A) (a : A) → m ≡ Ok a → n ≤ 65535 → Leads n (rules line (unit m) ∷ []) n []
rules_stand n line m a e within = rules_pass n line (unit m) tt (unit_ok m a e) within

-- ---- names

one_broken : (line code : ℕ) (b : Bool) → b ≡ true → keeps line ((code, b) ∷ []) ≡ Err (at_line code line)
unfolding keeps refuse
one_broken line code true e = refl
one_broken line code false e = absurd cc

one_kept : (line code : ℕ) (b : Bool) → b ≡ false → keeps line ((code, b) ∷ []) ≡ Ok tt
unfolding keeps refuse
one_kept line code true e = absurd cc
one_kept line code false e = refl

first_broken : (line a b : ℕ) (x y : Bool) → x ≡ true → keeps line ((a, x) ∷ (b, y) ∷ []) ≡ Err (at_line a line)
unfolding keeps refuse
first_broken line a b true y e = refl
first_broken line a b false y e = absurd cc

second_broken : (line a b : ℕ) (x y : Bool) → x ≡ false → y ≡ true → keeps line ((a, x) ∷ (b, y) ∷ []) ≡ Err (at_line b line)
unfolding keeps refuse
second_broken line a b true y e f = absurd cc
second_broken line a b false true e f = refl
second_broken line a b false false e f = absurd cc

both_kept : (line a b : ℕ) (x y : Bool) → x ≡ false → y ≡ false → keeps line ((a, x) ∷ (b, y) ∷ []) ≡ Ok tt
unfolding keeps refuse
both_kept line a b true y e f = absurd cc
both_kept line a b false true e f = absurd cc
both_kept line a b false false e f = refl

-- one more name, whose own rules are kept
pub more_stands : (n line : ℕ) (check : Checked (Unit {0})) (more : ℕ) → check ≡ Ok tt → n < 65535 → more ≡ n + 1 → Leads n (declares line check ∷ []) more []
more_stands n line check more e within is = subst (λ (m : ℕ). Leads n (declares line check ∷ []) m []) (sym is) (name_passes n line check tt e within)

pub more_stops : (n line : ℕ) (check : Checked (Unit {0})) (e : FrontError) → check ≡ Ok tt → 65535 ≤ n → e ≡ Refused (at_line 39 line) → Stops n (declares line check ∷ []) e
more_stops n line check e ok past is = stops_as n _ e (at_line 39 line) is (name_past n line check tt ok past)

pub name_twice : (n line : ℕ) (before : List Name) (name : Name) (e : FrontError) → is_among before name ≡ true → e ≡ Refused (at_line 31 line) → Stops n (name_part line before name ∷ []) e
name_twice n line before name e twice is = stops_as n _ e (at_line 31 line) is (name_refused n line _ (at_line 31 line) (one_broken line 31 (is_among before name) twice))

pub name_over : (n line : ℕ) (before : List Name) (name : Name) (e : FrontError) → is_among before name ≡ false → 65535 ≤ n → e ≡ Refused (at_line 39 line) → Stops n (name_part line before name ∷ []) e
name_over n line before name e new past is = more_stops n line _ e (one_kept line 31 (is_among before name) new) past is

pub name_stands : (n line : ℕ) (before : List Name) (name : Name) (more : ℕ) → is_among before name ≡ false → n < 65535 → more ≡ n + 1 → Leads n (name_part line before name ∷ []) more []
name_stands n line before name more new within is = more_stands n line _ more (one_kept line 31 (is_among before name) new) within is

-- ---- variables

variable_check : (scopes : Scopes) (before : List Name) (d : DataType) (of : ValueType) (v : Variable) → data_type scopes d ≡ Ok of → (data_type scopes d >>= (λ t. variable_type scopes before t v)) ≡ variable_type scopes before of v
variable_check scopes before d of v e = ok_then (data_type scopes d) of (λ t. variable_type scopes before t v) e

pub variable_stops : (n : ℕ) (scopes : Scopes) (before : List Name) (d : DataType) (of : ValueType) (v : Variable) (e : FrontError) → data_type scopes d ≡ Ok of → Answers (variable_type scopes before of v) (Err e)
    → Stops n (variable_part scopes before d v ∷ []) e
variable_stops n scopes before d of v (Refused r) typed h = name_refused n v.line _ r (unit_err _ r (variable_check scopes before d of v typed ∙ h))
variable_stops n scopes before d of v NoMemory typed h = tt

pub variable_over : (n : ℕ) (scopes : Scopes) (before : List Name) (d : DataType) (of : ValueType) (v : Variable) (t : VariableType) (e : FrontError) → data_type scopes d ≡ Ok of → variable_type scopes before of v ≡ Ok t → 65535 ≤ n → e ≡ Refused (at_line 39 v.line)
    → Stops n (variable_part scopes before d v ∷ []) e
variable_over n scopes before d of v t e typed h past is = more_stops n v.line _ e (unit_ok _ t (variable_check scopes before d of v typed ∙ h)) past is

pub variable_stands : (n : ℕ) (scopes : Scopes) (before : List Name) (d : DataType) (of : ValueType) (v : Variable) (t : VariableType) (more : ℕ) → data_type scopes d ≡ Ok of → variable_type scopes before of v ≡ Ok t → n < 65535 → more ≡ n + 1
    → Leads n (variable_part scopes before d v ∷ []) more []
variable_stands n scopes before d of v t more typed h within is = more_stands n v.line _ more (unit_ok _ t (variable_check scopes before d of v typed ∙ h)) within is

-- ---- parameters

pub parameter_twice : (n at : ℕ) (before : List Name) (p : Parameter) (e : FrontError) → is_among before p.name ≡ true → e ≡ Refused (at_line 31 p.line) → Stops n (parameter_part at before p ∷ []) e
parameter_twice n at before p e twice is = stops_as n _ e (at_line 31 p.line) is (name_refused n p.line _ (at_line 31 p.line) (first_broken p.line 31 39 (is_among before p.name) (nat_le 64 at) twice))

pub parameter_late : (n at : ℕ) (before : List Name) (p : Parameter) (e : FrontError) → is_among before p.name ≡ false → 64 ≤ at → e ≡ Refused (at_line 39 p.line) → Stops n (parameter_part at before p ∷ []) e
parameter_late n at before p e new late is = stops_as n _ e (at_line 39 p.line) is (name_refused n p.line _ (at_line 39 p.line) (second_broken p.line 31 39 (is_among before p.name) (nat_le 64 at) new (le-leb 64 at late)))

parameter_kept : (at : ℕ) (before : List Name) (p : Parameter) → is_among before p.name ≡ false → at < 64 → keeps p.line ((31, is_among before p.name) ∷ (39, nat_le 64 at) ∷ []) ≡ Ok tt
parameter_kept at before p new early = both_kept p.line 31 39 (is_among before p.name) (nat_le 64 at) new (lt-leb 64 at early)

pub parameter_over : (n at : ℕ) (before : List Name) (p : Parameter) (e : FrontError) → is_among before p.name ≡ false → at < 64 → 65535 ≤ n → e ≡ Refused (at_line 39 p.line) → Stops n (parameter_part at before p ∷ []) e
parameter_over n at before p e new early past is = more_stops n p.line _ e (parameter_kept at before p new early) past is

pub parameter_stands : (n at : ℕ) (before : List Name) (p : Parameter) (more : ℕ) → is_among before p.name ≡ false → at < 64 → n < 65535 → more ≡ n + 1 → Leads n (parameter_part at before p ∷ []) more []
parameter_stands n at before p more new early within is = more_stands n p.line _ more (parameter_kept at before p new early) within is

-- ---- signals

abbrev twice_named : List Signal → List Name → Signal → Bool
twice_named before names s = is_among names s.name || is_second_output before s

or_first : (a b : Bool) → a ≡ true → (a || b) ≡ true
or_first true b e = refl
or_first false b e = absurd cc

or_second : (a b : Bool) → a ≡ false → b ≡ true → (a || b) ≡ true
or_second true b e f = refl
or_second false b e f = f

or_neither : (a b : Bool) → a ≡ false → b ≡ false → (a || b) ≡ false
or_neither true b e f = absurd cc
or_neither false b e f = f

signal_named_twice : (n : ℕ) (before : List Signal) (names : List Name) (s : Signal) (e : FrontError) → twice_named before names s ≡ true → e ≡ Refused (at_line 31 s.line) → Stops n (signal_part before names s ∷ []) e
signal_named_twice n before names s e twice is = stops_as n _ e (at_line 31 s.line) is (name_refused n s.line _ (at_line 31 s.line) (first_broken s.line 31 39 (twice_named before names s) (nat_le 4096 (length before)) twice))

pub signal_twice : (n : ℕ) (before : List Signal) (names : List Name) (s : Signal) (e : FrontError) → is_among names s.name ≡ true → e ≡ Refused (at_line 31 s.line) → Stops n (signal_part before names s ∷ []) e
signal_twice n before names s e twice is = signal_named_twice n before names s e (or_first _ (is_second_output before s) twice) is

pub output_twice : (n : ℕ) (before : List Signal) (names : List Name) (s : Signal) (e : FrontError) → is_among names s.name ≡ false → is_second_output before s ≡ true → e ≡ Refused (at_line 31 s.line) → Stops n (signal_part before names s ∷ []) e
output_twice n before names s e new twice is = signal_named_twice n before names s e (or_second (is_among names s.name) _ new twice) is

pub signal_late : (n : ℕ) (before : List Signal) (names : List Name) (s : Signal) (e : FrontError) (count : ℕ) → is_among names s.name ≡ false → is_second_output before s ≡ false → count ≡ length before → 4096 ≤ count → e ≡ Refused (at_line 39 s.line)
    → Stops n (signal_part before names s ∷ []) e
signal_late n before names s e count new one same late is =
    stops_as n _ e (at_line 39 s.line) is (name_refused n s.line _ (at_line 39 s.line)
    (second_broken s.line 31 39 (twice_named before names s) (nat_le 4096 (length before)) (or_neither _ _ new one) (le-leb 4096 (length before) (omega arith))))

signal_kept : (before : List Signal) (names : List Name) (s : Signal) (count : ℕ) → is_among names s.name ≡ false → is_second_output before s ≡ false → count ≡ length before → count < 4096
    → keeps s.line ((31, twice_named before names s) ∷ (39, nat_le 4096 (length before)) ∷ []) ≡ Ok tt
signal_kept before names s count new one same early =
    both_kept s.line 31 39 (twice_named before names s) (nat_le 4096 (length before)) (or_neither _ _ new one) (lt-leb 4096 (length before) (omega arith))

pub signal_over : (n : ℕ) (before : List Signal) (names : List Name) (s : Signal) (e : FrontError) (count : ℕ) → is_among names s.name ≡ false → is_second_output before s ≡ false → count ≡ length before → count < 4096 → 65535 ≤ n → e ≡ Refused (at_line 39 s.line)
    → Stops n (signal_part before names s ∷ []) e
signal_over n before names s e count new one same early past is = more_stops n s.line _ e (signal_kept before names s count new one same early) past is

pub signal_stands : (n : ℕ) (before : List Signal) (names : List Name) (s : Signal) (count more : ℕ) → is_among names s.name ≡ false → is_second_output before s ≡ false → count ≡ length before → count < 4096 → n < 65535 → more ≡ n + 1
    → Leads n (signal_part before names s ∷ []) more []
signal_stands n before names s count more new one same early within is = more_stands n s.line _ more (signal_kept before names s count new one same early) within is
