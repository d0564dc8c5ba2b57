-- Steps by their left sides, as the code takes them.
use Rattle.std.proofs.Common.{◌≡◌, ℕ, Bool, [], ◌∷◌, Option, Some, None, refl, sym, ap, ◌∙◌}
use Rattle.std.specs.Prelude.{not, ◌&&◌, Result, Ok, Err}
use Rattle.vera_ast.specs.declared.refusal.FrontError.{FrontError}
use Rattle.vera_ast.specs.declared.tree.expressions.Expr.{Expr}
use Rattle.vera_ast.specs.declared.tree.expressions.Expr.TheVariants as x
use Rattle.vera_ast.specs.declared.tree.statements.Change.{Change}
use Rattle.vera_ast.specs.declared.tree.statements.Change.TheVariants as change
use Rattle.vera_ast.specs.declared.tree.statements.Step.{Step}
use Rattle.vera_ast.specs.declared.typed.expr.TypedExpr.{TypedExpr}
use Rattle.vera_ast.specs.declared.typed.place.TypedPlace.{TypedPlace}
use Rattle.vera_ast.specs.declared.typed.stmt.TypedChange.{TypedChange}
use Rattle.vera_ast.specs.declared.typed.stmt.TypedChange.TheVariants as made
use Rattle.vera_ast.specs.declared.typed.stmt.TypedStmt.{TypedStmt}
use Rattle.vera_ast.specs.declared.typed.stmt.TypedStmt.TheVariants as stmt
use Rattle.vera_ast.specs.declared.typed.types.ValueType.{ValueType}
use Rattle.typing_rules.specs.Answers.{Answers}
use Rattle.typing_rules.specs.Assignments.{right_side, right_fits, assigning, left_passes, left_place, stepped, assign, add, count, changed, step}
use Rattle.typing_rules.specs.Checked.{Checked, ◌>>=◌, ◌>>◌, keeps, known, wrong_type, not_assignable}
use Rattle.typing_rules.specs.Expressions.{walk, expr}
use Rattle.typing_rules.specs.Posts.{is_plain_vector}
use Rattle.typing_rules.specs.Types.{is_vector}
use Rattle.typing_rules.specs.declared.context.Context.{Context}
use Rattle.typing_rules.specs.declared.head.Head.{Head}
use Rattle.typing_rules.specs.declared.head.Head.TheVariants as h
use Rattle.typing_rules.specs.declared.head.Stand.TheVariants as stand
use Rattle.vera_names.proofs.Answering.{passed_on, go_on, along, follow, within}
use Rattle.vera_steps.specs.SideLists.{left_of, passes, side_of, walk_side, placed, assign_right, assign_value, assign_signal, assign_to, added, add_to, count_at, change_at}
use Rattle.vera_steps.specs.declared.sides.Side.{Side}

-- ---- one rule, and what follows it

ruled : {B : Type 0} (line code : ℕ) (a b : Bool) (p q : Checked B) → a ≡ b → p ≡ q → (keeps line ((code, a) ∷ []) >> p) ≡ (keeps line ((code, b) ∷ []) >> q)
ruled {B = B} line code a b p q same follows =
    ap (λ (x : Bool). keeps line ((code, x) ∷ []) >> p) same ∙ ap (λ (y : Checked B). keeps line ((code, b) ∷ []) >> y) follows

-- ---- the rule of types, and the place

passes_is : (test : ValueType → Bool) (head : Head) → left_passes test head ≡ passes test (left_of head)
passes_is test (h.Number n) = refl
passes_is test (h.Str s) = refl
passes_is test (h.Value v) = refl
passes_is test (h.Whole w) = refl
passes_is test (h.Part w k) = refl
passes_is test (h.Array a l of) = refl
passes_is test (h.Signal s d) = refl
passes_is test (h.SignalPart s d k) = refl
passes_is test (h.Length y) = refl
passes_is test (h.Waits call) = refl
passes_is test (h.Task call) = refl
passes_is test (h.BuiltIn b ys ps) = refl
passes_is test (h.Prints ps ys) = refl
passes_is test (h.PrintsInto p ps ys) = refl
passes_is test (h.Named means) = refl
passes_is test (h.Word b) = refl
passes_is test (h.Mode m) = refl
passes_is test h.New = refl

known_is : (line : ℕ) (p : Option TypedPlace) (change : TypedChange) → (known not_assignable line p >>= (λ q. Ok (stmt.Step (record { line = line; target = q; change = change })))) ≡ placed line p change
unfolding known ◌>>=◌ Rattle.typing_rules.specs.Checked.refuse
known_is line None change = refl
known_is line (Some p) change = refl

stepped_is : (line : ℕ) (head : Head) (change : TypedChange) → stepped line head change ≡ placed line (left_place head) change
stepped_is line head change = known_is line (left_place head) change

-- a step under one rule
under_rule : (line : ℕ) (head : Head) (test : ValueType → Bool) (change : TypedChange)
    → (keeps line ((wrong_type, not (left_passes test head)) ∷ []) >> stepped line head change) ≡ (keeps line ((wrong_type, not (passes test (left_of head))) ∷ []) >> placed line (left_place head) change)
under_rule line head test change =
    ruled line wrong_type (not (left_passes test head)) (not (passes test (left_of head))) (stepped line head change) (placed line (left_place head) change)
    (ap (λ (b : Bool). not b) (passes_is test head)) (stepped_is line head change)

-- ---- assignments

value_is : (c : Context) (line : ℕ) (head : Head) (e : Expr)
    → (right_side c line e >>= (λ r. keeps line ((wrong_type, not (left_passes (right_fits c.outline.classes r) head)) ∷ []) >> stepped line head (assigning r))) ≡ assign_value c line (side_of head) e
unfolding assign_value assign_right
value_is c line head e = follow (right_side c line e) _ _ (λ r. under_rule line head (right_fits c.outline.classes r) (assigning r))

given : {A B : Type 0} (a : A) (f : A → Checked B) → (Ok a >>= f) ≡ f a
unfolding ◌>>=◌
given a f = refl

assign_is : (c : Context) (line : ℕ) (head : Head) (e : Expr) → assign c line head e ≡ assign_to c line (side_of head) e
unfolding assign assign_signal
assign_is c line (h.Number n) e = value_is c line (h.Number n) e
assign_is c line (h.Str s) e = value_is c line (h.Str s) e
assign_is c line (h.Value v) e = value_is c line (h.Value v) e
assign_is c line (h.Whole w) e = value_is c line (h.Whole w) e
assign_is c line (h.Part w k) e = value_is c line (h.Part w k) e
assign_is c line (h.Array a l of) e = value_is c line (h.Array a l of) e
assign_is c line (h.Signal s d) e = refl
assign_is c line (h.SignalPart s d k) e = value_is c line (h.SignalPart s d k) e
assign_is c line (h.Length y) e = value_is c line (h.Length y) e
assign_is c line (h.Waits call) e = value_is c line (h.Waits call) e
assign_is c line (h.Task call) e = value_is c line (h.Task call) e
assign_is c line (h.BuiltIn b ys ps) e = value_is c line (h.BuiltIn b ys ps) e
assign_is c line (h.Prints ps ys) e = value_is c line (h.Prints ps ys) e
assign_is c line (h.PrintsInto p ps ys) e = value_is c line (h.PrintsInto p ps ys) e
assign_is c line (h.Named means) e = value_is c line (h.Named means) e
assign_is c line (h.Word b) e = value_is c line (h.Word b) e
assign_is c line (h.Mode m) e = value_is c line (h.Mode m) e
assign_is c line h.New e = value_is c line h.New e

-- ---- changes

added_is : (line : ℕ) (head : Head) (of : ValueType) (change : TypedChange)
    → (keeps line ((wrong_type, not (left_passes is_plain_vector head && is_vector of)) ∷ []) >> stepped line head change) ≡ added line (side_of head) of change
unfolding added
added_is line head of change =
    ruled line wrong_type (not (left_passes is_plain_vector head && is_vector of)) (not (passes is_plain_vector (left_of head) && is_vector of)) (stepped line head change) (placed line (left_place head) change)
    (ap (λ (b : Bool). not (b && is_vector of)) (passes_is is_plain_vector head)) (stepped_is line head change)

add_is : (c : Context) (line : ℕ) (head : Head) (make : TypedExpr → TypedChange) (e : Expr) → add c line head make e ≡ add_to c line (side_of head) make e
unfolding add add_to
add_is c line head make e = follow (expr c e) _ _ (λ v. added_is line head v.of (make v.expr))

count_is : (line : ℕ) (head : Head) (change : TypedChange) → count line head change ≡ count_at line (side_of head) change
unfolding count count_at
count_is line head change = under_rule line head is_plain_vector change

changed_is : (c : Context) (line : ℕ) (head : Head) (how : Change) → changed c line head how ≡ change_at c line (side_of head) how
changed_is c line head (change.Assign e) = assign_is c line head e
changed_is c line head (change.Add e) = add_is c line head made.Add e
changed_is c line head (change.Subtract e) = add_is c line head made.Subtract e
changed_is c line head change.Increment = count_is line head made.Increment
changed_is c line head change.Decrement = count_is line head made.Decrement

-- ---- steps

step_is : (c : Context) (s : Step) → step c s ≡ (walk_side c s.target >>= (λ side. change_at c s.line side s.change))
unfolding step walk_side
step_is c s =
    follow (walk c stand.Place (x.Postfix s.target)) _ (λ head. Ok (side_of head) >>= (λ side. change_at c s.line side s.change)) (λ head. changed_is c s.line head s.change ∙ sym (given (side_of head) (λ side. change_at c s.line side s.change)))
    ∙ sym (within (walk c stand.Place (x.Postfix s.target)) (λ head. Ok (side_of head)) (λ side. change_at c s.line side s.change))

pub step_stops : (c : Context) (s : Step) (e : FrontError) → Answers (walk_side c s.target) (Err e) → Answers (step c s) (Err e)
step_stops c s e h = along _ _ (Err e) (step_is c s) (passed_on _ _ e h)

pub step_goes : (c : Context) (s : Step) (side : Side) (r : Result TypedStmt FrontError) → walk_side c s.target ≡ Ok side → Answers (change_at c s.line side s.change) r → Answers (step c s) r
step_goes c s side r is h = along _ _ r (step_is c s) (go_on _ side _ r is h)
