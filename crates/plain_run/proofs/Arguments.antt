-- The steps of the loop over a printf's arguments.
use Rattle.std.proofs.Common.{◌≡◌, ℕ, ◌+◌, ◌<◌, ◌≤◌, List, [], ◌∷◌, ◌++◌, map, length, get_or, drop, sym, ap, ◌∙◌, subst, arith}
use Rattle.std.proofs.lemmas.List.{drop_all, drop_more}
use Rattle.std.proofs.lemmas.Grind.{common_steps}
use Rattle.store_api.specs.Places.{Contents}
use Rattle.slice_core.specs.Tree.{Tree, Effect}
use Rattle.slice_core.specs.Walks.{walked_from}
use Rattle.vera_ast.specs.declared.typed.expr.TypedExpr.{TypedExpr}
use Rattle.vera_meaning.specs.Rests.{Rest}
use Rattle.vera_meaning.specs.Formats.{Argument}
use Rattle.vera_ast.specs.ExprTypes.{type_of}
use Rattle.vera_meaning.specs.Expressions.{arguments}
use Rattle.plain_run.specs.declared.evaluate.expr.Typed.{Typed}
use Rattle.plain_run.specs.Gives.{Gives}
use Rattle.plain_run.specs.Printing.{argument_of, GivesAll}

-- what is known so far: the arguments that are left follow these values
pub record GivesSoFar (all rest : List TypedExpr) (c : Contents) (values : List Typed) : Type 0 where
  pub goes_on : (ticks : ℕ) (next : List Argument → ℕ → Tree Rest) (es : List Effect) → walked_from (arguments all ticks next) c es ≡ walked_from (arguments rest ticks (λ more left. next (map argument_of values ++ more) left)) c es

one_more : (values : List Typed) (v : Typed) (a : Argument) (more : List Argument) → a ≡ argument_of v → map argument_of values ++ (a ∷ more) ≡ map argument_of (values ++ v ∷ []) ++ more
one_more [] v a more e = ap (λ x. x ∷ more) e
one_more (w ∷ values) v a more e = ap (λ xs. argument_of w ∷ xs) (one_more values v a more e)

argument_is : (v : Typed) (e : TypedExpr) → v.of ≡ type_of e → record { of = type_of e; bits = v.bits } ≡ argument_of v
argument_is v e h = ap (λ ty. let a : Argument = record { of = ty; bits = v.bits } in a) (sym h)

gives_one : (all : List TypedExpr) (e : TypedExpr) (rest : List TypedExpr) (c : Contents) (values : List Typed) (v : Typed) → GivesSoFar all (e ∷ rest) c values → v.of ≡ type_of e → Gives e c v.bits → GivesSoFar all rest c (values ++ v ∷ [])
gives_one all e rest c values v so_far ty g = record {
  goes_on = λ ticks next es.
      so_far.goes_on ticks next es
      ∙ (g ticks (λ bits left. arguments rest left (λ more left'. next (map argument_of values ++ (record { of = type_of e; bits = bits } ∷ more)) left')) es
      ∙ ap (λ (k : List Argument → ℕ → Tree Rest). walked_from (arguments rest ticks k) c es) (λ i more left. next (one_more values v (record { of = type_of e; bits = v.bits }) more (argument_is v e ty) i) left));
}

pub gives_one_at : (all : List TypedExpr) (i : ℕ) (e : TypedExpr) (c : Contents) (values : List Typed) (v : Typed) → i < length all → e ≡ get_or all i e → GivesSoFar all (drop i all) c values → v.of ≡ type_of e → Gives e c v.bits → GivesSoFar all (drop (i + 1) all) c (values ++ v ∷ [])
gives_one_at all i e c values v within here so_far ty g =
    let parts : drop i all ≡ e ∷ drop (i + 1) all = drop_more all i e within ∙ ap (λ x. x ∷ drop (i + 1) all) (sym here) in
    gives_one all e (drop (i + 1) all) c values v (subst (λ xs. GivesSoFar all xs c values) parts so_far) ty g

append_nothing : (values : List Typed) → map argument_of values ++ [] ≡ map argument_of values
append_nothing values = grind (arith, common_steps)

pub gives_all : (all : List TypedExpr) (i : ℕ) (c : Contents) (values : List Typed) → length all ≤ i → GivesSoFar all (drop i all) c values → GivesAll all c values
gives_all all i c values past so_far =
    let over : GivesSoFar all [] c values = subst (λ xs. GivesSoFar all xs c values) (drop_all i all past) so_far in
    λ ticks next es. over.goes_on ticks next es ∙ ap (λ xs. walked_from (next xs ticks) c es) (append_nothing values)
