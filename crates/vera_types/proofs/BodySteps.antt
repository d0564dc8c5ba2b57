-- What is in sight in a block and in a body, as the code puts it together.
use Rattle.std.proofs.Common.{◌≡◌, ℕ, ◌+◌, ◌<◌, ◌≤◌, List, [], ◌∷◌, ◌++◌, length, get_or, drop, refl, sym, ap, ◌∙◌}
use Rattle.std.specs.Prelude.{suc, Ok, Err}
use Rattle.std.proofs.lemmas.List.{append-nil, append_assoc, at_drop_more, at_drop_all}
use Rattle.vera_ast.specs.declared.tree.items.Parameter.{Parameter}
use Rattle.vera_ast.specs.declared.typed.file.TypedParameter.{TypedParameter}
use Rattle.vera_ast.specs.declared.typed.types.VariableType.TheVariants.{Value}
use Rattle.vera_names.proofs.Items.{one_more}
use Rattle.typing_rules.specs.Blocks.{PlacedDecl, scope_of, inside}
use Rattle.typing_rules.specs.Answers.{Answers}
use Rattle.typing_rules.specs.Bodies.{parameter_place, typed_parameters, parameter_scope}
use Rattle.typing_rules.specs.Checked.{Checked, ◌>>=◌}
use Rattle.typing_rules.specs.DataTypes.{data_type}
use Rattle.vera_names.specs.Lists.{behind}
use Rattle.vera_ast.specs.declared.refusal.FrontError.{FrontError}
use Rattle.vera_ast.specs.declared.refusal.FrontError.TheVariants.{Refused, NoMemory}
use Rattle.vera_ast.specs.declared.typed.types.ValueType.{ValueType}
use Rattle.vera_names.specs.Named.{declared_as}
use Rattle.typing_rules.specs.Scopes.{Scope, Scopes}
use Rattle.typing_rules.specs.declared.context.Context.{Context}
use Rattle.typing_rules.specs.declared.names.Meaning.TheVariants as means

pub inside_is : (c inner : Context) (vs : List PlacedDecl) (scope : Scope) (scopes : Scopes) (n : ℕ)
    → scope ≡ scope_of vs → scopes ≡ scope ∷ c.scopes → n ≡ c.slots + length scope → inner ≡ record c { scopes = scopes; slots = n } → inner ≡ inside c vs
unfolding inside
inside_is c inner vs scope scopes n own all slots e =
    e
    ∙ ap (λ (m : ℕ). record c { scopes = scopes; slots = m }) slots
    ∙ ap (λ (ss : Scopes). record c { scopes = ss; slots = c.slots + length scope }) all
    ∙ ap (λ (s : Scope). record c { scopes = s ∷ c.scopes; slots = c.slots + length s }) own

-- ---- parameters

no_typed : (ps : List Parameter) → parameter_scope ps [] ≡ []
unfolding parameter_scope
no_typed [] = refl
no_typed (p ∷ ps) = refl

no_parameters : (ts : List TypedParameter) → parameter_scope [] ts ≡ []
unfolding parameter_scope
no_parameters ts = refl

pub parameters_go : (ps : List Parameter) (ts : List TypedParameter) (i : ℕ) (p : Parameter) (t : TypedParameter) (done more whole : Scope)
    → i < length ps → p ≡ get_or ps i p → i < length ts → t ≡ get_or ts i t → more ≡ done ++ declared_as p.name (means.Variable t.place (Value t.of)) ∷ []
    → done ++ parameter_scope (drop i ps) (drop i ts) ≡ whole → more ++ parameter_scope (drop (i + 1) ps) (drop (i + 1) ts) ≡ whole
unfolding parameter_scope
parameters_go ps ts i p t done more whole lt first within of is h =
    ap (λ (ds : Scope). ds ++ parameter_scope (drop (i + 1) ps) (drop (i + 1) ts)) is
    ∙ append_assoc done (declared_as p.name (means.Variable t.place (Value t.of)) ∷ []) (parameter_scope (drop (i + 1) ps) (drop (i + 1) ts))
    ∙ ap (λ (q : Parameter). done ++ declared_as q.name (means.Variable t.place (Value t.of)) ∷ parameter_scope (drop (i + 1) ps) (drop (i + 1) ts)) first
    ∙ ap (λ (u : TypedParameter). done ++ declared_as (get_or ps i p).name (means.Variable u.place (Value u.of)) ∷ parameter_scope (drop (i + 1) ps) (drop (i + 1) ts)) of
    ∙ sym (at_drop_more (λ (qs : List Parameter). done ++ parameter_scope qs (drop i ts)) ps i p lt ∙ at_drop_more (λ (us : List TypedParameter). done ++ parameter_scope (get_or ps i p ∷ drop (i + 1) ps) us) ts i t within)
    ∙ h

pub parameters_short : (ps : List Parameter) (ts : List TypedParameter) (i : ℕ) (done whole : Scope) → length ts ≤ i → done ++ parameter_scope (drop i ps) (drop i ts) ≡ whole → done ≡ whole
parameters_short ps ts i done whole le h =
    sym (append-nil done) ∙ ap (λ (ds : Scope). done ++ ds) (sym (no_typed (drop i ps))) ∙ sym (at_drop_all (λ (us : List TypedParameter). done ++ parameter_scope (drop i ps) us) ts i le) ∙ h

pub parameters_end : (ps : List Parameter) (ts : List TypedParameter) (i : ℕ) (done whole : Scope) → length ps ≤ i → done ++ parameter_scope (drop i ps) (drop i ts) ≡ whole → done ≡ whole
parameters_end ps ts i done whole le h =
    sym (append-nil done) ∙ ap (λ (ds : Scope). done ++ ds) (sym (no_parameters (drop i ts))) ∙ sym (at_drop_all (λ (qs : List Parameter). done ++ parameter_scope qs (drop i ts)) ps i le) ∙ h

-- ---- types of parameters

longer : {A : Type 0} (xs : List A) (x : A) → length (xs ++ x ∷ []) ≡ suc (length xs)
longer [] x = refl
longer (y ∷ xs) x = ap (λ (n : ℕ). suc n) (longer xs x)

pub types_go : (scopes : Scopes) (ps : List Parameter) (i : ℕ) (p : Parameter) (of : ValueType) (done more : List TypedParameter) (whole : Checked (List TypedParameter))
    → i < length ps → p ≡ get_or ps i p → data_type scopes p.of ≡ Ok of → more ≡ done ++ record { line = p.line; place = parameter_place p.is_var (length done); of = of } ∷ []
    → behind done (typed_parameters scopes (length done) (drop i ps)) ≡ whole → behind more (typed_parameters scopes (length more) (drop (i + 1) ps)) ≡ whole
unfolding typed_parameters ◌>>=◌
types_go scopes ps i p of done more whole lt at e is h =
    ap (λ (ts : List TypedParameter). behind ts (typed_parameters scopes (length ts) (drop (i + 1) ps))) is
    ∙ ap (λ (n : ℕ). behind (done ++ record { line = p.line; place = parameter_place p.is_var (length done); of = of } ∷ []) (typed_parameters scopes n (drop (i + 1) ps))) (longer done (record { line = p.line; place = parameter_place p.is_var (length done); of = of }))
    ∙ sym (one_more done (record { line = p.line; place = parameter_place p.is_var (length done); of = of }) (typed_parameters scopes (suc (length done)) (drop (i + 1) ps)))
    ∙ ap (λ (q : Checked ValueType). behind done (q >>= (λ t. typed_parameters scopes (suc (length done)) (drop (i + 1) ps) >>= (λ others. Ok (record { line = p.line; place = parameter_place p.is_var (length done); of = t } ∷ others))))) (sym e)
    ∙ ap (λ (q : Parameter). behind done (data_type scopes q.of >>= (λ t. typed_parameters scopes (suc (length done)) (drop (i + 1) ps) >>= (λ others. Ok (record { line = q.line; place = parameter_place q.is_var (length done); of = t } ∷ others))))) at
    ∙ sym (at_drop_more (λ (qs : List Parameter). behind done (typed_parameters scopes (length done) qs)) ps i p lt)
    ∙ h

pub types_stop : (scopes : Scopes) (ps : List Parameter) (i : ℕ) (p : Parameter) (done : List TypedParameter) (whole : Checked (List TypedParameter)) (e : FrontError)
    → i < length ps → p ≡ get_or ps i p → Answers (data_type scopes p.of) (Err e) → behind done (typed_parameters scopes (length done) (drop i ps)) ≡ whole → Answers whole (Err e)
unfolding typed_parameters ◌>>=◌
types_stop scopes ps i p done whole (Refused r) lt at e h =
    sym h ∙ at_drop_more (λ (qs : List Parameter). behind done (typed_parameters scopes (length done) qs)) ps i p lt
    ∙ ap (λ (q : Parameter). behind done (data_type scopes q.of >>= (λ t. typed_parameters scopes (suc (length done)) (drop (i + 1) ps) >>= (λ others. Ok (record { line = q.line; place = parameter_place q.is_var (length done); of = t } ∷ others))))) (sym at)
    ∙ ap (λ (q : Checked ValueType). behind done (q >>= (λ t. typed_parameters scopes (suc (length done)) (drop (i + 1) ps) >>= (λ others. Ok (record { line = p.line; place = parameter_place p.is_var (length done); of = t } ∷ others))))) e
types_stop scopes ps i p done whole NoMemory lt at e h = tt

pub types_end : (scopes : Scopes) (ps : List Parameter) (i : ℕ) (done : List TypedParameter) (whole : Checked (List TypedParameter))
    → length ps ≤ i → behind done (typed_parameters scopes (length done) (drop i ps)) ≡ whole → whole ≡ Ok done
unfolding typed_parameters
types_end scopes ps i done whole le h =
    sym h ∙ at_drop_all (λ (qs : List Parameter). behind done (typed_parameters scopes (length done) qs)) ps i le ∙ ap (λ (ts : List TypedParameter). Ok ts) (append-nil done)
