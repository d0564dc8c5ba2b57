-- The declarations of a block, one after the other.
use Rattle.std.proofs.Common.{◌≡◌, ℕ, ◌+◌, ◌<◌, ◌≤◌, List, [], ◌∷◌, ◌++◌, length, get_or, drop, map, refl, sym, ap, ◌∙◌, arith}
use Rattle.std.specs.Prelude.{suc}
use Rattle.std.proofs.lemmas.List.{append-nil, append_assoc, at_drop_more, at_drop_all}
use Rattle.vera_ast.specs.declared.tree.declarations.Decl.{Decl}
use Rattle.vera_ast.specs.declared.tree.declarations.Variable.{Variable}
use Rattle.vera_ast.specs.declared.typed.names.VariablePlace.{VariablePlace}
use Rattle.vera_ast.specs.declared.typed.types.VariableType.{VariableType}
use Rattle.vera_names.proofs.Items.{part_goes, part_ends}
use Rattle.typing_rules.specs.Blocks.{Placed, PlacedDecl, placed, placed_decls, name_of, scope_of}
use Rattle.vera_names.specs.Named.{declared_as}
use Rattle.typing_rules.specs.Scopes.{Scope, later}
use Rattle.typing_rules.specs.declared.names.Meaning.TheVariants.{Later}

-- ---- names whose types aren't told yet

later_both : (ns ms : List (List ℕ)) → later (ns ++ ms) ≡ later ns ++ later ms
unfolding later
later_both [] ms = refl
later_both (n ∷ ns) ms = ap (λ (ds : Scope). declared_as n Later ∷ ds) (later_both ns ms)

-- ---- names of variables

pub scopes_go : (ds : List PlacedDecl) (i : ℕ) (d : PlacedDecl) (done more whole : Scope) → i < length ds → d ≡ get_or ds i d → more ≡ done ++ map name_of d.variables
    → done ++ scope_of (drop i ds) ≡ whole → more ++ scope_of (drop (i + 1) ds) ≡ whole
unfolding scope_of
scopes_go ds i d done more whole lt at is h =
    part_goes (λ (es : List PlacedDecl). scope_of es) ds i d (map name_of (get_or ds i d).variables) done more whole refl lt (is ∙ ap (λ (e : PlacedDecl). done ++ map name_of e.variables) at) h

pub scopes_end : (ds : List PlacedDecl) (i : ℕ) (done whole : Scope) → length ds ≤ i → done ++ scope_of (drop i ds) ≡ whole → done ≡ whole
unfolding scope_of
scopes_end ds i done whole le h = part_ends (λ (es : List PlacedDecl). scope_of es) ds i done whole refl le h

-- ---- places

no_types : (at : ℕ → VariablePlace) (n : ℕ) (vs : List Variable) → placed at n vs [] ≡ []
unfolding placed
no_types at n [] = refl
no_types at n (v ∷ vs) = refl

no_variables : (at : ℕ → VariablePlace) (n : ℕ) (ts : List VariableType) → placed at n [] ts ≡ []
unfolding placed
no_variables at n ts = refl

pub placed_goes : (at : ℕ → VariablePlace) (n i : ℕ) (vs : List Variable) (ts : List VariableType) (v : Variable) (t : VariableType) (done more whole : List Placed)
    → i < length vs → v ≡ get_or vs i v → i < length ts → t ≡ get_or ts i t → more ≡ done ++ record { variable = v; place = at (n + i); of = t } ∷ []
    → done ++ placed at (n + i) (drop i vs) (drop i ts) ≡ whole → more ++ placed at (n + (i + 1)) (drop (i + 1) vs) (drop (i + 1) ts) ≡ whole
unfolding placed
placed_goes at n i vs ts v t done more whole lt first within type is h =
    let next : n + (i + 1) ≡ suc (n + i) = omega arith in
    ap (λ (ps : List Placed). ps ++ placed at (n + (i + 1)) (drop (i + 1) vs) (drop (i + 1) ts)) is
    ∙ append_assoc done (record { variable = v; place = at (n + i); of = t } ∷ []) (placed at (n + (i + 1)) (drop (i + 1) vs) (drop (i + 1) ts))
    ∙ ap (λ (m : ℕ). done ++ record { variable = v; place = at (n + i); of = t } ∷ placed at m (drop (i + 1) vs) (drop (i + 1) ts)) next
    ∙ ap (λ (u : Variable). done ++ record { variable = u; place = at (n + i); of = t } ∷ placed at (suc (n + i)) (drop (i + 1) vs) (drop (i + 1) ts)) first
    ∙ ap (λ (u : VariableType). done ++ record { variable = get_or vs i v; place = at (n + i); of = u } ∷ placed at (suc (n + i)) (drop (i + 1) vs) (drop (i + 1) ts)) type
    ∙ sym (at_drop_more (λ (us : List Variable). done ++ placed at (n + i) us (drop i ts)) vs i v lt ∙ at_drop_more (λ (us : List VariableType). done ++ placed at (n + i) (get_or vs i v ∷ drop (i + 1) vs) us) ts i t within)
    ∙ h

pub placed_short : (at : ℕ → VariablePlace) (n i : ℕ) (vs : List Variable) (ts : List VariableType) (done whole : List Placed)
    → length ts ≤ i → done ++ placed at n (drop i vs) (drop i ts) ≡ whole → done ≡ whole
placed_short at n i vs ts done whole le h =
    sym (append-nil done) ∙ ap (λ (ps : List Placed). done ++ ps) (sym (no_types at n (drop i vs))) ∙ sym (at_drop_all (λ (us : List VariableType). done ++ placed at n (drop i vs) us) ts i le) ∙ h

pub placed_ends : (at : ℕ → VariablePlace) (n i : ℕ) (vs : List Variable) (ts : List VariableType) (done whole : List Placed)
    → length vs ≤ i → done ++ placed at n (drop i vs) (drop i ts) ≡ whole → done ≡ whole
placed_ends at n i vs ts done whole le h =
    sym (append-nil done) ∙ ap (λ (ps : List Placed). done ++ ps) (sym (no_variables at n (drop i ts))) ∙ sym (at_drop_all (λ (us : List Variable). done ++ placed at n us (drop i ts)) vs i le) ∙ h

no_decl_types : (at : ℕ → VariablePlace) (n : ℕ) (ds : List Decl) → placed_decls at n ds [] ≡ []
unfolding placed_decls
no_decl_types at n [] = refl
no_decl_types at n (d ∷ ds) = refl

no_decls : (at : ℕ → VariablePlace) (n : ℕ) (ts : List (List VariableType)) → placed_decls at n [] ts ≡ []
unfolding placed_decls
no_decls at n ts = refl

pub decls_go : (at : ℕ → VariablePlace) (n m i : ℕ) (ds : List Decl) (ts : List (List VariableType)) (d : Decl) (t : List VariableType) (done more whole : List PlacedDecl)
    → i < length ds → d ≡ get_or ds i d → i < length ts → t ≡ get_or ts i t → m ≡ n + length t → more ≡ done ++ record { line = d.line; variables = placed at n d.variables t } ∷ []
    → done ++ placed_decls at n (drop i ds) (drop i ts) ≡ whole → more ++ placed_decls at m (drop (i + 1) ds) (drop (i + 1) ts) ≡ whole
unfolding placed_decls
decls_go at n m i ds ts d t done more whole lt first within type number is h =
    ap (λ (ps : List PlacedDecl). ps ++ placed_decls at m (drop (i + 1) ds) (drop (i + 1) ts)) is
    ∙ append_assoc done (record { line = d.line; variables = placed at n d.variables t } ∷ []) (placed_decls at m (drop (i + 1) ds) (drop (i + 1) ts))
    ∙ ap (λ (k : ℕ). done ++ record { line = d.line; variables = placed at n d.variables t } ∷ placed_decls at k (drop (i + 1) ds) (drop (i + 1) ts)) number
    ∙ ap (λ (e : Decl). done ++ record { line = e.line; variables = placed at n e.variables t } ∷ placed_decls at (n + length t) (drop (i + 1) ds) (drop (i + 1) ts)) first
    ∙ ap (λ (u : List VariableType). done ++ record { line = (get_or ds i d).line; variables = placed at n (get_or ds i d).variables u } ∷ placed_decls at (n + length u) (drop (i + 1) ds) (drop (i + 1) ts)) type
    ∙ sym (at_drop_more (λ (es : List Decl). done ++ placed_decls at n es (drop i ts)) ds i d lt ∙ at_drop_more (λ (us : List (List VariableType)). done ++ placed_decls at n (get_or ds i d ∷ drop (i + 1) ds) us) ts i t within)
    ∙ h

pub decls_short : (at : ℕ → VariablePlace) (n i : ℕ) (ds : List Decl) (ts : List (List VariableType)) (done whole : List PlacedDecl)
    → length ts ≤ i → done ++ placed_decls at n (drop i ds) (drop i ts) ≡ whole → done ≡ whole
decls_short at n i ds ts done whole le h =
    sym (append-nil done) ∙ ap (λ (ps : List PlacedDecl). done ++ ps) (sym (no_decl_types at n (drop i ds))) ∙ sym (at_drop_all (λ (us : List (List VariableType)). done ++ placed_decls at n (drop i ds) us) ts i le) ∙ h

pub decls_end : (at : ℕ → VariablePlace) (n i : ℕ) (ds : List Decl) (ts : List (List VariableType)) (done whole : List PlacedDecl)
    → length ds ≤ i → done ++ placed_decls at n (drop i ds) (drop i ts) ≡ whole → done ≡ whole
decls_end at n i ds ts done whole le h =
    sym (append-nil done) ∙ ap (λ (ps : List PlacedDecl). done ++ ps) (sym (no_decls at n (drop i ts))) ∙ sym (at_drop_all (λ (us : List Decl). done ++ placed_decls at n us (drop i ts)) ds i le) ∙ h
