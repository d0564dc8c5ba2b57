-- The types of variables, step by step, as the code takes them.
use Rattle.std.proofs.Common.{◌≡◌, ℕ, ◌+◌, ◌<◌, ◌≤◌, Bool, true, false, List, [], ◌∷◌, ◌++◌, map, length, get_or, drop, Option, refl, sym, ap, subst, ◌∙◌}
use Rattle.std.proofs.lemmas.List.{drop_all}
use Rattle.std.specs.Prelude.{Ok, Err}
use Rattle.vera_ast.specs.declared.refusal.FrontError.{FrontError}
use Rattle.vera_ast.specs.declared.refusal.FrontError.TheVariants.{Refused, NoMemory}
use Rattle.vera_ast.specs.declared.tree.declarations.Decl.{Decl}
use Rattle.vera_ast.specs.declared.tree.declarations.Variable.{Variable}
use Rattle.vera_ast.specs.declared.typed.types.ValueType.{ValueType}
use Rattle.vera_ast.specs.declared.typed.types.VariableType.{VariableType}
use Rattle.vera_names.proofs.Answering.{ok_then, err_then, passed_on}
use Rattle.vera_names.proofs.Items.{items_from, one_more, behind_none, behind_all}
use Rattle.vera_names.proofs.NameSets.{names_of_none, names_put}
use Rattle.typing_rules.specs.Answers.{Answers}
use Rattle.typing_rules.specs.Checked.{Checked, ◌>>=◌, ◌>>◌, keeps, refuse}
use Rattle.typing_rules.specs.DataTypes.{elements, is_wrong_array, is_wrong_length, variable_of, variable_type, variable_types, names_of, data_type, decl_types}
use Rattle.typing_rules.specs.Scopes.{Scopes, Scope, Name, is_among}
use Rattle.vera_decls.specs.Walks.{Stopped}
use Rattle.vera_names.specs.NameSets.{SameNames, names_behind}
use Rattle.vera_names.specs.Lists.{behind}

-- ---- three rules of one part

pub first_rule : {B : Type 0} (line a b c : ℕ) (x y z : Bool) (q : Checked B) → x ≡ true → (keeps line ((a, x) ∷ (b, y) ∷ (c, z) ∷ []) >> q) ≡ Err (record { code = a; line = line })
unfolding keeps refuse ◌>>=◌
first_rule line a b c true y z q e = refl
first_rule line a b c false y z q e = absurd cc

pub second_rule : {B : Type 0} (line a b c : ℕ) (x y z : Bool) (q : Checked B) → x ≡ false → y ≡ true → (keeps line ((a, x) ∷ (b, y) ∷ (c, z) ∷ []) >> q) ≡ Err (record { code = b; line = line })
unfolding keeps refuse ◌>>=◌
second_rule line a b c true y z q e f = absurd cc
second_rule line a b c false true z q e f = refl
second_rule line a b c false false z q e f = absurd cc

pub third_rule : {B : Type 0} (line a b c : ℕ) (x y z : Bool) (q : Checked B) → x ≡ false → y ≡ false → z ≡ true → (keeps line ((a, x) ∷ (b, y) ∷ (c, z) ∷ []) >> q) ≡ Err (record { code = c; line = line })
unfolding keeps refuse ◌>>=◌
third_rule line a b c true y z q e f g = absurd cc
third_rule line a b c false true z q e f g = absurd cc
third_rule line a b c false false true q e f g = refl
third_rule line a b c false false false q e f g = absurd cc

pub no_rule : {B : Type 0} (line a b c : ℕ) (x y z : Bool) (q : Checked B) → x ≡ false → y ≡ false → z ≡ false → (keeps line ((a, x) ∷ (b, y) ∷ (c, z) ∷ []) >> q) ≡ q
unfolding keeps refuse ◌>>=◌
no_rule line a b c true y z q e f g = absurd cc
no_rule line a b c false true z q e f g = absurd cc
no_rule line a b c false false true q e f g = absurd cc
no_rule line a b c false false false q e f g = refl

-- ---- one variable

pub elements_refused : (scopes : Scopes) (before : List Name) (of : ValueType) (v : Variable) (e : FrontError) → Answers (elements scopes v.line v.bracket) (Err e) → Answers (variable_type scopes before of v) (Err e)
unfolding variable_type
elements_refused scopes before of v e h = passed_on (elements scopes v.line v.bracket) _ e h

pub variable_twice : (scopes : Scopes) (before : List Name) (of : ValueType) (v : Variable) (count : Option ℕ) → elements scopes v.line v.bracket ≡ Ok count → is_among before v.name ≡ true
    → variable_type scopes before of v ≡ Err (record { code = 31; line = v.line })
unfolding variable_type
variable_twice scopes before of v count e twice = ok_then _ count _ e ∙ first_rule v.line 31 32 39 (is_among before v.name) (is_wrong_array of count) (is_wrong_length count) _ twice

pub variable_wrong : (scopes : Scopes) (before : List Name) (of : ValueType) (v : Variable) (count : Option ℕ) → elements scopes v.line v.bracket ≡ Ok count → is_among before v.name ≡ false → is_wrong_array of count ≡ true
    → variable_type scopes before of v ≡ Err (record { code = 32; line = v.line })
unfolding variable_type
variable_wrong scopes before of v count e new wrong = ok_then _ count _ e ∙ second_rule v.line 31 32 39 (is_among before v.name) (is_wrong_array of count) (is_wrong_length count) _ new wrong

pub variable_long : (scopes : Scopes) (before : List Name) (of : ValueType) (v : Variable) (count : Option ℕ) → elements scopes v.line v.bracket ≡ Ok count → is_among before v.name ≡ false → is_wrong_array of count ≡ false → is_wrong_length count ≡ true
    → variable_type scopes before of v ≡ Err (record { code = 39; line = v.line })
unfolding variable_type
variable_long scopes before of v count e new right long = ok_then _ count _ e ∙ third_rule v.line 31 32 39 (is_among before v.name) (is_wrong_array of count) (is_wrong_length count) _ new right long

pub variable_right : (scopes : Scopes) (before : List Name) (of : ValueType) (v : Variable) (count : Option ℕ) → elements scopes v.line v.bracket ≡ Ok count → is_among before v.name ≡ false → is_wrong_array of count ≡ false → is_wrong_length count ≡ false
    → variable_type scopes before of v ≡ Ok (variable_of of count)
unfolding variable_type
variable_right scopes before of v count e new right short = ok_then _ count _ e ∙ no_rule v.line 31 32 39 (is_among before v.name) (is_wrong_array of count) (is_wrong_length count) _ new right short

-- ---- the variables of a declaration

pub record TypesSoFar (scopes : Scopes) (of : ValueType) (before : List Name) (all : List Variable) (names : Scope) (types : List VariableType) (left : List Variable) : Type 0 where
  pub stand : List Name
  pub same : SameNames stand names
  pub told : behind types (variable_types scopes stand of left) ≡ variable_types scopes before of all
  pub names_left : names_behind stand (map (λ v. v.name) left) ≡ names_behind before (map (λ v. v.name) all)

types_more : (scopes : Scopes) (of : ValueType) (before : List Name) (all : List Variable) (names : Scope) (types : List VariableType) (v : Variable) (more : List Variable) (t : VariableType) (new : Scope)
    → (s : TypesSoFar scopes of before all names types (v ∷ more)) → variable_type scopes s.stand of v ≡ Ok t → SameNames (v.name ∷ s.stand) new
    → TypesSoFar scopes of before all new (types ++ t ∷ []) more
unfolding variable_types
types_more scopes of before all names types v more t new s e k = record {
  stand = v.name ∷ s.stand;
  same = k;
  told = sym (one_more types t (variable_types scopes (v.name ∷ s.stand) of more))
      ∙ ap (behind types) (sym (ok_then (variable_type scopes s.stand of v) t (λ first. variable_types scopes (v.name ∷ s.stand) of more >>= (λ others. Ok (first ∷ others))) e))
      ∙ s.told;
  names_left = s.names_left;
}

pub types_next : (scopes : Scopes) (of : ValueType) (before : List Name) (all : List Variable) (names : Scope) (types : List VariableType) (i : ℕ) (v : Variable) (t : VariableType) (read : Name) (new : Scope)
    → i < length all → v ≡ get_or all i v → read ≡ v.name → TypesSoFar scopes of before all names types (drop i all)
    → ((stand : List Name) → SameNames stand names → variable_type scopes stand of v ≡ Ok t) → ((stand : List Name) → SameNames stand names → SameNames (read ∷ stand) new)
    → TypesSoFar scopes of before all new (types ++ t ∷ []) (drop (i + 1) all)
types_next scopes of before all names types i v t read new lt at named s e k =
    let now : TypesSoFar scopes of before all names types (v ∷ drop (i + 1) all) = subst (λ (left : List Variable). TypesSoFar scopes of before all names types left) (items_from all i v lt at) s in
    types_more scopes of before all names types v (drop (i + 1) all) t new now (e now.stand now.same) (subst (λ (n : Name). SameNames (n ∷ now.stand) new) named (k now.stand now.same))

types_wrong : (scopes : Scopes) (of : ValueType) (before : List Name) (all : List Variable) (names : Scope) (types : List VariableType) (v : Variable) (more : List Variable) (e : FrontError)
    → (s : TypesSoFar scopes of before all names types (v ∷ more)) → Answers (variable_type scopes s.stand of v) (Err e) → Answers (variable_types scopes before of all) (Err e)
unfolding variable_types
types_wrong scopes of before all names types v more (Refused r) s h =
    sym s.told ∙ ap (behind types) (err_then (variable_type scopes s.stand of v) r (λ first. variable_types scopes (v.name ∷ s.stand) of more >>= (λ others. Ok (first ∷ others))) h)
types_wrong scopes of before all names types v more NoMemory s h = tt

pub types_stopped : (scopes : Scopes) (of : ValueType) (before : List Name) (all : List Variable) (x : FrontError) → Answers (variable_types scopes before of all) (Err x) → Stopped (variable_types scopes before of all) x
types_stopped scopes of before all (Refused r) h = h
types_stopped scopes of before all NoMemory h = tt

pub types_refused : (scopes : Scopes) (of : ValueType) (before : List Name) (all : List Variable) (names : Scope) (types : List VariableType) (i : ℕ) (v : Variable) (e : FrontError)
    → i < length all → v ≡ get_or all i v → TypesSoFar scopes of before all names types (drop i all)
    → ((stand : List Name) → SameNames stand names → Answers (variable_type scopes stand of v) (Err e)) → Answers (variable_types scopes before of all) (Err e)
types_refused scopes of before all names types i v e lt at s h =
    let now : TypesSoFar scopes of before all names types (v ∷ drop (i + 1) all) = subst (λ (left : List Variable). TypesSoFar scopes of before all names types left) (items_from all i v lt at) s in
    types_wrong scopes of before all names types v (drop (i + 1) all) e now (h now.stand now.same)

types_done : (scopes : Scopes) (of : ValueType) (before : List Name) (all : List Variable) (names : Scope) (types : List VariableType) → TypesSoFar scopes of before all names types []
    → (variable_types scopes before of all ≡ Ok types) × SameNames (map (λ v. v.name) all ++ before) names
unfolding variable_types
types_done scopes of before all names types s =
    (sym s.told ∙ behind_all types, names_put before (map (λ v. v.name) all) names (subst (λ (ns : List Name). SameNames ns names) s.names_left s.same))

pub types_all : (scopes : Scopes) (of : ValueType) (before : List Name) (all : List Variable) (names : Scope) (types : List VariableType) (i : ℕ) → length all ≤ i → TypesSoFar scopes of before all names types (drop i all)
    → (variable_types scopes before of all ≡ Ok types) × SameNames (map (λ v. v.name) all ++ before) names
types_all scopes of before all names types i end s =
    types_done scopes of before all names types (subst (λ (left : List Variable). TypesSoFar scopes of before all names types left) (drop_all i all end) s)

-- ---- all declarations

stopped_answers : {A : Type 0} (m : Checked A) (x : FrontError) → Stopped m x → Answers m (Err x)
stopped_answers m (Refused r) h = h
stopped_answers m NoMemory h = tt

pub record DeclsSoFar (scopes : Scopes) (all : List Decl) (names : Scope) (types : List (List VariableType)) (left : List Decl) : Type 0 where
  pub stand : List Name
  pub same : SameNames stand names
  pub told : behind types (decl_types scopes stand left) ≡ decl_types scopes [] all

pub decls_start : (scopes : Scopes) (all : List Decl) (names : Scope) (types : List (List VariableType)) → names ≡ [] → types ≡ [] → DeclsSoFar scopes all names types all
decls_start scopes all names types e f = record {
  stand = [];
  same = names_of_none names e;
  told = ap (λ (ts : List (List VariableType)). behind ts (decl_types scopes [] all)) f ∙ behind_none (decl_types scopes [] all);
}

decls_more : (scopes : Scopes) (all : List Decl) (names : Scope) (types : List (List VariableType)) (d : Decl) (more : List Decl) (of : ValueType) (t : List VariableType) (new : Scope)
    → (s : DeclsSoFar scopes all names types (d ∷ more)) → data_type scopes d.of ≡ Ok of → variable_types scopes s.stand of d.variables ≡ Ok t → SameNames (names_of d ++ s.stand) new
    → DeclsSoFar scopes all new (types ++ t ∷ []) more
unfolding decl_types
decls_more scopes all names types d more of t new s e f k = record {
  stand = names_of d ++ s.stand;
  same = k;
  told = sym (one_more types t (decl_types scopes (names_of d ++ s.stand) more))
      ∙ ap (behind types) (sym (ok_then (data_type scopes d.of) of _ e ∙ ok_then (variable_types scopes s.stand of d.variables) t _ f))
      ∙ s.told;
}

pub decls_next : (scopes : Scopes) (all : List Decl) (names : Scope) (types : List (List VariableType)) (i : ℕ) (d : Decl) (of : ValueType) (t : List VariableType) (read : List Variable) (new : Scope)
    → i < length all → d ≡ get_or all i d → read ≡ d.variables → DeclsSoFar scopes all names types (drop i all) → data_type scopes d.of ≡ Ok of
    → ((stand : List Name) → SameNames stand names → (variable_types scopes stand of read ≡ Ok t) × SameNames (map (λ v. v.name) read ++ stand) new)
    → DeclsSoFar scopes all new (types ++ t ∷ []) (drop (i + 1) all)
decls_next scopes all names types i d of t read new lt at same s e g =
    let f = λ (stand : List Name) (k : SameNames stand names). subst (λ (vs : List Variable). (variable_types scopes stand of vs ≡ Ok t) × SameNames (map (λ v. v.name) vs ++ stand) new) same (g stand k) in
    let now : DeclsSoFar scopes all names types (d ∷ drop (i + 1) all) = subst (λ (left : List Decl). DeclsSoFar scopes all names types left) (items_from all i d lt at) s in
    decls_more scopes all names types d (drop (i + 1) all) of t new now e (f now.stand now.same).0 (f now.stand now.same).1

decls_untyped : (scopes : Scopes) (all : List Decl) (names : Scope) (types : List (List VariableType)) (d : Decl) (more : List Decl) (x : FrontError)
    → DeclsSoFar scopes all names types (d ∷ more) → Answers (data_type scopes d.of) (Err x) → Answers (decl_types scopes [] all) (Err x)
unfolding decl_types
decls_untyped scopes all names types d more (Refused r) s h = sym s.told ∙ ap (behind types) (err_then (data_type scopes d.of) r _ h)
decls_untyped scopes all names types d more NoMemory s h = tt

decls_wrong : (scopes : Scopes) (all : List Decl) (names : Scope) (types : List (List VariableType)) (d : Decl) (more : List Decl) (of : ValueType) (x : FrontError)
    → (s : DeclsSoFar scopes all names types (d ∷ more)) → data_type scopes d.of ≡ Ok of → Answers (variable_types scopes s.stand of d.variables) (Err x) → Answers (decl_types scopes [] all) (Err x)
unfolding decl_types
decls_wrong scopes all names types d more of (Refused r) s e h = sym s.told ∙ ap (behind types) (ok_then (data_type scopes d.of) of _ e ∙ err_then (variable_types scopes s.stand of d.variables) r _ h)
decls_wrong scopes all names types d more of NoMemory s e h = tt

pub decls_no_type : (scopes : Scopes) (all : List Decl) (names : Scope) (types : List (List VariableType)) (i : ℕ) (d : Decl) (x : FrontError)
    → i < length all → d ≡ get_or all i d → DeclsSoFar scopes all names types (drop i all) → Answers (data_type scopes d.of) (Err x) → Answers (decl_types scopes [] all) (Err x)
decls_no_type scopes all names types i d x lt at s h =
    decls_untyped scopes all names types d (drop (i + 1) all) x (subst (λ (left : List Decl). DeclsSoFar scopes all names types left) (items_from all i d lt at) s) h

pub decls_refused : (scopes : Scopes) (all : List Decl) (names : Scope) (types : List (List VariableType)) (i : ℕ) (d : Decl) (of : ValueType) (read : List Variable) (x : FrontError)
    → i < length all → d ≡ get_or all i d → read ≡ d.variables → DeclsSoFar scopes all names types (drop i all) → data_type scopes d.of ≡ Ok of
    → ((stand : List Name) → SameNames stand names → Stopped (variable_types scopes stand of read) x) → Answers (decl_types scopes [] all) (Err x)
decls_refused scopes all names types i d of read x lt at same s e g =
    let h = λ (stand : List Name) (k : SameNames stand names). stopped_answers _ x (subst (λ (vs : List Variable). Stopped (variable_types scopes stand of vs) x) same (g stand k)) in
    let now : DeclsSoFar scopes all names types (d ∷ drop (i + 1) all) = subst (λ (left : List Decl). DeclsSoFar scopes all names types left) (items_from all i d lt at) s in
    decls_wrong scopes all names types d (drop (i + 1) all) of x now e (h now.stand now.same)

decls_done : (scopes : Scopes) (all : List Decl) (names : Scope) (types : List (List VariableType)) → DeclsSoFar scopes all names types [] → decl_types scopes [] all ≡ Ok types
unfolding decl_types
decls_done scopes all names types s = sym s.told ∙ behind_all types

pub decls_all : (scopes : Scopes) (all : List Decl) (names : Scope) (types : List (List VariableType)) (i : ℕ) → length all ≤ i → DeclsSoFar scopes all names types (drop i all) → decl_types scopes [] all ≡ Ok types
decls_all scopes all names types i end s = decls_done scopes all names types (subst (λ (left : List Decl). DeclsSoFar scopes all names types left) (drop_all i all end) s)
