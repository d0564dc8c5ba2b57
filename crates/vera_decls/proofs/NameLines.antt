-- Names of one line, of which the first is declared before the others.
use Rattle.std.proofs.Common.{◌≡◌, ℕ, ◌≤◌, Bool, true, false, cond, List, [], ◌∷◌, ◌++◌, map, Option, Some, refl, sym, ap, subst, ◌∙◌}
use Rattle.std.specs.Prelude.{◌||◌, is_some, Result}
use Rattle.std.specs.Str.{bytes_eq}
use Rattle.vera_ast.specs.declared.refusal.FrontError.{FrontError}
use Rattle.vera_names.proofs.NameSets.{among_both, same_order}
use Rattle.vera_decls.proofs.WalkParts.{stops_first, walks_behind, walks_map}
use Rattle.typing_rules.specs.Declarations.{name_parts}
use Rattle.typing_rules.specs.Scopes.{Name, Scope, is_among, meaning_in}
use Rattle.typing_rules.specs.declared.names.Meaning.{Meaning}
use Rattle.vera_decls.specs.Walks.{Leads, Stops, Walks, name_part}
use Rattle.vera_names.specs.NameSets.{SameNames}
use Rattle.vera_decls.specs.declared.declarations.counting.Walked.{Walked}

-- ---- the names of a scope are its own

found_or : (b : Bool) (m : Meaning) (o : Option Meaning) (c : Bool) → is_some o ≡ c → is_some (cond b (Some m) o) ≡ (b || c)
found_or true m o c e = refl
found_or false m o c e = e

own_among : (s : Scope) (q : Name) → is_some (meaning_in s q) ≡ is_among (map (λ d. d.name) s) q
unfolding meaning_in is_among
own_among [] q = refl
own_among (d ∷ ds) q = found_or (bytes_eq d.name q) d.means (meaning_in ds q) (is_among (map (λ d. d.name) ds) q) (own_among ds q)

pub own_names : (s : Scope) → SameNames (map (λ d. d.name) s) s
own_names s = record { same = λ q. own_among s q }

-- whatever the names that stand: behind one more name there are 65,535 at most
pub within_limit : (s : Scope) (m : ℕ) (P : List Name → Type 0) (Q : List Name → Type 0) → ((stand : List Name) → SameNames stand s → P stand × (m ≤ 65535) × Q stand) → m ≤ 65535
within_limit s m P Q h = (h (map (λ d. d.name) s) (own_names s)).1

-- ---- a name, and others behind it

or_turned : (a b c : Bool) → (a || (b || c)) ≡ (b || (a || c))
or_turned true true c = refl
or_turned true false c = refl
or_turned false b c = refl

put_between : (stand : List Name) (name : Name) (values : List Name) (s : Scope) → SameNames (name ∷ (stand ++ values)) s → SameNames (stand ++ name ∷ values) s
unfolding is_among
put_between stand name values s k =
    same_order (name ∷ (stand ++ values)) (stand ++ name ∷ values) s k
    (λ q. ap (λ (b : Bool). bytes_eq name q || b) (among_both stand values q) ∙ or_turned (bytes_eq name q) (is_among stand q) (is_among values q) ∙ sym (among_both stand (name ∷ values) q))

pub line_stops : (n line : ℕ) (stand : List Name) (name read : Name) (values : List Name) (e : FrontError) → read ≡ name → Stops n (name_part line stand read ∷ []) e → Stops n (name_parts line stand (name ∷ values)) e
unfolding name_parts
line_stops n line stand name read values e is h =
    subst (λ (x : Name). Stops n (name_parts line stand (x ∷ values)) e) is (stops_first n (name_part line stand read ∷ []) (name_parts line (read ∷ stand) values) e h)

read_line : (n line : ℕ) (stand : List Name) (read : Name) (values : List Name) (m : ℕ) (result : Result Walked FrontError) → Leads n (name_part line stand read ∷ []) m []
    → Walks (λ (w : Walked). w.count) (λ (w : Walked). SameNames ((read ∷ stand) ++ values) w.names) m (name_parts line (read ∷ stand) values) result
    → Walks (λ (w : Walked). w.count) (λ (w : Walked). SameNames (stand ++ read ∷ values) w.names) n (name_parts line stand (read ∷ values)) result
unfolding name_parts
read_line n line stand read values m result a b =
    walks_behind (λ (w : Walked). w.count) (λ (w : Walked). SameNames (stand ++ read ∷ values) w.names) n (name_part line stand read ∷ []) (name_parts line (read ∷ stand) values) m result a
    (walks_map (λ (w : Walked). w.count) (λ (w : Walked). SameNames ((read ∷ stand) ++ values) w.names) (λ (w : Walked). SameNames (stand ++ read ∷ values) w.names) m (name_parts line (read ∷ stand) values) result
    (λ w k. put_between stand read values w.names k) b)

pub line_walks : (n line : ℕ) (stand : List Name) (name read : Name) (values read_values : List Name) (m : ℕ) (result : Result Walked FrontError) → read ≡ name → read_values ≡ values → Leads n (name_part line stand read ∷ []) m []
    → Walks (λ (w : Walked). w.count) (λ (w : Walked). SameNames ((read ∷ stand) ++ read_values) w.names) m (name_parts line (read ∷ stand) read_values) result
    → Walks (λ (w : Walked). w.count) (λ (w : Walked). SameNames (stand ++ name ∷ values) w.names) n (name_parts line stand (name ∷ values)) result
line_walks n line stand name read values read_values m result e f a b =
    subst (λ (x : Name). Walks (λ (w : Walked). w.count) (λ (w : Walked). SameNames (stand ++ x ∷ values) w.names) n (name_parts line stand (x ∷ values)) result) e
    (subst (λ (xs : List Name). Walks (λ (w : Walked). w.count) (λ (w : Walked). SameNames (stand ++ read ∷ xs) w.names) n (name_parts line stand (read ∷ xs)) result) f
    (read_line n line stand read read_values m result a b))
