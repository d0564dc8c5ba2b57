-- Loops over what is declared: the parts of what is left, behind what is done.
use Rattle.std.proofs.Common.{◌≡◌, ℕ, ◌+◌, ◌<◌, ◌≤◌, List, [], ◌∷◌, ◌++◌, length, get_or, take, drop, refl, sym, ap, subst, ◌∙◌}
use Rattle.std.proofs.lemmas.List.{take_more, take_all, drop_all}
use Rattle.vera_ast.specs.declared.refusal.FrontError.{FrontError}
use Rattle.vera_ast.specs.declared.refusal.FrontError.TheVariants.{Refused, NoMemory}
use Rattle.vera_decls.proofs.PartSteps.{leads_itself, leads_on, refused_on}
use Rattle.vera_names.proofs.Items.{items_from}
use Rattle.typing_rules.specs.Declarations.{Part}
use Rattle.vera_decls.specs.Walks.{Leads, Stops}

-- where one stands behind some items, going from one to the next
abbrev pub after_all : {X S : Type 0} → (S → X → S) → S → List X → S
after_all next s [] = s
after_all next s (x ∷ xs) = after_all next (next s x) xs

after_one : {X S : Type 0} (next : S → X → S) (s : S) (xs : List X) (x : X) → after_all next s (xs ++ x ∷ []) ≡ next (after_all next s xs) x
after_one next s [] x = refl
after_one next s (y ∷ xs) x = after_one next (next s y) xs x

-- behind the first items, with what holds there: the parts of all items come to those of the ones that are left
pub record Goes {X S : Type 0} (parts : S → List X → List Part) (next : S → X → S) (start : S) (all : List X) (n : ℕ) (Holds : S → Type 0) (i m : ℕ) : Type 0 where
  pub leads : Leads n (parts start all) m (parts (after_all next start (take i all)) (drop i all))
  pub within : m ≤ 65535
  pub holds : Holds (after_all next start (take i all))

none_taken : {X : Type 0} (xs : List X) → take 0 xs ≡ []
none_taken [] = refl
none_taken (x ∷ xs) = refl

none_dropped : {X : Type 0} (xs : List X) → drop 0 xs ≡ xs
none_dropped [] = refl
none_dropped (x ∷ xs) = refl

pub goes_start : {X S : Type 0} (parts : S → List X → List Part) (next : S → X → S) (start : S) (all : List X) (n : ℕ) (Holds : S → Type 0) → n ≤ 65535 → Holds start
    → Goes parts next start all n Holds 0 n
goes_start parts next start all n Holds within h = record {
  leads = subst (λ (xs : List _). Leads n (parts start all) n (parts (after_all next start (take 0 all)) xs)) (sym (none_dropped all))
      (subst (λ (xs : List _). Leads n (parts start all) n (parts (after_all next start xs) all)) (sym (none_taken all)) (leads_itself n (parts start all)));
  within = within;
  holds = subst (λ (xs : List _). Holds (after_all next start xs)) (sym (none_taken all)) h;
}

stand_on : {X S : Type 0} (next : S → X → S) (start : S) (all : List X) (i : ℕ) (x : X) → i < length all → x ≡ get_or all i x
    → after_all next start (take (i + 1) all) ≡ next (after_all next start (take i all)) x
stand_on next start all i x lt at =
    ap (after_all next start) (take_more all i x lt ∙ ap (λ y. take i all ++ y ∷ []) (sym at)) ∙ after_one next start (take i all) x

parts_on : {X S : Type 0} (parts : S → List X → List Part) (part : S → X → List Part) (next : S → X → S) (all : List X) (i : ℕ) (x : X) (s : S)
    → ((s : S) (x : X) (left : List X) → parts s (x ∷ left) ≡ part s x ++ parts (next s x) left) → i < length all → x ≡ get_or all i x
    → parts s (drop i all) ≡ part s x ++ parts (next s x) (drop (i + 1) all)
parts_on parts part next all i x s is lt at = ap (parts s) (items_from all i x lt at) ∙ is s x (drop (i + 1) all)

pub goes_on : {X S : Type 0} (parts : S → List X → List Part) (part : S → X → List Part) (next : S → X → S) (start : S) (all : List X) (n : ℕ) (Holds After : S → Type 0) (i m k : ℕ) (x : X)
    → ((s : S) (x : X) (left : List X) → parts s (x ∷ left) ≡ part s x ++ parts (next s x) left) → i < length all → x ≡ get_or all i x
    → Goes parts next start all n Holds i m → ((s : S) → Holds s → Leads m (part s x) k [] × (k ≤ 65535) × After (next s x))
    → Goes parts next start all n After (i + 1) k
goes_on parts part next start all n Holds After i m k x is lt at g f =
    let s = after_all next start (take i all) in
    let e = stand_on next start all i x lt at in
    let step = f s g.holds in
    record {
      leads = subst (λ (z : _). Leads n (parts start all) k (parts z (drop (i + 1) all))) (sym e)
          (leads_on n (parts start all) m (part s x) (parts (next s x) (drop (i + 1) all)) k
          (subst (λ (ps : List Part). Leads n (parts start all) m ps) (parts_on parts part next all i x s is lt at) g.leads) step.0);
      within = step.1;
      holds = subst After (sym e) step.2;
    }

stops_on : (n : ℕ) (whole : List Part) (m : ℕ) (part more : List Part) (e : FrontError) → Leads n whole m (part ++ more) → Stops m part e → Stops n whole e
stops_on n whole m part more (Refused r) a b = refused_on n whole m part more r a b
stops_on n whole m part more NoMemory a b = tt

pub goes_stops : {X S : Type 0} (parts : S → List X → List Part) (part : S → X → List Part) (next : S → X → S) (start : S) (all : List X) (n : ℕ) (Holds : S → Type 0) (i m : ℕ) (x : X) (e : FrontError)
    → ((s : S) (x : X) (left : List X) → parts s (x ∷ left) ≡ part s x ++ parts (next s x) left) → i < length all → x ≡ get_or all i x
    → Goes parts next start all n Holds i m → ((s : S) → Holds s → Stops m (part s x) e) → Stops n (parts start all) e
goes_stops parts part next start all n Holds i m x e is lt at g f =
    let s = after_all next start (take i all) in
    stops_on n (parts start all) m (part s x) (parts (next s x) (drop (i + 1) all)) e
    (subst (λ (ps : List Part). Leads n (parts start all) m ps) (parts_on parts part next all i x s is lt at) g.leads) (f s g.holds)

pub goes_end : {X S : Type 0} (parts : S → List X → List Part) (next : S → X → S) (start : S) (all : List X) (n : ℕ) (Holds : S → Type 0) (i m : ℕ)
    → ((s : S) → parts s [] ≡ []) → length all ≤ i → Goes parts next start all n Holds i m
    → Leads n (parts start all) m [] × (m ≤ 65535) × Holds (after_all next start all)
goes_end parts next start all n Holds i m is end g = (
  subst (λ (ps : List Part). Leads n (parts start all) m ps) (ap (parts (after_all next start (take i all))) (drop_all i all end) ∙ is _) g.leads,
  g.within,
  subst (λ (xs : List _). Holds (after_all next start xs)) (take_all i all end) g.holds,
)
