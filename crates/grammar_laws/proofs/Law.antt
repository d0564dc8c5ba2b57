-- What a parser and the words of a production have to do with each other. One law for each combinator, for any grammar:
--     Leaf.pure, Leaf.word             nothing; a token, with one example of such a token
--     Bind.bind                        one after the other: the second begins with nothing that may not follow the first
--     Choice.choose                    one or the other: they begin differently
--     Many.many, Nearest.nearest       { l }; [ l ] as an `else`
--     ManyThen.many_then               { l } { m } where both may begin with a name; Seconds has what it asks of the two
--     Knot.depth_end, Settle.up        no level is left; one level more
--     Knot.stand_in                    for the shape of words, and which tokens begin one, before the levels are laid
--     Settle.grow, reorder, restate, lower, fewer   larger sets; first codes in another order; the same words put otherwise (Regroup, Shared); a lesser depth; fewer heights
-- A production's law is the production again, `bind _ _ d (word ..) (λ t. ..) refl refl`; the conditions on sets of codes are computed.
use Rattle.std.proofs.Common.{◌≡◌, ℕ, suc, ◌<◌, ◌≤◌, Bool, true, false, List, [], ◌∷◌, ◌++◌, length, Ok, Err, refl, sym, ap, subst, ◌∙◌, inl, inr}
use Rattle.std.specs.Prelude.{◌⊎◌, ◌&&◌}
use Rattle.grammar_laws.specs.declared.fault.Fault.{Fault}
use Rattle.grammar_laws.specs.declared.fault.Fault.TheVariants.{Stop}
use Rattle.grammar_laws.specs.declared.fault.Why.{Why}
use Rattle.grammar_laws.specs.declared.fault.Why.TheVariants.{Syntax, Depth}
use Rattle.grammar_laws.specs.Words.{member, begins, bare, Cell, Within}
use Rattle.grammar_laws.specs.Readers.{Outcome, Parser, and_then}
use Rattle.grammar_laws.proofs.Sets.{disjoint, or_true, member-append, apart, begins_none, Alike, Agree}

-- the words of a production at one depth, before other tokens
abbrev pub Words : Type 0 → Type 0 → Type 1
Words T A = List (Cell T) → List T → A → Type 0

-- How words look: whether there is the empty one, the codes that one begins with, those after which it may go on, and the least depth.
pub record Shape {T A : Type 0} (code : T → ℕ) (depth : ℕ) (n : Bool) (first goes_on : List ℕ) (words : Words T A) : Type 0 where
  pub empty : (r : List T) (a : A) → words [] r a → n ≡ true
  pub starts : (c : Cell T) (w : List (Cell T)) (r : List T) (a : A) → words (c ∷ w) r a → (member first (code c.0) ≡ true) × (depth ≤ c.1)
  pub keeps : (w : List (Cell T)) (r s : List T) (a : A) → words w r a → Alike r s ⊎ (begins code goes_on s ≡ false) → words w s a

pub record Took {T A : Type 0} (limit : ℕ) (words : Words T A) (ts : List T) (a : A) (rest : List T) : Type 0 where
  pub word : List (Cell T)
  pub whole : ts ≡ bare word ++ rest
  pub within : Within limit word
  pub derived : words word rest a

-- a token is deeper than the limit, none before it is, and reading stops there
pub record Dives {T A : Type 0} (Tall : ℕ → Type 0) (limit : ℕ) (w : List (Cell T)) (rest : List T) (o : Outcome T A) : Type 0 where
  pub front : List (Cell T)
  pub deep : Cell T
  pub back : List (Cell T)
  pub parts : w ≡ front ++ deep ∷ back
  pub shallow : (h : ℕ) → Tall h → Within limit front
  pub over : limit < deep.1
  pub is_stop : o ≡ Err (Stop Depth (suc (length (bare back ++ rest))))

-- a word is read to its end, none of it deeper than the limit, or reading stops at its first token that is deeper
abbrev pub Completes : {T A : Type 0} → (ℕ → Type 0) → ℕ → List (Cell T) → List T → A → Outcome T A → Type 0
Completes Tall limit w rest a o = ((o ≡ Ok (a, rest)) × ((h : ℕ) → Tall h → Within limit w)) ⊎ Dives Tall limit w rest o

-- Success takes tokens off the front, whatever comes after the next one.
pub record Ends {T A : Type 0} (p : Parser T A) (ts : List T) (a : A) (rest : List T) : Type 0 where
  pub front : List T
  pub whole : ts ≡ front ++ rest
  pub again : (s : List T) → Alike rest s → p (front ++ s) ≡ Ok (a, s)

-- Stopping leaves tokens, whatever comes after the next one, or where `two` is true after the next two.
pub record Halts {T A : Type 0} (p : Parser T A) (ts : List T) (why : Why) (n : ℕ) (two : Bool) : Type 0 where
  pub front : List T
  pub rest : List T
  pub whole : ts ≡ front ++ rest
  pub left : n ≡ length rest
  pub again : (s : List T) → Agree two rest s → p (front ++ s) ≡ Err (Stop why (length s))

-- how a stop's words go on: where the depth ends, with the tokens that are there, one or two
abbrev pub Goes : {T : Type 0} → Why → Bool → List T → List (Cell T) → Type 0
Goes {T} Syntax two rest more = two ≡ false
Goes {T} Depth two rest more = Agree two rest (bare more)

-- What was read before a stop can be completed.
pub record Viable {T A : Type 0} (limit : ℕ) (words : Words T A) (ts : List T) (why : Why) (n : ℕ) (two : Bool) : Type 0 where
  pub word : List (Cell T)
  pub rest : List T
  pub whole : ts ≡ bare word ++ rest
  pub left : n ≡ length rest
  pub within : Within limit word
  pub more : List (Cell T)
  pub goes : Goes why two rest more
  pub value : A
  pub derived : words (word ++ more) [] value

-- what holds of a stop
pub record Stops {T A : Type 0} (limit : ℕ) (p : Parser T A) (words : Words T A) (ts : List T) (why : Why) (n : ℕ) : Type 0 where
  pub two : Bool
  pub halts : Halts p ts why n two
  pub viable : Viable limit words ts why n two

pub record Least {T A : Type 0} (n : Bool) (words : Words T A) : Type 0 where
  pub word : List (Cell T)
  pub empty : n ≡ true → word ≡ []
  pub value : A
  pub derived : words word [] value

-- each of these tokens begins a word
abbrev pub Opens : {T A : Type 0} → (T → ℕ) → Words T A → List ℕ → Type 0
Opens {T} code words first = (t : T) → member first (code t) ≡ true → (w : List (Cell T)) × (k : ℕ) × (a : _) × words ((t, k) ∷ w) [] a

-- Heights of derivations: those at which some word is known, and those that suffice for all that is read.
pub record Heights : Type 1 where
  pub some : ℕ → Type 0
  pub tall : ℕ → Type 0
  pub is_some : (h : ℕ) → tall h → some h

-- A parser reads the words of a production, by the height of their derivation. `limit` is the depth that it reads to, `depth` the least depth of these words, `n` whether
-- there is the empty one, `o` whether each of `first` is known to begin one, `first` the codes that one begins with, `clash` those that may not follow, `goes_on` those with which a word may go on.
pub record Law {T A : Type 0} (code : T → ℕ) (Tall : Heights) (limit depth : ℕ) (n o : Bool) (first clash goes_on : List ℕ) (p : Parser T A) (words : ℕ → Words T A) : Type 0 where
  pub shape : (h : ℕ) → Shape code depth n first goes_on (words h)
  pub least : (h : ℕ) → Tall.some h → Least n (words h)
  pub opens : (h : ℕ) → Tall.some h → o ≡ true → Opens code (words h) first
  pub sound : (h : ℕ) → Tall.tall h → (ts : List T) (a : A) (rest : List T) → p ts ≡ Ok (a, rest) → Took limit (words h) ts a rest
  pub complete : (h : ℕ) (w : List (Cell T)) (rest : List T) (a : A) → words h w rest a → begins code clash rest ≡ false → Completes Tall.tall limit w rest a (p (bare w ++ rest))
  pub ends : (ts : List T) (a : A) (rest : List T) → p ts ≡ Ok (a, rest) → Ends p ts a rest
  pub stops : (h : ℕ) → Tall.tall h → (ts : List T) (why : Why) (n : ℕ) → p ts ≡ Err (Stop why n) → Stops limit p (words h) ts why n
  -- With a token that it may begin with, or where it may be empty, it doesn't stop at once.
  pub commits : (h : ℕ) → Tall.tall h → (ts : List T) (k : ℕ) → (n ≡ true) ⊎ (begins code first ts ≡ true) → p ts ≡ Err (Stop Syntax k) → k < length ts
  pub moves : (ts : List T) (a : A) (rest : List T) → (n ≡ false) ⊎ (begins code first ts ≡ true) → p ts ≡ Ok (a, rest) → length rest < length ts

-- ---- one after the other

pub bind_ok : {T : Type 0} {A B : Type 0} (o : Outcome T A) (f : A → Parser T B) (y : B × List T) → and_then o f ≡ Ok y → (x : A × List T) × (o ≡ Ok x) × (f x.0 x.1 ≡ Ok y)
unfolding and_then
bind_ok {T} (Ok x) f y e = (x, refl, e)
bind_ok {T} (Err d) f y e = absurd cc

pub bind_err : {T : Type 0} {A B : Type 0} (o : Outcome T A) (f : A → Parser T B) (d : Fault) → and_then o f ≡ Err d → (o ≡ Err d) ⊎ ((x : A × List T) × (o ≡ Ok x) × (f x.0 x.1 ≡ Err d))
unfolding and_then
bind_err {T} (Ok x) f d e = inr (x, refl, e)
bind_err {T} (Err c) f d e = inl (let same : c ≡ d = cc in ap (λ (x : Fault). Err x) same)

pub then_ok : {T : Type 0} {A B : Type 0} (o : Outcome T A) (f : A → Parser T B) (a : A) (rest : List T) → o ≡ Ok (a, rest) → and_then o f ≡ f a rest
unfolding and_then
then_ok {T} o f a rest e = rw e refl

pub then_err : {T : Type 0} {A B : Type 0} (o : Outcome T A) (f : A → Parser T B) (d : Fault) → o ≡ Err d → and_then o f ≡ Err d
unfolding and_then
then_err {T} o f d e = rw e refl

-- the union, where the second may be empty
abbrev pub joined : Bool → List ℕ → List ℕ → List ℕ
joined true xs ys = xs ++ ys
joined false xs ys = ys

abbrev pub firsts : Bool → List ℕ → List ℕ → List ℕ
firsts true xs ys = xs ++ ys
firsts false xs ys = xs

-- where each token that may come first is known to begin a word
abbrev pub opened : Bool → Bool → Bool → Bool → Bool
opened true o1 o2 free = o1 && (o2 && free)
opened false o1 o2 free = o1

-- what comes next does not go on with the first
pub follows : {T : Type 0} (code : T → ℕ) (n : Bool) (first clash1 clash2 : List ℕ) → disjoint first clash1 ≡ true → (v : List (Cell T)) (rest : List T)
    → (v ≡ [] → n ≡ true) → ((c : Cell T) (w : List (Cell T)) → v ≡ c ∷ w → member first (code c.0) ≡ true)
    → begins code (joined n clash1 clash2) rest ≡ false → begins code clash1 (bare v ++ rest) ≡ false
follows {T} code n first clash1 clash2 d [] rest none some e =
    let is_true = none refl in
    (begins_none code clash1 clash2 rest (subst (λ (b : Bool). begins code (joined b clash1 clash2) rest ≡ false) is_true e)).0
follows {T} code n first clash1 clash2 d (c ∷ w) rest none some e = apart first clash1 (code c.0) d (some c w refl)

pub joined_right : {T : Type 0} (code : T → ℕ) (n : Bool) (xs ys : List ℕ) (r : List T) → begins code (joined n xs ys) r ≡ false → begins code ys r ≡ false
joined_right {T} code true xs ys r e = (begins_none code xs ys r e).1
joined_right {T} code false xs ys r e = e

pub starts_at : {T : Type 0} (code : T → ℕ) {A : Type 0} (depth : ℕ) (n : Bool) (first goes_on : List ℕ) (words : Words T A) → Shape code depth n first goes_on words
    → (v : List (Cell T)) (r : List T) (a : A) → words v r a → (c : Cell T) (w : List (Cell T)) → v ≡ c ∷ w → member first (code c.0) ≡ true
starts_at {T} code depth n first goes_on words s v r a x c w e = (s.starts c w r a (subst (λ (v : List (Cell T)). words v r a) e x)).0

pub empty_at : {T : Type 0} (code : T → ℕ) {A : Type 0} (depth : ℕ) (n : Bool) (first goes_on : List ℕ) (words : Words T A) → Shape code depth n first goes_on words
    → (v : List (Cell T)) (r : List T) (a : A) → words v r a → v ≡ [] → n ≡ true
empty_at {T} code depth n first goes_on words s v r a x e = s.empty r a (subst (λ (v : List (Cell T)). words v r a) e x)

pub nil_parts : {T : Type 0} (u v : List (Cell T)) → [] ≡ u ++ v → (u ≡ []) × (v ≡ [])
nil_parts {T} [] v e = (refl, sym e)
nil_parts {T} (c ∷ u) v e = absurd cc

pub bool_cases : (b : Bool) → (b ≡ true) ⊎ (b ≡ false)
bool_cases true = inl refl
bool_cases false = inr refl

pub begins_either : {T : Type 0} (code : T → ℕ) (xs ys : List ℕ) (r : List T) → begins code (xs ++ ys) r ≡ true → (begins code xs r ≡ true) ⊎ (begins code ys r ≡ true)
begins_either {T} code xs ys [] e = inl e
begins_either {T} code xs ys (t ∷ ts) e = or_true (member xs (code t)) (member ys (code t)) (sym (member-append xs ys (code t)) ∙ e)
