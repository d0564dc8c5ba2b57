-- A law with larger sets of what may not follow, and of the same words put otherwise.
use Rattle.std.proofs.Common.{◌≡◌, ℕ, zero, suc, ◌<◌, ◌≤◌, Bool, true, false, List, [], ◌∷◌, ◌++◌, length, Ok, Err, refl, sym, subst, ◌∙◌, arith, inl, inr}
use Rattle.std.specs.Prelude.{◌⊎◌, ◌==◌, ◌&&◌}
use Rattle.std.proofs.lemmas.Bool.{eqb-true, eq-eqb}
use Rattle.grammar_laws.specs.declared.fault.Fault.TheVariants.{Stop}
use Rattle.grammar_laws.specs.declared.fault.Why.{Why}
use Rattle.grammar_laws.specs.declared.fault.Why.TheVariants.{Syntax}
use Rattle.grammar_laws.specs.Words.{member, begins, bare, Cell}
use Rattle.grammar_laws.specs.Readers.{Outcome, Parser}
use Rattle.grammar_laws.proofs.Sets.{or_true, and_true, member_right, Alike}
use Rattle.grammar_laws.proofs.Law.{Words, Shape, Took, Completes, Stops, Least, Opens, Heights, Law}

abbrev pub subset : List ℕ → List ℕ → Bool
subset [] ys = true
subset (x ∷ xs) ys = member ys x && subset xs ys

pub member_subset : (xs ys : List ℕ) (c : ℕ) → subset xs ys ≡ true → member xs c ≡ true → member ys c ≡ true
member_subset [] ys c s m = absurd cc
member_subset (x ∷ xs) ys c s m =
    let both = and_true (member ys x) (subset xs ys) s in
    elim (or_true (x == c) (member xs c) m) [
      | inl e ↦ let same : x ≡ c = eqb-true x c e in subst (λ (k : ℕ). member ys k ≡ true) same both.0
      | inr e ↦ member_subset xs ys c both.1 e
    ]

subset_none : {T : Type 0} (code : T → ℕ) (xs ys : List ℕ) (r : List T) → subset xs ys ≡ true → begins code ys r ≡ false → begins code xs r ≡ false
subset_none {T} code xs ys [] s e = refl
subset_none {T} code xs ys (t ∷ ts) s e = go (member xs (code t)) refl
  where
    go : (b : Bool) → member xs (code t) ≡ b → b ≡ false
    go true m = sym (member_subset xs ys (code t) s m) ∙ e
    go false m = refl

pub member_head : (x : ℕ) (xs : List ℕ) → member (x ∷ xs) x ≡ true
member_head x xs = rw (eq-eqb x x refl) refl

subset_more : (x : ℕ) (xs ys : List ℕ) → subset xs ys ≡ true → subset xs (x ∷ ys) ≡ true
subset_more x [] ys e = refl
subset_more x (y ∷ xs) ys e =
    let both = and_true (member ys y) (subset xs ys) e in
    let one : member (x ∷ ys) y ≡ true = member_right (x ∷ []) ys y both.0 in
    rw (one, subset_more x xs ys both.1) refl

pub subset_same : (xs : List ℕ) → subset xs xs ≡ true
subset_same [] = refl
subset_same (x ∷ xs) = rw (member_head x xs, subset_more x xs xs (subset_same xs)) refl

keeps_less : {T : Type 0} (code : T → ℕ) (xs ys : List ℕ) (r : List T) (P : Type 0) → subset xs ys ≡ true → P ⊎ (begins code ys r ≡ false) → P ⊎ (begins code xs r ≡ false)
keeps_less {T} code xs ys r P s (inl h) = inl h
keeps_less {T} code xs ys r P s (inr e) = inr (subset_none code xs ys r s e)

pub grow_shape : {T : Type 0} {code : T → ℕ} {A : Type 0} {depth : ℕ} {n : Bool} {f g1 : List ℕ} {l : Words T A} (g2 : List ℕ) → subset g1 g2 ≡ true → Shape code depth n f g1 l → Shape code depth n f g2 l
grow_shape {T} {code} {g1 = g1} g2 s sh = record {
  empty = sh.empty;
  starts = sh.starts;
  keeps = λ w r t a x h. sh.keeps w r t a x (keeps_less code g1 g2 t (Alike r t) s h);
}

pub grow : {T : Type 0} {code : T → ℕ} {A : Type 0} {Tall : Heights} {limit depth : ℕ} {n o : Bool} {f c1 g1 : List ℕ} {p : Parser T A} {l : ℕ → Words T A} (c2 g2 : List ℕ)
    → subset c1 c2 ≡ true → subset g1 g2 ≡ true → Law code Tall limit depth n o f c1 g1 p l → Law code Tall limit depth n o f c2 g2 p l
grow {T} {code} {c1 = c1} {g1 = g1} c2 g2 sc sg P = record {
  shape = λ h. grow_shape g2 sg (P.shape h);
  least = P.least;
  opens = P.opens;
  sound = P.sound;
  complete = λ h w rest a x stops. P.complete h w rest a x (subset_none code c1 c2 rest sc stops);
  ends = P.ends;
  stops = P.stops;
  commits = P.commits;
  moves = P.moves;
}

subset_some : {T : Type 0} (code : T → ℕ) (xs ys : List ℕ) (r : List T) → subset xs ys ≡ true → begins code xs r ≡ true → begins code ys r ≡ true
subset_some code xs ys [] s e = absurd cc
subset_some code xs ys (t ∷ ts) s e = member_subset xs ys (code t) s e

-- the codes with which words begin, in another order
pub reorder : {T A : Type 0} {code : T → ℕ} {Tall : Heights} {limit depth : ℕ} {n o : Bool} {f c1 g1 : List ℕ} {p : Parser T A} {l : ℕ → Words T A} (f2 : List ℕ)
    → subset f f2 ≡ true → subset f2 f ≡ true → Law code Tall limit depth n o f c1 g1 p l → Law code Tall limit depth n o f2 c1 g1 p l
reorder {T} {A} {code} {n = n} {f = f} f2 to back P = record {
  shape = λ h. record {
    empty = (P.shape h).empty;
    keeps = (P.shape h).keeps;
    starts = λ c w r a x. let s = (P.shape h).starts c w r a x in (member_subset f f2 (code c.0) to s.0, s.1);
  };
  least = P.least;
  opens = λ h some o t m. P.opens h some o t (member_subset f2 f (code t) back m);
  sound = P.sound;
  complete = P.complete;
  ends = P.ends;
  stops = P.stops;
  commits = λ h tall ts k o e. P.commits h tall ts k (elim o [ inl t ↦ inl t | inr b ↦ inr (subset_some code f2 f ts back b) ]) e;
  moves = λ ts a rest o e. P.moves ts a rest (elim o [ inl t ↦ inl t | inr b ↦ inr (subset_some code f2 f ts back b) ]) e;
}

module _ (T A : Type 0) (code : T → ℕ) (l m : Words T A) (to : (w : List (Cell T)) (r : List T) (a : A) → l w r a → m w r a) (back : (w : List (Cell T)) (r : List T) (a : A) → m w r a → l w r a) where
  shape_as : (depth : ℕ) (n : Bool) (f g1 : List ℕ) → Shape code depth n f g1 l → Shape code depth n f g1 m
  shape_as depth n f g1 sh = record {
    empty = λ r a x. sh.empty r a (back [] r a x);
    starts = λ c w r a x. sh.starts c w r a (back (c ∷ w) r a x);
    keeps = λ w r s a x h. to w s a (sh.keeps w r s a (back w r a x) h);
  }

  least_as : (n : Bool) → Least n l → Least n m
  least_as n x = record { word = x.word; empty = x.empty; value = x.value; derived = to x.word [] x.value x.derived }

  opens_as : (first : List ℕ) → Opens code l first → Opens code m first
  opens_as first h t b = let x = h t b in (x.0, x.1, x.2, to ((t, x.1) ∷ x.0) [] x.2 x.3)

  took_as : (limit : ℕ) (ts : List T) (a : A) (rest : List T) → Took limit l ts a rest → Took limit m ts a rest
  took_as limit ts a rest x = record { word = x.word; whole = x.whole; within = x.within; derived = to x.word rest a x.derived }

  stops_as : (limit : ℕ) (p : Parser T A) (ts : List T) (why : Why) (n : ℕ) → Stops limit p l ts why n → Stops limit p m ts why n
  stops_as limit p ts why n y =
      let x = y.viable in
      record {
        two = y.two;
        halts = y.halts;
        viable = record { word = x.word; rest = x.rest; whole = x.whole; left = x.left; within = x.within; more = x.more; goes = x.goes; value = x.value; derived = to (x.word ++ x.more) [] x.value x.derived };
      }

pub restate : {T : Type 0} {code : T → ℕ} {A : Type 0} {Tall : Heights} {limit depth : ℕ} {n o : Bool} {f c1 g1 : List ℕ} {p : Parser T A} {l m : ℕ → Words T A}
    → ((h : ℕ) (w : List (Cell T)) (r : List T) (a : A) → l h w r a → m h w r a) → ((h : ℕ) (w : List (Cell T)) (r : List T) (a : A) → m h w r a → l h w r a)
    → Law code Tall limit depth n o f c1 g1 p l → Law code Tall limit depth n o f c1 g1 p m
restate {T} {code} {A} {Tall} {limit} {depth} {n} {o} {f} {c1} {g1} {p} {l} {m} to back P = record {
  shape = λ h. shape_as T A code (l h) (m h) (to h) (back h) depth n f g1 (P.shape h);
  least = λ h tall. least_as T A code (l h) (m h) (to h) (back h) n (P.least h tall);
  opens = λ h some b. opens_as T A code (l h) (m h) (to h) (back h) f (P.opens h some b);
  sound = λ h tall ts a rest e. took_as T A code (l h) (m h) (to h) (back h) limit ts a rest (P.sound h tall ts a rest e);
  complete = λ h w rest a x stops. P.complete h w rest a (back h w rest a x) stops;
  ends = P.ends;
  stops = λ h tall ts why k e. stops_as T A code (l h) (m h) (to h) (back h) limit p ts why k (P.stops h tall ts why k e);
  commits = P.commits;
  moves = P.moves;
}

pub completes_as : {T A : Type 0} {Tall Taller : ℕ → Type 0} {limit : ℕ} {w : List (Cell T)} {rest : List T} {a : A} {o : Outcome T A} → ((h : ℕ) → Taller h → (k : ℕ) × Tall k)
    → Completes Tall limit w rest a o → Completes Taller limit w rest a o
completes_as sub (inl ok) = inl (ok.0, λ h tall. let k = sub h tall in ok.1 k.0 k.1)
completes_as sub (inr dives) = inr (record {
  front = dives.front;
  deep = dives.deep;
  back = dives.back;
  parts = dives.parts;
  shallow = λ h tall. let k = sub h tall in dives.shallow k.0 k.1;
  over = dives.over;
  is_stop = dives.is_stop;
})

-- Words that are those of a body one level lower; Up holds where Tall holds of the level below.
abbrev pub Above : (ℕ → Type 0) → ℕ → Type 0
Above P zero = ⊥
Above P (suc h) = P h

pub above_some : (Tall : Heights) (h : ℕ) → Above Tall.tall h → Above Tall.some h
above_some Tall zero x = absurd x
above_some Tall (suc h) x = Tall.is_some h x

abbrev pub Up : Heights → Heights
Up Tall = record { some = Above Tall.some; tall = Above Tall.tall; is_some = above_some Tall }

module _ (T A : Type 0) (code : T → ℕ) (Tall : Heights) (limit depth : ℕ) (n o : Bool) (f c1 g1 : List ℕ) (p : Parser T A) (low l : ℕ → Words T A) (P : Law code Tall limit depth n o f c1 g1 p low)
    (none : (w : List (Cell T)) (r : List T) (a : A) → l zero w r a → ⊥)
    (to : (h : ℕ) (w : List (Cell T)) (r : List T) (a : A) → low h w r a → l (suc h) w r a) (back : (h : ℕ) (w : List (Cell T)) (r : List T) (a : A) → l (suc h) w r a → low h w r a) where
  up_shape : (h : ℕ) → Shape code depth n f g1 (l h)
  up_shape zero = record { empty = λ r a x. absurd (none [] r a x); starts = λ c w r a x. absurd (none (c ∷ w) r a x); keeps = λ w r s a x h. absurd (none w r a x) }
  up_shape (suc h) = shape_as T A code (low h) (l (suc h)) (to h) (back h) depth n f g1 (P.shape h)

  up_least : (h : ℕ) → Above Tall.some h → Least n (l h)
  up_least zero tall = absurd tall
  up_least (suc h) tall = least_as T A code (low h) (l (suc h)) (to h) (back h) n (P.least h tall)

  up_opens : (h : ℕ) → Above Tall.some h → o ≡ true → Opens code (l h) f
  up_opens zero some b = absurd some
  up_opens (suc h) some b = opens_as T A code (low h) (l (suc h)) (to h) (back h) f (P.opens h some b)

  up_sound : (h : ℕ) → Above Tall.tall h → (ts : List T) (a : A) (rest : List T) → p ts ≡ Ok (a, rest) → Took limit (l h) ts a rest
  up_sound zero tall ts a rest e = absurd tall
  up_sound (suc h) tall ts a rest e = took_as T A code (low h) (l (suc h)) (to h) (back h) limit ts a rest (P.sound h tall ts a rest e)

  up_complete : (h : ℕ) (w : List (Cell T)) (rest : List T) (a : A) → l h w rest a → begins code c1 rest ≡ false → Completes (Above Tall.tall) limit w rest a (p (bare w ++ rest))
  up_complete zero w rest a x stops = absurd (none w rest a x)
  up_complete (suc h) w rest a x stops = completes_as below (P.complete h w rest a (back h w rest a x) stops)
    where
      below : (h : ℕ) → Above Tall.tall h → (k : ℕ) × Tall.tall k
      below zero tall = absurd tall
      below (suc k) tall = (k, tall)

  up_stops : (h : ℕ) → Above Tall.tall h → (ts : List T) (why : Why) (k : ℕ) → p ts ≡ Err (Stop why k) → Stops limit p (l h) ts why k
  up_stops zero tall ts why k e = absurd tall
  up_stops (suc h) tall ts why k e = stops_as T A code (low h) (l (suc h)) (to h) (back h) limit p ts why k (P.stops h tall ts why k e)

  up_commits : (h : ℕ) → Above Tall.tall h → (ts : List T) (k : ℕ) → (n ≡ true) ⊎ (begins code f ts ≡ true) → p ts ≡ Err (Stop Syntax k) → k < length ts
  up_commits zero tall ts k o e = absurd tall
  up_commits (suc h) tall ts k o e = P.commits h tall ts k o e

  pub up : Law code (Up Tall) limit depth n o f c1 g1 p l
  up = record { shape = up_shape; least = up_least; opens = up_opens; sound = up_sound; complete = up_complete; ends = P.ends; stops = up_stops; commits = up_commits; moves = P.moves }

-- what holds from one depth on holds from each lesser one on
pub lower : {T : Type 0} {code : T → ℕ} {A : Type 0} {Tall : Heights} {limit depth : ℕ} {n o : Bool} {f c1 g1 : List ℕ} {p : Parser T A} {l : ℕ → Words T A} (less : ℕ) → less ≤ depth → Law code Tall limit depth n o f c1 g1 p l → Law code Tall limit less n o f c1 g1 p l
lower {T} {code} {depth = depth} less le P = record {
  shape = λ h. record {
    empty = (P.shape h).empty;
    keeps = (P.shape h).keeps;
    starts = λ c w r a x. let s = (P.shape h).starts c w r a x in let at : depth ≤ c.1 = s.1 in (s.0, omega arith);
  };
  least = P.least;
  opens = P.opens;
  sound = P.sound;
  complete = P.complete;
  ends = P.ends;
  stops = P.stops;
  commits = P.commits;
  moves = P.moves;
}

-- the law asks less where fewer heights are tall
pub fewer : {T A : Type 0} {code : T → ℕ} {Tall Taller : Heights} {limit depth : ℕ} {n o : Bool} {f c1 g1 : List ℕ} {p : Parser T A} {l : ℕ → Words T A} → ((h : ℕ) → Taller.some h → Tall.some h) → ((h : ℕ) → Taller.tall h → Tall.tall h)
    → Law code Tall limit depth n o f c1 g1 p l → Law code Taller limit depth n o f c1 g1 p l
fewer sub_some sub P = record {
  shape = P.shape;
  least = λ h t. P.least h (sub_some h t);
  opens = λ h t. P.opens h (sub_some h t);
  sound = λ h t. P.sound h (sub h t);
  complete = λ h w rest a x stops. completes_as (λ k t. (k, sub k t)) (P.complete h w rest a x stops);
  ends = P.ends;
  stops = λ h t. P.stops h (sub h t);
  commits = λ h t. P.commits h (sub h t);
  moves = P.moves;
}
