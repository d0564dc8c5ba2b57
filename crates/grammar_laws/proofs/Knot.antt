-- Where the depth ends, and one level more.
use Rattle.std.proofs.Common.{◌≡◌, ◌∙◌, ap, cond, ℕ, Bool, suc, ◌<◌, ◌≤◌, true, false, List, [], ◌∷◌, ◌++◌, length, Ok, Err, refl, sym, subst, arith, inl, inr}
use Rattle.std.specs.Prelude.{◌⊎◌}
use Rattle.grammar_laws.specs.declared.fault.Fault.{Fault}
use Rattle.grammar_laws.specs.declared.fault.Fault.TheVariants.{Stop}
use Rattle.grammar_laws.specs.declared.fault.Why.{Why}
use Rattle.grammar_laws.specs.declared.fault.Why.TheVariants.{Syntax, Depth}
use Rattle.grammar_laws.specs.Words.{begins, bare, Cell}
use Rattle.grammar_laws.proofs.Law.{Words, Shape, Completes, Stops, Least, Opens, Heights, Law, bool_cases}
use Rattle.grammar_laws.proofs.Settle.{grow, lower, subset_same}
use Rattle.grammar_laws.proofs.Leaf.{not_both, stop_parts}
use Rattle.grammar_laws.proofs.Sets.{Agree-alike}
use Rattle.grammar_laws.proofs.Choice.{either_first, either_second, begins_again}
use Rattle.grammar_laws.specs.Readers.{Outcome, either, stop, too_deep, fault_at}

deep_at : {T : Type 0} (code : T → ℕ) {A : Type 0} (codes : List ℕ) (ts : List T) → begins code codes ts ≡ true → too_deep {A = A} code codes ts ≡ Err (Stop Depth (length ts))
deep_at {T} code {A} codes ts b = either_first code codes (stop {A = A} Depth) (stop Syntax) ts b

flat_at : {T : Type 0} (code : T → ℕ) {A : Type 0} (codes : List ℕ) (ts : List T) → begins code codes ts ≡ false → too_deep {A = A} code codes ts ≡ Err (Stop Syntax (length ts))
flat_at {T} code {A} codes ts b = either_second code codes (stop {A = A} Depth) (stop Syntax) ts b

-- the answer of code that has no level left
pub too_deep_is : {T A : Type 0} (code : T → ℕ) (codes : List ℕ) (ts : List T) (f : Fault) → f ≡ fault_at code codes ts → too_deep {A = A} code codes ts ≡ Err f
unfolding fault_at either
too_deep_is {T} {A} code codes ts f e = go (begins code codes ts) ∙ ap (λ (f : Fault). Err f) (sym e)
  where
    go : (b : Bool) → ◌≡◌ {A = Outcome T A} (cond b (Err (Stop Depth (length ts))) (Err (Stop Syntax (length ts)))) (Err (cond b (Stop Depth (length ts)) (Stop Syntax (length ts))))
    go true = refl
    go false = refl

-- where no depth is left, each word is too deep at its first token
module _ (T A : Type 0) (code : T → ℕ) (Tall : Heights) (limit depth : ℕ) (f g1 : List ℕ) (words : ℕ → Words T A) (shape : (h : ℕ) → Shape code depth false f g1 (words h)) (over : limit < depth)
    (least : (h : ℕ) → Tall.some h → Least false (words h)) (o : Bool) (opens : (h : ℕ) → Tall.some h → o ≡ true → Opens code (words h) f) (is_open : (h : ℕ) → Tall.tall h → o ≡ true) where
  stops_only : (P : Type 0) (ts : List T) (x : A × List T) → too_deep code f ts ≡ Ok x → P
  stops_only P ts x e = elim (bool_cases (begins code f ts)) [
    | inl b ↦ not_both P x (Stop Depth (length ts)) (too_deep code f ts) e (deep_at code f ts b)
    | inr b ↦ not_both P x (Stop Syntax (length ts)) (too_deep code f ts) e (flat_at code f ts b)
  ]

  end_complete : (h : ℕ) (w : List (Cell T)) (rest : List T) (a : A) → words h w rest a → begins code [] rest ≡ false → Completes Tall.tall limit w rest a (too_deep code f (bare w ++ rest))
  end_complete h [] rest a x stops = let off : false ≡ true = (shape h).empty rest a x in absurd cc
  end_complete h (c ∷ w) rest a x stops =
      let s = (shape h).starts c w rest a x in
      let at : depth ≤ c.1 = s.1 in
      inr (record { front = []; deep = c; back = w; parts = refl; shallow = λ k tall. tt; over = omega arith; is_stop = deep_at code f (bare (c ∷ w) ++ rest) s.0 })

  deep_stops : (h : ℕ) → Tall.tall h → (ts : List T) (n : ℕ) → begins code f ts ≡ true → length ts ≡ n → Stops limit (too_deep {A = A} code f) (words h) ts Depth n
  deep_stops h tall [] n b e = absurd cc
  deep_stops h tall (t ∷ ts) n b e =
      let x = opens h (Tall.is_some h tall) (is_open h tall) t b in
      record {
        two = false;
        halts = record {
          front = [];
          rest = t ∷ ts;
          whole = refl;
          left = sym e;
          again = λ s agree. deep_at code f s (begins_again code f (t ∷ ts) [] (t ∷ ts) s true refl (Agree-alike false (t ∷ ts) s agree) b);
        };
        viable = record { word = []; rest = t ∷ ts; whole = refl; left = sym e; within = tt; more = (t, x.1) ∷ x.0; goes = refl; value = x.2; derived = x.3 };
      }

  flat_stops : (h : ℕ) → Tall.tall h → (ts : List T) (n : ℕ) → begins code f ts ≡ false → length ts ≡ n → Stops limit (too_deep {A = A} code f) (words h) ts Syntax n
  flat_stops h tall ts n b e =
      let y = least h (Tall.is_some h tall) in
      record {
        two = false;
        halts = record {
          front = [];
          rest = ts;
          whole = refl;
          left = sym e;
          again = λ s agree. flat_at code f s (begins_again code f ts [] ts s false refl (Agree-alike false ts s agree) b);
        };
        viable = record { word = []; rest = ts; whole = refl; left = sym e; within = tt; more = y.word; goes = refl; value = y.value; derived = y.derived };
      }

  end_stops : (h : ℕ) → Tall.tall h → (ts : List T) (why : Why) (n : ℕ) → too_deep {A = A} code f ts ≡ Err (Stop why n) → Stops limit (too_deep {A = A} code f) (words h) ts why n
  end_stops h tall ts why n e = elim (bool_cases (begins code f ts)) [
    | inl b ↦
        let x = stop_parts Depth why (length ts) n (too_deep {A = A} code f ts) (deep_at code f ts b) e in
        subst (λ (w : Why). Stops limit (too_deep {A = A} code f) (words h) ts w n) x.0 (deep_stops h tall ts n b x.1)
    | inr b ↦
        let x = stop_parts Syntax why (length ts) n (too_deep {A = A} code f ts) (flat_at code f ts b) e in
        subst (λ (w : Why). Stops limit (too_deep {A = A} code f) (words h) ts w n) x.0 (flat_stops h tall ts n b x.1)
  ]

  end_commits : (h : ℕ) → Tall.tall h → (ts : List T) (k : ℕ) → (false ≡ true) ⊎ (begins code f ts ≡ true) → too_deep {A = A} code f ts ≡ Err (Stop Syntax k) → k < length ts
  end_commits h tall ts k (inl t) e = absurd cc
  end_commits h tall ts k (inr b) e =
      let x = stop_parts Depth Syntax (length ts) k (too_deep {A = A} code f ts) (deep_at code f ts b) e in
      let off = x.0 in absurd cc

  pub depth_end : Law code Tall limit depth false o f [] g1 (too_deep code f) words
  depth_end = record {
    shape = shape;
    least = least;
    opens = opens;
    sound = λ h tall ts a rest e. stops_only _ ts (a, rest) e;
    complete = end_complete;
    ends = λ ts a rest e. stops_only _ ts (a, rest) e;
    stops = end_stops;
    commits = end_commits;
    moves = λ ts a rest h e. stops_only _ ts (a, rest) e;
  }

-- heights that suffice for nothing that is read
abbrev pub unread : (ℕ → Type 0) → Heights
unread some = record { some = some; tall = λ h. ⊥; is_some = λ h x. absurd x }

-- A stand-in for a production at one height, of which only the words count: so the laws of the productions above it give their words' shape, a word, and which tokens begin one.
pub stand_in : {T A : Type 0} {code : T → ℕ} (some : ℕ → Type 0) (o : Bool) (d : ℕ) (f c1 g1 : List ℕ) (words : Words T A) → Shape code (suc d) false f g1 words → ((h : ℕ) → some h → Least false words) → (o ≡ true → (h : ℕ) → some h → Opens code words f)
    → Law code (unread some) d d false o f c1 g1 (too_deep code f) (λ h. words)
stand_in {T} {A} {code} some o d f c1 g1 words s least opens =
    lower d (omega arith) (grow c1 g1 refl (subset_same g1) (depth_end T A code (unread some) d (suc d) f g1 (λ h. words) (λ h. s) (omega arith) least o (λ h k e. opens e h k) (λ h x. absurd x)))
