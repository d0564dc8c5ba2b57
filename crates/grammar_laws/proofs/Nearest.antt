-- A part that is there where its first token follows.
use Rattle.std.proofs.Common.{◌≡◌, ℕ, suc, ◌<◌, ◌≤◌, Bool, true, false, List, [], ◌∷◌, ◌++◌, length, Ok, Err, refl, sym, ap, subst, ◌∙◌, inl, inr}
use Rattle.std.specs.Prelude.{◌⊎◌}
use Rattle.grammar_laws.specs.declared.fault.Fault.{Fault}
use Rattle.grammar_laws.specs.declared.fault.Fault.TheVariants.{Stop}
use Rattle.grammar_laws.specs.declared.fault.Why.{Why}
use Rattle.grammar_laws.specs.declared.fault.Why.TheVariants.{Syntax, Depth}
use Rattle.grammar_laws.specs.Words.{member, begins, bare, Cell, Within}
use Rattle.grammar_laws.specs.Languages as g
use Rattle.grammar_laws.specs.Languages.{Lang, sequence, choice}
use Rattle.grammar_laws.specs.Readers.{Parser, and_then}
use Rattle.grammar_laws.proofs.Sets.{begins_none, Alike, Agree-alike}
use Rattle.std.proofs.Common.{Option, Some, None}
use Rattle.grammar_laws.proofs.Law.{Shape, Took, Completes, Ends, Stops, Least, Opens, Heights, Law, bool_cases, then_ok, then_err, bind_ok, bind_err}
use Rattle.grammar_laws.proofs.Leaf.{ok_parts, ok_same, not_both}
use Rattle.grammar_laws.proofs.Choice.{either_first, either_second, begins_again, begins_alike, keeps_left}
use Rattle.grammar_laws.specs.Readers.{maybe}

module _ (T A : Type 0) (code : T → ℕ) (f1 : List ℕ) (p : Parser T A) where
  abbrev found : A → Parser T (Option A)
  found a s = Ok (Some a, s)

  abbrev near : Parser T (Option A)
  near = maybe code f1 p

  near_first : (ts : List T) → begins code f1 ts ≡ true → near ts ≡ and_then (p ts) found
  near_first ts b = either_first code f1 (λ ts. and_then (p ts) found) (λ ts. Ok (None, ts)) ts b

  near_none : (ts : List T) → begins code f1 ts ≡ false → near ts ≡ Ok (None, ts)
  near_none ts b = either_second code f1 (λ ts. and_then (p ts) found) (λ ts. Ok (None, ts)) ts b

  near_some : (ts : List T) (a : A) (rest : List T) → begins code f1 ts ≡ true → p ts ≡ Ok (a, rest) → near ts ≡ Ok (Some a, rest)
  near_some ts a rest b e = near_first ts b ∙ then_ok (p ts) found a rest e

  near_stop : (ts : List T) (d : Fault) → begins code f1 ts ≡ true → p ts ≡ Err d → near ts ≡ Err d
  near_stop ts d b e = near_first ts b ∙ then_err (p ts) found d e

  near_ok : (ts : List T) (o : Option A) (rest : List T) → near ts ≡ Ok (o, rest)
      → ((begins code f1 ts ≡ true) × ((a : A) × (p ts ≡ Ok (a, rest)) × (Some a ≡ o))) ⊎ ((begins code f1 ts ≡ false) × (None ≡ o) × (ts ≡ rest))
  near_ok ts o rest e = elim (bool_cases (begins code f1 ts)) [
    | inr b ↦ let x = ok_parts None o ts rest (near ts) (near_none ts b) e in inr (b, x.0, x.1)
    | inl b ↦
        let x = bind_ok (p ts) found (o, rest) (sym (near_first ts b) ∙ e) in
        let y = ok_same (Some x.0.0) o x.0.1 rest x.2 in
        inl (b, (x.0.0, x.1 ∙ ap (λ (r : List T). Ok (x.0.0, r)) y.1, y.0))
  ]

  near_err : (ts : List T) (d : Fault) → near ts ≡ Err d → (begins code f1 ts ≡ true) × (p ts ≡ Err d)
  near_err ts d e = elim (bool_cases (begins code f1 ts)) [
    | inr b ↦ not_both _ (None, ts) d (near ts) (near_none ts b) e
    | inl b ↦ elim (bind_err (p ts) found d (sym (near_first ts b) ∙ e)) [
      | inl x ↦ (b, x)
      | inr x ↦ not_both _ (Some x.0.0, x.0.1) d (Ok (Some x.0.0, x.0.1)) refl x.2
    ]
  ]

near_starts : {T : Type 0} (code : T → ℕ) {A : Type 0} (depth : ℕ) (f1 g1 : List ℕ) (l : Lang T A) (d : ℕ) → Shape code depth false f1 g1 (l d)
    → (c : Cell T) (w : List (Cell T)) (r : List T) (o : Option A) → g.nearest code f1 l d (c ∷ w) r o → (member f1 (code c.0) ≡ true) × (depth ≤ c.1)
unfolding g.nearest
near_starts {T} code depth f1 g1 l d s c w r None x = absurd (let e = x.0 in cc)
near_starts {T} code depth f1 g1 l d s c w r (Some a) x = s.starts c w r a x

near_keeps : {T : Type 0} (code : T → ℕ) {A : Type 0} (depth : ℕ) (f1 g1 : List ℕ) (l : Lang T A) (d : ℕ) → Shape code depth false f1 g1 (l d)
    → (w : List (Cell T)) (r s : List T) (o : Option A) → g.nearest code f1 l d w r o → Alike r s ⊎ (begins code (g1 ++ f1) s ≡ false) → g.nearest code f1 l d w s o
unfolding g.nearest
near_keeps {T} code depth f1 g1 l d sh w r s (Some a) x h = sh.keeps w r s a x (keeps_left code g1 f1 s (Alike r s) h)
near_keeps {T} code depth f1 g1 l d sh w r s None x (inl like) = (x.0, sym (begins_alike code f1 r s like) ∙ x.1)
near_keeps {T} code depth f1 g1 l d sh w r s None x (inr e) = (x.0, (begins_none code g1 f1 s e).1)

pub near_shape : {T : Type 0} {code : T → ℕ} {A : Type 0} {depth : ℕ} {f1 g1 : List ℕ} (l : Lang T A) (d : ℕ) → Shape code depth false f1 g1 (l d) → Shape code depth true f1 (g1 ++ f1) (g.nearest code f1 l d)
near_shape {T} {code} {A} {depth} {f1} {g1} l d s = record {
  empty = λ r o x. refl;
  starts = near_starts code depth f1 g1 l d s;
  keeps = near_keeps code depth f1 g1 l d s;
}

module _ (T A : Type 0) (code : T → ℕ) (Tall : Heights) (limit depth : ℕ) (o : Bool) (f1 c1 g1 : List ℕ) (p : Parser T A) (l : ℕ → Lang T A) (d : ℕ)
    (P : Law code Tall limit depth false o f1 c1 g1 p (λ h. l h d)) where
  near_least : (h : ℕ) → Tall.some h → Least true (g.nearest code f1 (l h) d)
  unfolding g.nearest
  near_least h tall = record { word = []; empty = λ e. refl; value = None; derived = (refl, refl) }

  near_opens : (h : ℕ) → Tall.some h → o ≡ true → Opens code (g.nearest code f1 (l h) d) f1
  unfolding g.nearest
  near_opens h some e t b = let x = P.opens h some e t b in (x.0, x.1, Some x.2, x.3)

  near_sound : (h : ℕ) → Tall.tall h → (ts : List T) (o : Option A) (rest : List T) → maybe code f1 p ts ≡ Ok (o, rest) → Took limit (g.nearest code f1 (l h) d) ts o rest
  unfolding g.nearest
  near_sound h tall ts o rest e = elim (near_ok T A code f1 p ts o rest e) [
    | inl x ↦
        let t1 = P.sound h tall ts x.1.0 rest x.1.1 in
        subst (λ (o : Option A). Took limit (g.nearest code f1 (l h) d) ts o rest) x.1.2 (record { word = t1.word; whole = t1.whole; within = t1.within; derived = t1.derived })
    | inr x ↦
        subst (λ (o : Option A). Took limit (g.nearest code f1 (l h) d) ts o rest) x.1
        (record { word = []; whole = x.2; within = tt; derived = (refl, subst (λ (r : List T). begins code f1 r ≡ false) x.2 x.0) })
  ]

  starts_item : (h : ℕ) (w : List (Cell T)) (r rest : List T) (a : A) → l h d w r a → begins code f1 (bare w ++ rest) ≡ true
  starts_item h [] r rest a x = let off : false ≡ true = (P.shape h).empty r a x in absurd cc
  starts_item h (c ∷ w) r rest a x = ((P.shape h).starts c w r a x).0

  near_complete : (h : ℕ) (w : List (Cell T)) (rest : List T) (o : Option A) → g.nearest code f1 (l h) d w rest o → begins code c1 rest ≡ false → Completes Tall.tall limit w rest o (maybe code f1 p (bare w ++ rest))
  unfolding g.nearest
  near_complete h w rest None x stops = inl (ap (λ (w : List (Cell T)). maybe code f1 p (bare w ++ rest)) x.0 ∙ near_none T A code f1 p rest x.1, λ k tall. subst (Within limit) (sym x.0) tt)
  near_complete h w rest (Some a) x stops =
      let b = starts_item h w rest rest a x in
      elim (P.complete h w rest a x stops) [
        | inl ok ↦ inl (near_some T A code f1 p (bare w ++ rest) a rest b ok.0, ok.1)
        | inr dives ↦ inr (record {
          front = dives.front;
          deep = dives.deep;
          back = dives.back;
          parts = dives.parts;
          shallow = dives.shallow;
          over = dives.over;
          is_stop = near_stop T A code f1 p (bare w ++ rest) (Stop Depth (suc (length (bare dives.back ++ rest)))) b dives.is_stop;
        })
      ]

  near_ends : (ts : List T) (o : Option A) (rest : List T) → maybe code f1 p ts ≡ Ok (o, rest) → Ends (maybe code f1 p) ts o rest
  near_ends ts o rest e = elim (near_ok T A code f1 p ts o rest e) [
    | inl x ↦
        let t1 = P.ends ts x.1.0 rest x.1.1 in
        record {
          front = t1.front;
          whole = t1.whole;
          again = λ s like. near_some T A code f1 p (t1.front ++ s) x.1.0 s (begins_again code f1 ts t1.front rest s true t1.whole like x.0) (t1.again s like) ∙ ap (λ (o : Option A). Ok (o, s)) x.1.2;
        }
    | inr x ↦ record {
      front = [];
      whole = x.2;
      again = λ s like. near_none T A code f1 p s (begins_again code f1 ts [] rest s false x.2 like x.0) ∙ ap (λ (o : Option A). Ok (o, s)) x.1;
    }
  ]

  near_stops : (h : ℕ) → Tall.tall h → (ts : List T) (why : Why) (n : ℕ) → maybe code f1 p ts ≡ Err (Stop why n) → Stops limit (maybe code f1 p) (g.nearest code f1 (l h) d) ts why n
  unfolding g.nearest
  near_stops h tall ts why n e =
      let x = near_err T A code f1 p ts (Stop why n) e in
      let y = P.stops h tall ts why n x.1 in
      let t1 = y.halts in
      let v = y.viable in
      record {
        two = y.two;
        halts = record {
          front = t1.front;
          rest = t1.rest;
          whole = t1.whole;
          left = t1.left;
          again = λ s agree.
              near_stop T A code f1 p (t1.front ++ s) (Stop why (length s)) (begins_again code f1 ts t1.front t1.rest s true t1.whole (Agree-alike y.two t1.rest s agree) x.0) (t1.again s agree);
        };
        viable = record { word = v.word; rest = v.rest; whole = v.whole; left = v.left; within = v.within; more = v.more; goes = v.goes; value = Some v.value; derived = v.derived };
      }

  near_commits : (h : ℕ) → Tall.tall h → (ts : List T) (k : ℕ) → maybe code f1 p ts ≡ Err (Stop Syntax k) → k < length ts
  near_commits h tall ts k e = let x = near_err T A code f1 p ts (Stop Syntax k) e in P.commits h tall ts k (inr x.0) x.1

  near_moves : (ts : List T) (o : Option A) (rest : List T) → (true ≡ false) ⊎ (begins code f1 ts ≡ true) → maybe code f1 p ts ≡ Ok (o, rest) → length rest < length ts
  near_moves ts o rest (inl t) e = absurd cc
  near_moves ts o rest (inr b) e = elim (near_ok T A code f1 p ts o rest e) [
    | inl x ↦ P.moves ts x.1.0 rest (inl refl) x.1.1
    | inr x ↦ let off : false ≡ true = sym x.0 ∙ b in absurd cc
  ]

pub nearest : {T : Type 0} {code : T → ℕ} {A : Type 0} {Tall : Heights} {limit depth : ℕ} {n1 o1 : Bool} {f1 c1 g1 : List ℕ} {p : Parser T A} (codes : List ℕ) (l : ℕ → Lang T A) (d : ℕ)
    → Law code Tall limit depth n1 o1 f1 c1 g1 p (λ h. l h d) → n1 ≡ false → f1 ≡ codes
    → Law code Tall limit depth true o1 codes c1 (g1 ++ codes) (maybe code codes p) (λ h. g.nearest code codes (l h) d)
nearest {T} {code} {A} {Tall} {limit} {depth} {n1} {o1} {f1} {c1} {g1} {p} codes l d P' none same =
    let P = subst (λ (f : List ℕ). Law code Tall limit depth false o1 f c1 g1 p (λ h. l h d)) same (subst (λ (b : Bool). Law code Tall limit depth b o1 f1 c1 g1 p (λ h. l h d)) none P') in
    record {
      shape = λ h. near_shape (l h) d (P.shape h);
      least = near_least T A code Tall limit depth o1 codes c1 g1 p l d P;
      opens = near_opens T A code Tall limit depth o1 codes c1 g1 p l d P;
      sound = near_sound T A code Tall limit depth o1 codes c1 g1 p l d P;
      complete = near_complete T A code Tall limit depth o1 codes c1 g1 p l d P;
      ends = near_ends T A code Tall limit depth o1 codes c1 g1 p l d P;
      stops = near_stops T A code Tall limit depth o1 codes c1 g1 p l d P;
      commits = λ h tall ts k o e. near_commits T A code Tall limit depth o1 codes c1 g1 p l d P h tall ts k e;
      moves = near_moves T A code Tall limit depth o1 codes c1 g1 p l d P;
    }
