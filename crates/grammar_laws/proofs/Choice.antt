-- One or the other.
use Rattle.std.proofs.Common.{◌≡◌, ℕ, ◌<◌, Bool, true, false, List, [], ◌∷◌, ◌++◌, length, Ok, Err, refl, sym, ap, subst, ◌∙◌, inl, inr}
use Rattle.std.specs.Prelude.{◌⊎◌, ◌&&◌}
use Rattle.grammar_laws.specs.declared.fault.Fault.TheVariants.{Stop}
use Rattle.grammar_laws.specs.declared.fault.Why.{Why}
use Rattle.grammar_laws.specs.declared.fault.Why.TheVariants.{Syntax}
use Rattle.grammar_laws.specs.Words.{member, begins, bare, Cell}
use Rattle.grammar_laws.specs.Languages.{Lang, choice}
use Rattle.grammar_laws.specs.Readers.{Outcome, Parser, either}
use Rattle.grammar_laws.proofs.Sets.{disjoint, or_true, and_true, member-append, member_left, member_right, apart, begins_none, Alike, Alike-append, Agree-alike}
use Rattle.grammar_laws.proofs.Law.{Shape, Took, Completes, Ends, Stops, Least, Opens, Heights, Law, joined, joined_right, bool_cases, begins_either}

pub either_first : {T : Type 0} (code : T → ℕ) {A : Type 0} (codes : List ℕ) (p q : Parser T A) (ts : List T) → begins code codes ts ≡ true → either code codes p q ts ≡ p ts
unfolding either
either_first {T} code codes p q ts e = rw e refl

pub either_second : {T : Type 0} (code : T → ℕ) {A : Type 0} (codes : List ℕ) (p q : Parser T A) (ts : List T) → begins code codes ts ≡ false → either code codes p q ts ≡ q ts
unfolding either
either_second {T} code codes p q ts e = rw e refl

pub begins_alike : {T : Type 0} (code : T → ℕ) (f : List ℕ) (r s : List T) → Alike r s → begins code f r ≡ begins code f s
begins_alike {T} code f [] s like = absurd like
begins_alike {T} code f (x ∷ r) [] like = absurd like
begins_alike {T} code f (x ∷ r) (y ∷ s) like = ap (λ (t : T). member f (code t)) like

pub begins_again : {T : Type 0} (code : T → ℕ) (f : List ℕ) (ts front rest s : List T) (b : Bool) → ts ≡ front ++ rest → Alike rest s → begins code f ts ≡ b → begins code f (front ++ s) ≡ b
begins_again {T} code f ts front rest s b e like x = sym (begins_alike code f (front ++ rest) (front ++ s) (Alike-append front rest s like)) ∙ ap (begins code f) (sym e) ∙ x

pub keeps_left : {T : Type 0} (code : T → ℕ) (g1 g2 : List ℕ) (s : List T) (P : Type 0) → P ⊎ (begins code (g1 ++ g2) s ≡ false) → P ⊎ (begins code g1 s ≡ false)
keeps_left {T} code g1 g2 s P (inl h) = inl h
keeps_left {T} code g1 g2 s P (inr e) = inr (begins_none code g1 g2 s e).0

pub keeps_right : {T : Type 0} (code : T → ℕ) (g1 g2 : List ℕ) (s : List T) (P : Type 0) → P ⊎ (begins code (g1 ++ g2) s ≡ false) → P ⊎ (begins code g2 s ≡ false)
keeps_right {T} code g1 g2 s P (inl h) = inl h
keeps_right {T} code g1 g2 s P (inr e) = inr (begins_none code g1 g2 s e).1

pub choice_shape : {T : Type 0} {code : T → ℕ} {A : Type 0} {depth : ℕ} {n2 : Bool} {f1 g1 f2 g2 : List ℕ} (l m : Lang T A) (d : ℕ)
    → Shape code depth false f1 g1 (l d) → Shape code depth n2 f2 g2 (m d) → Shape code depth n2 (f1 ++ f2) (g1 ++ g2) (choice l m d)
unfolding choice
choice_shape {T} {code} {A} {depth} {n2} {f1} {g1} {f2} {g2} l m d s1 s2 = record {
  empty = λ r a x. elim x [ inl y ↦ let off : false ≡ true = s1.empty r a y in absurd cc | inr y ↦ s2.empty r a y ];
  starts = λ c w r a x. elim x [
    | inl y ↦ let q = s1.starts c w r a y in (member_left f1 f2 (code c.0) q.0, q.1)
    | inr y ↦ let q = s2.starts c w r a y in (member_right f1 f2 (code c.0) q.0, q.1)
  ];
  keeps = λ w r s a x h. elim x [
    | inl y ↦ inl (s1.keeps w r s a y (keeps_left code g1 g2 s (Alike r s) h))
    | inr y ↦ inr (s2.keeps w r s a y (keeps_right code g1 g2 s (Alike r s) h))
  ];
}

module _ (T A : Type 0) (code : T → ℕ) (Tall : Heights) (limit depth : ℕ) (n2 o1 o2 : Bool) (f1 c1 g1 f2 c2 g2 : List ℕ) (p q : Parser T A) (l m : ℕ → Lang T A) (d : ℕ)
    (P : Law code Tall limit depth false o1 f1 c1 g1 p (λ h. l h d)) (Q : Law code Tall limit depth n2 o2 f2 c2 g2 q (λ h. m h d)) (apart_firsts : disjoint f2 f1 ≡ true) where
  both : Parser T A
  both = either code f1 p q

  choice_least : (h : ℕ) → Tall.some h → Least n2 (choice (l h) (m h) d)
  unfolding choice
  choice_least h tall = let y = Q.least h tall in record { word = y.word; empty = y.empty; value = y.value; derived = inr y.derived }

  choice_opens : (h : ℕ) → Tall.some h → (o1 && o2) ≡ true → Opens code (choice (l h) (m h) d) (f1 ++ f2)
  unfolding choice
  choice_opens h some o t e =
      let both = and_true o1 o2 o in
      elim (or_true (member f1 (code t)) (member f2 (code t)) (sym (member-append f1 f2 (code t)) ∙ e)) [
        | inl on ↦ let x = P.opens h some both.0 t on in (x.0, x.1, x.2, inl x.3)
        | inr on ↦ let x = Q.opens h some both.1 t on in (x.0, x.1, x.2, inr x.3)
      ]

  choice_sound : (h : ℕ) → Tall.tall h → (ts : List T) (a : A) (rest : List T) → either code f1 p q ts ≡ Ok (a, rest) → Took limit (choice (l h) (m h) d) ts a rest
  unfolding choice
  choice_sound h tall ts a rest e = elim (bool_cases (begins code f1 ts)) [
    | inl b ↦ let x = P.sound h tall ts a rest (sym (either_first code f1 p q ts b) ∙ e) in record { word = x.word; whole = x.whole; within = x.within; derived = inl x.derived }
    | inr b ↦ let x = Q.sound h tall ts a rest (sym (either_second code f1 p q ts b) ∙ e) in record { word = x.word; whole = x.whole; within = x.within; derived = inr x.derived }
  ]

  first_complete : (h : ℕ) (w : List (Cell T)) (rest : List T) (a : A) → l h d w rest a → begins code c1 rest ≡ false → Completes Tall.tall limit w rest a (either code f1 p q (bare w ++ rest))
  first_complete h [] rest a x stops = let off : false ≡ true = (P.shape h).empty rest a x in absurd cc
  first_complete h (c ∷ w) rest a x stops =
      subst (λ (o : Outcome T A). Completes Tall.tall limit (c ∷ w) rest a o) (sym (either_first code f1 p q (bare (c ∷ w) ++ rest) ((P.shape h).starts c w rest a x).0)) (P.complete h (c ∷ w) rest a x stops)

  second_complete : (h : ℕ) (w : List (Cell T)) (rest : List T) (a : A) → m h d w rest a → begins code c2 rest ≡ false → (n2 ≡ true → begins code f1 rest ≡ false) → Completes Tall.tall limit w rest a (either code f1 p q (bare w ++ rest))
  second_complete h [] rest a x stops other =
      subst (λ (o : Outcome T A). Completes Tall.tall limit [] rest a o) (sym (either_second code f1 p q rest (other ((Q.shape h).empty rest a x)))) (Q.complete h [] rest a x stops)
  second_complete h (c ∷ w) rest a x stops other =
      subst (λ (o : Outcome T A). Completes Tall.tall limit (c ∷ w) rest a o) (sym (either_second code f1 p q (bare (c ∷ w) ++ rest) (apart f2 f1 (code c.0) apart_firsts ((Q.shape h).starts c w rest a x).0))) (Q.complete h (c ∷ w) rest a x stops)

  choice_complete : (h : ℕ) (w : List (Cell T)) (rest : List T) (a : A) → choice (l h) (m h) d w rest a → begins code (joined n2 f1 (c1 ++ c2)) rest ≡ false → Completes Tall.tall limit w rest a (either code f1 p q (bare w ++ rest))
  unfolding choice
  choice_complete h w rest a x stops =
      let clashes = begins_none code c1 c2 rest (joined_right code n2 f1 (c1 ++ c2) rest stops) in
      elim x [
        | inl y ↦ first_complete h w rest a y clashes.0
        | inr y ↦ second_complete h w rest a y clashes.1 (λ t. (begins_none code f1 (c1 ++ c2) rest (subst (λ (b : Bool). begins code (joined b f1 (c1 ++ c2)) rest ≡ false) t stops)).0)
      ]

  choice_ends : (ts : List T) (a : A) (rest : List T) → either code f1 p q ts ≡ Ok (a, rest) → Ends (either code f1 p q) ts a rest
  choice_ends ts a rest e = elim (bool_cases (begins code f1 ts)) [
    | inl b ↦
        let x = P.ends ts a rest (sym (either_first code f1 p q ts b) ∙ e) in
        record { front = x.front; whole = x.whole; again = λ s like. either_first code f1 p q (x.front ++ s) (begins_again code f1 ts x.front rest s true x.whole like b) ∙ x.again s like }
    | inr b ↦
        let x = Q.ends ts a rest (sym (either_second code f1 p q ts b) ∙ e) in
        record { front = x.front; whole = x.whole; again = λ s like. either_second code f1 p q (x.front ++ s) (begins_again code f1 ts x.front rest s false x.whole like b) ∙ x.again s like }
  ]

  choice_stops : (h : ℕ) → Tall.tall h → (ts : List T) (why : Why) (n : ℕ) → either code f1 p q ts ≡ Err (Stop why n) → Stops limit (either code f1 p q) (choice (l h) (m h) d) ts why n
  unfolding choice
  choice_stops h tall ts why n e = elim (bool_cases (begins code f1 ts)) [
    | inl b ↦
        let y = P.stops h tall ts why n (sym (either_first code f1 p q ts b) ∙ e) in
        let x = y.halts in
        let v = y.viable in
        record {
          two = y.two;
          halts = record {
            front = x.front;
            rest = x.rest;
            whole = x.whole;
            left = x.left;
            again = λ s agree. either_first code f1 p q (x.front ++ s) (begins_again code f1 ts x.front x.rest s true x.whole (Agree-alike y.two x.rest s agree) b) ∙ x.again s agree;
          };
          viable = record { word = v.word; rest = v.rest; whole = v.whole; left = v.left; within = v.within; more = v.more; goes = v.goes; value = v.value; derived = inl v.derived };
        }
    | inr b ↦
        let y = Q.stops h tall ts why n (sym (either_second code f1 p q ts b) ∙ e) in
        let x = y.halts in
        let v = y.viable in
        record {
          two = y.two;
          halts = record {
            front = x.front;
            rest = x.rest;
            whole = x.whole;
            left = x.left;
            again = λ s agree. either_second code f1 p q (x.front ++ s) (begins_again code f1 ts x.front x.rest s false x.whole (Agree-alike y.two x.rest s agree) b) ∙ x.again s agree;
          };
          viable = record { word = v.word; rest = v.rest; whole = v.whole; left = v.left; within = v.within; more = v.more; goes = v.goes; value = v.value; derived = inr v.derived };
        }
  ]

  second_starts : (b : Bool) (ts : List T) → begins code f1 ts ≡ false → (n2 ≡ b) ⊎ (begins code (f1 ++ f2) ts ≡ true) → (n2 ≡ b) ⊎ (begins code f2 ts ≡ true)
  second_starts b ts e (inl t) = inl t
  second_starts b ts e (inr h) = elim (begins_either code f1 f2 ts h) [ inl x ↦ let off : false ≡ true = sym e ∙ x in absurd cc | inr x ↦ inr x ]

  choice_commits : (h : ℕ) → Tall.tall h → (ts : List T) (k : ℕ) → (n2 ≡ true) ⊎ (begins code (f1 ++ f2) ts ≡ true) → either code f1 p q ts ≡ Err (Stop Syntax k) → k < length ts
  choice_commits h tall ts k o e = elim (bool_cases (begins code f1 ts)) [
    | inl b ↦ P.commits h tall ts k (inr b) (sym (either_first code f1 p q ts b) ∙ e)
    | inr b ↦ Q.commits h tall ts k (second_starts true ts b o) (sym (either_second code f1 p q ts b) ∙ e)
  ]

  choice_moves : (ts : List T) (a : A) (rest : List T) → (n2 ≡ false) ⊎ (begins code (f1 ++ f2) ts ≡ true) → either code f1 p q ts ≡ Ok (a, rest) → length rest < length ts
  choice_moves ts a rest h e = elim (bool_cases (begins code f1 ts)) [
    | inl b ↦ P.moves ts a rest (inl refl) (sym (either_first code f1 p q ts b) ∙ e)
    | inr b ↦ Q.moves ts a rest (second_starts false ts b h) (sym (either_second code f1 p q ts b) ∙ e)
  ]

pub choose : {T : Type 0} {code : T → ℕ} {A : Type 0} {Tall : Heights} {limit depth : ℕ} {n1 n2 o1 o2 : Bool} {f1 c1 g1 f2 c2 g2 : List ℕ} {p q : Parser T A} (codes : List ℕ) (l m : ℕ → Lang T A) (d : ℕ)
    → Law code Tall limit depth n1 o1 f1 c1 g1 p (λ h. l h d) → Law code Tall limit depth n2 o2 f2 c2 g2 q (λ h. m h d)
    → n1 ≡ false → f1 ≡ codes → disjoint f2 codes ≡ true
    → Law code Tall limit depth n2 (o1 && o2) (codes ++ f2) (joined n2 codes (c1 ++ c2)) (g1 ++ g2) (either code codes p q) (λ h. choice (l h) (m h) d)
choose {T} {code} {A} {Tall} {limit} {depth} {n1} {n2} {o1} {o2} {f1} {c1} {g1} {f2} {c2} {g2} {p} {q} codes l m d P' Q none same apart_firsts =
    let P = subst (λ (f : List ℕ). Law code Tall limit depth false o1 f c1 g1 p (λ h. l h d)) same (subst (λ (b : Bool). Law code Tall limit depth b o1 f1 c1 g1 p (λ h. l h d)) none P') in
    record {
      shape = λ h. choice_shape (l h) (m h) d (P.shape h) (Q.shape h);
      least = choice_least T A code Tall limit depth n2 o1 o2 codes c1 g1 f2 c2 g2 p q l m d P Q apart_firsts;
      opens = choice_opens T A code Tall limit depth n2 o1 o2 codes c1 g1 f2 c2 g2 p q l m d P Q apart_firsts;
      sound = choice_sound T A code Tall limit depth n2 o1 o2 codes c1 g1 f2 c2 g2 p q l m d P Q apart_firsts;
      complete = choice_complete T A code Tall limit depth n2 o1 o2 codes c1 g1 f2 c2 g2 p q l m d P Q apart_firsts;
      ends = choice_ends T A code Tall limit depth n2 o1 o2 codes c1 g1 f2 c2 g2 p q l m d P Q apart_firsts;
      stops = choice_stops T A code Tall limit depth n2 o1 o2 codes c1 g1 f2 c2 g2 p q l m d P Q apart_firsts;
      commits = choice_commits T A code Tall limit depth n2 o1 o2 codes c1 g1 f2 c2 g2 p q l m d P Q apart_firsts;
      moves = choice_moves T A code Tall limit depth n2 o1 o2 codes c1 g1 f2 c2 g2 p q l m d P Q apart_firsts;
    }
