-- Nothing, a token, and the end of the depth.
use Rattle.std.proofs.Common.{◌≡◌, ℕ, ◌<◌, ◌≤◌, Bool, true, false, List, [], ◌∷◌, ◌++◌, length, Ok, Err, refl, sym, ap, subst, ◌∙◌, ◌≢◌, arith, inl, inr}
use Rattle.std.specs.Prelude.{◌⊎◌, ◌==◌, ◌||◌}
use Rattle.std.proofs.lemmas.Bool.{eqb-true, eq-eqb, ne_eqb}
use Rattle.std.proofs.lemmas.Bool.Decides.{eqb_tells}
use Rattle.grammar_laws.specs.declared.fault.Fault.{Fault}
use Rattle.grammar_laws.specs.declared.fault.Fault.TheVariants.{Stop}
use Rattle.grammar_laws.specs.declared.fault.Why.{Why}
use Rattle.grammar_laws.specs.declared.fault.Why.TheVariants.{Syntax}
use Rattle.grammar_laws.specs.Words.{member, begins, bare, Cell, Within}
use Rattle.grammar_laws.specs.Languages as g
use Rattle.grammar_laws.specs.Languages.{Lang, sequence, choice}
use Rattle.grammar_laws.specs.Readers as r
use Rattle.grammar_laws.specs.Readers.{Outcome, Parser, and_then, either}
use Rattle.grammar_laws.proofs.Sets.{or_true, Alike, Agree-alike}
use Rattle.grammar_laws.proofs.Law.{Shape, Took, Completes, Ends, Goes, Stops, Least, Opens, Heights, Law}
use Rattle.grammar_laws.specs.Readers.{stop, too_deep}

pub pure_shape : {T : Type 0} {code : T → ℕ} {A : Type 0} {depth : ℕ} (a : A) (d : ℕ) → Shape code depth true [] [] (g.pure a d)
unfolding g.pure
pure_shape {T} {code} a d = record {
  empty = λ r b (e, x). refl;
  starts = λ c w r b (e, x). absurd cc;
  keeps = λ w r s b x h. x;
}

pub pure_least : {T A : Type 0} (a : A) (d : ℕ) → Least {T = T} true (g.pure a d)
unfolding g.pure
pure_least a d = record { word = []; empty = λ e. refl; value = a; derived = (refl, refl) }

outcome : {T : Type 0} {A : Type 0} → A → List T → Outcome T A
outcome {T} a r = Ok (a, r)

pub ok_parts : {T : Type 0} {A : Type 0} (a b : A) (x y : List T) (o : Outcome T A) → o ≡ Ok (a, x) → o ≡ Ok (b, y) → (a ≡ b) × (x ≡ y)
ok_parts {T} {A} a b x y o e f =
    let both : ◌≡◌ {A = Outcome T A} (Ok (a, x)) (Ok (b, y)) = sym e ∙ f in
    let pair : ◌≡◌ {A = A × List T} (a, x) (b, y) = cc in
    (ap (λ (p : A × List T). p.0) pair, ap (λ (p : A × List T). p.1) pair)

pub ok_same : {T A : Type 0} (a b : A) (x y : List T) → ◌≡◌ {A = Outcome T A} (Ok (a, x)) (Ok (b, y)) → (a ≡ b) × (x ≡ y)
ok_same {T} {A} a b x y both =
    let pair : ◌≡◌ {A = A × List T} (a, x) (b, y) = cc in
    (ap (λ (p : A × List T). p.0) pair, ap (λ (p : A × List T). p.1) pair)

pub not_both : {T : Type 0} {A : Type 0} (P : Type 0) (a : A × List T) (f : Fault) (o : Outcome T A) → o ≡ Ok a → o ≡ Err f → P
not_both {T} {A} P a f o e x = let both : ◌≡◌ {A = Outcome T A} (Ok a) (Err f) = sym e ∙ x in absurd cc

pub stop_parts : {T : Type 0} {A : Type 0} (v w : Why) (m n : ℕ) (o : Outcome T A) → o ≡ Err (Stop v m) → o ≡ Err (Stop w n) → (v ≡ w) × (m ≡ n)
stop_parts {T} {A} v w m n o e f = let both : ◌≡◌ {A = Outcome T A} (Err (Stop v m)) (Err (Stop w n)) = sym e ∙ f in (cc, cc)

pub pure : {T A : Type 0} {code : T → ℕ} {Tall : Heights} {limit depth : ℕ} (a : A) (d : ℕ) → Law code Tall limit depth true true [] [] [] (λ ts. Ok (a, ts)) (λ h. g.pure a d)
unfolding g.pure
pure {T} {A} {code} a d = record {
  shape = λ h. pure_shape a d;
  least = λ h tall. record { word = []; empty = λ e. refl; value = a; derived = (refl, refl) };
  opens = λ h some o t m. absurd cc;
  sound = λ h tall ts b rest e.
      let x = ok_same a b ts rest e in
      record { word = []; whole = x.1; within = tt; derived = (refl, x.0) };
  complete = λ h w rest b (e, x) stops. inl (rw (e, x) refl, λ k tall. rw e tt);
  ends = λ ts b rest e.
      let x = ok_same a b ts rest e in
      record { front = []; whole = x.1; again = λ s like. ap (λ (v : A). Ok (v, s)) x.0 };
  stops = λ h tall ts why n e. not_both (Stops _ (λ ts. Ok (a, ts)) (g.pure a d) ts why n) (a, ts) (Stop why n) (Ok (a, ts)) refl e;
  commits = λ h tall ts k o e. not_both (k < length ts) (a, ts) (Stop Syntax k) (Ok (a, ts)) refl e;
  moves = λ ts b rest h e. elim h [ inl t ↦ absurd cc | inr t ↦ absurd (none ts t) ];
}
  where
    none : (ts : List T) → begins code [] ts ≡ true → ⊥
    none [] e = absurd cc
    none (t ∷ ts) e = absurd cc

-- ---- a token

pub word_shape : {T : Type 0} (code : T → ℕ) (c d : ℕ) → Shape code d false (c ∷ []) [] (g.word code c d)
unfolding g.word
word_shape {T} code c d = record {
  empty = λ r t (e, x). absurd cc;
  starts = λ k w r t (e, x).
      let same : k ≡ (t, d) = cc in
      subst (λ (k : Cell T). (member (c ∷ []) (code k.0) ≡ true) × (d ≤ k.1)) (sym same) (is_member (code t) x, omega arith);
  keeps = λ w r s t x h. x;
}
  where
    is_member : (k : ℕ) → k ≡ c → member (c ∷ []) k ≡ true
    is_member k e = rw e (ap (λ (b : Bool). b || false) (eq-eqb c c refl))

word_cases : {T : Type 0} (code : T → ℕ) (c : ℕ) (t : T) (ts : List T) → ((code t ≡ c) × (r.word code c (t ∷ ts) ≡ Ok (t, ts))) ⊎ ((code t ≢ c) × (r.word code c (t ∷ ts) ≡ Err (Stop Syntax (length (t ∷ ts)))))
unfolding r.word
word_cases {T} code c t ts = elim (eqb_tells (code t) c) [
  | inl e ↦ inl (e.1, rw e.0 refl)
  | inr e ↦ inr (e.1, rw e.0 refl)
]

word_at : {T : Type 0} (code : T → ℕ) (c : ℕ) (t : T) (ts : List T) → code t ≡ c → r.word code c (t ∷ ts) ≡ Ok (t, ts)
unfolding r.word
word_at {T} code c t ts e = rw (eq-eqb (code t) c e) refl

word_past : {T : Type 0} (code : T → ℕ) (c : ℕ) (t : T) (s : List T) → code t ≢ c → r.word code c (t ∷ s) ≡ Err (Stop Syntax (length (t ∷ s)))
unfolding r.word
word_past {T} code c t s ne = rw (ne_eqb (code t) c ne) refl

word_none : {T : Type 0} (code : T → ℕ) (c : ℕ) → r.word code c [] ≡ Err (Stop Syntax 0)
unfolding r.word
word_none {T} code c = refl

module _ (T : Type 0) (code : T → ℕ) (Tall : Heights) (limit c d : ℕ) (an : T) (is_code : code an ≡ c) (fits : (h : ℕ) → Tall.tall h → d ≤ limit) where
  word_least : (h : ℕ) → Tall.some h → Least false (g.word code c d)
  unfolding g.word
  word_least h tall = record { word = (an, d) ∷ []; empty = λ e. absurd cc; value = an; derived = (refl, is_code) }

  word_sound : (h : ℕ) → Tall.tall h → (ts : List T) (a : T) (rest : List T) → r.word code c ts ≡ Ok (a, rest) → Took limit (g.word code c d) ts a rest
  unfolding g.word
  word_sound h tall [] a rest e = not_both _ (a, rest) (Stop Syntax 0) (r.word code c []) e (word_none code c)
  word_sound h tall (t ∷ ts) a rest e = elim (word_cases code c t ts) [
    | inl w ↦
        let x = ok_parts t a ts rest (r.word code c (t ∷ ts)) w.1 e in
        record {
          word = (t, d) ∷ [];
          whole = ap (λ (r : List T). t ∷ r) x.1;
          within = (fits h tall, tt);
          derived = (ap (λ (t : T). (t, d) ∷ []) x.0, subst (λ (t : T). code t ≡ c) x.0 w.0);
        }
    | inr w ↦ not_both _ (a, rest) (Stop Syntax (length (t ∷ ts))) (r.word code c (t ∷ ts)) e w.1
  ]

  word_complete : (h : ℕ) (w : List (Cell T)) (rest : List T) (a : T) → g.word code c d w rest a → begins code [] rest ≡ false → Completes Tall.tall limit w rest a (r.word code c (bare w ++ rest))
  unfolding g.word
  word_complete h w rest a (e, x) stops =
      inl (ap (λ (w : List (Cell T)). r.word code c (bare w ++ rest)) e ∙ word_at code c a rest x, λ k tall. subst (Within limit) (sym e) (fits k tall, tt))

  word_ends : (ts : List T) (a : T) (rest : List T) → r.word code c ts ≡ Ok (a, rest) → Ends (r.word code c) ts a rest
  word_ends [] a rest e = not_both _ (a, rest) (Stop Syntax 0) (r.word code c []) e (word_none code c)
  word_ends (t ∷ ts) a rest e = elim (word_cases code c t ts) [
    | inl w ↦
        let x = ok_parts t a ts rest (r.word code c (t ∷ ts)) w.1 e in
        record { front = t ∷ []; whole = ap (λ (r : List T). t ∷ r) x.1; again = λ s like. word_at code c t s w.0 ∙ ap (λ (t : T). Ok (t, s)) x.0 }
    | inr w ↦ not_both _ (a, rest) (Stop Syntax (length (t ∷ ts))) (r.word code c (t ∷ ts)) e w.1
  ]

  alike_past : (t : T) (ts s : List T) → code t ≢ c → Alike (t ∷ ts) s → r.word code c s ≡ Err (Stop Syntax (length s))
  alike_past t ts [] ne like = absurd like
  alike_past t ts (k ∷ s) ne like = word_past code c k s (subst (λ (t : T). code t ≢ c) like ne)

  word_stops : (h : ℕ) → Tall.tall h → (ts : List T) (why : Why) (n : ℕ) → r.word code c ts ≡ Err (Stop why n) → Stops limit (r.word code c) (g.word code c d) ts why n
  unfolding g.word
  word_stops h tall [] why n e =
      let x = stop_parts Syntax why 0 n (r.word code c []) (word_none code c) e in
      record {
        two = false;
        halts = record { front = []; rest = []; whole = refl; left = sym x.1; again = λ s like. absurd like };
        viable = record {
          word = [];
          rest = [];
          whole = refl;
          left = sym x.1;
          within = tt;
          more = (an, d) ∷ [];
          goes = subst (λ (w : Why). Goes w false [] ((an, d) ∷ [])) x.0 refl;
          value = an;
          derived = (refl, is_code);
        };
      }
  word_stops h tall (t ∷ ts) why n e = elim (word_cases code c t ts) [
    | inl w ↦ not_both _ (t, ts) (Stop why n) (r.word code c (t ∷ ts)) w.1 e
    | inr w ↦
        let x = stop_parts Syntax why (length (t ∷ ts)) n (r.word code c (t ∷ ts)) w.1 e in
        record {
          two = false;
          halts = record {
            front = [];
            rest = t ∷ ts;
            whole = refl;
            left = sym x.1;
            again = λ s like. alike_past t ts s w.0 (Agree-alike false (t ∷ ts) s like) ∙ ap (λ (w : Why). Err (Stop w (length s))) x.0;
          };
          viable = record {
            word = [];
            rest = t ∷ ts;
            whole = refl;
            left = sym x.1;
            within = tt;
            more = (an, d) ∷ [];
            goes = subst (λ (w : Why). Goes w false (t ∷ ts) ((an, d) ∷ [])) x.0 refl;
            value = an;
            derived = (refl, is_code);
          };
        }
  ]

  word_commits : (h : ℕ) → Tall.tall h → (ts : List T) (k : ℕ) → (false ≡ true) ⊎ (begins code (c ∷ []) ts ≡ true) → r.word code c ts ≡ Err (Stop Syntax k) → k < length ts
  word_commits h tall ts k (inl t) e = absurd cc
  word_commits h tall [] k (inr t) e = absurd cc
  word_commits h tall (t ∷ ts) k (inr b) e = elim (word_cases code c t ts) [
    | inl w ↦ not_both _ (t, ts) (Stop Syntax k) (r.word code c (t ∷ ts)) w.1 e
    | inr w ↦ absurd (w.0 (sym (eqb-true c (code t) (elim (or_true (c == code t) false b) [ inl x ↦ x | inr x ↦ absurd cc ]))))
  ]

  word_moves : (ts : List T) (a : T) (rest : List T) → (false ≡ false) ⊎ (begins code (c ∷ []) ts ≡ true) → r.word code c ts ≡ Ok (a, rest) → length rest < length ts
  word_moves [] a rest h e = not_both _ (a, rest) (Stop Syntax 0) (r.word code c []) e (word_none code c)
  word_moves (t ∷ ts) a rest h e = elim (word_cases code c t ts) [
    | inl w ↦ let same : length ts ≡ length rest = ap length (ok_parts t a ts rest (r.word code c (t ∷ ts)) w.1 e).1 in omega arith
    | inr w ↦ not_both _ (a, rest) (Stop Syntax (length (t ∷ ts))) (r.word code c (t ∷ ts)) e w.1
  ]

word_opens : {T : Type 0} (code : T → ℕ) (c d : ℕ) → Opens code (g.word code c d) (c ∷ [])
unfolding g.word
word_opens code c d t m = ([], d, t, (refl, sym (eqb-true c (code t) (elim (or_true (c == code t) false m) [ inl e ↦ e | inr e ↦ absurd cc ]))))

-- a token; `an` is one with this code
pub word : {T : Type 0} {code : T → ℕ} {Tall : Heights} {limit : ℕ} (c d : ℕ) (an : T) → code an ≡ c → ((h : ℕ) → Tall.tall h → d ≤ limit) → Law code Tall limit d false true (c ∷ []) [] [] (r.word code c) (λ h. g.word code c d)
word {T} {code} {Tall} {limit} c d an is_code fits = record {
  shape = λ h. word_shape code c d;
  least = word_least T code Tall limit c d an is_code fits;
  opens = λ h some o. word_opens code c d;
  sound = word_sound T code Tall limit c d an is_code fits;
  complete = word_complete T code Tall limit c d an is_code fits;
  ends = word_ends T code Tall limit c d an is_code fits;
  stops = word_stops T code Tall limit c d an is_code fits;
  commits = word_commits T code Tall limit c d an is_code fits;
  moves = word_moves T code Tall limit c d an is_code fits;
}
