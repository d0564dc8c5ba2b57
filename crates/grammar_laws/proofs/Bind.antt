-- One after the other.
use Rattle.std.proofs.Common.{◌≡◌, ℕ, suc, ◌+◌, ◌<◌, ◌≤◌, Bool, true, false, List, [], ◌∷◌, ◌++◌, length, Ok, Err, refl, sym, ap, subst, ◌∙◌, append_assoc, arith, inl, inr}
use Rattle.std.specs.Prelude.{◌⊎◌, ◌||◌, ◌&&◌}
use Rattle.std.proofs.lemmas.List.{length-append, append-nil}
use Rattle.grammar_laws.specs.declared.fault.Fault.TheVariants.{Stop}
use Rattle.grammar_laws.specs.declared.fault.Why.{Why}
use Rattle.grammar_laws.specs.declared.fault.Why.TheVariants.{Syntax, Depth}
use Rattle.grammar_laws.specs.Words.{member, begins, bare, Cell, Within}
use Rattle.grammar_laws.specs.Languages.{Lang, sequence}
use Rattle.grammar_laws.specs.Readers.{Outcome, Parser, and_then}
use Rattle.grammar_laws.proofs.Sets.{disjoint, or_true, and_true, member-append, member_left, member_right, apart, begins_none, bare-append, bare_append_rest, Within-append, Alike, Alike-append, Agree, Agree-alike, Agree-append}
use Rattle.grammar_laws.proofs.Law.{Words, Shape, Took, Completes, Ends, Goes, Stops, Least, Opens, Heights, Law, bind_ok, bind_err, then_ok, then_err, joined, firsts, opened, follows, joined_right, starts_at, empty_at, nil_parts, bool_cases, begins_either}

module _ (T A B : Type 0) (code : T → ℕ) (depth : ℕ) (n1 n2 : Bool) (f1 c1 g1 f2 c2 g2 : List ℕ) where
  -- the tokens of a second part, before others, do not go on with the first
  next_is : (words : Words T B) → Shape code depth n2 f2 g2 words → (e x : List ℕ) → disjoint f2 e ≡ true → (v : List (Cell T)) (r s : List T) (b : B) → words v r b
      → begins code (joined n2 e x) s ≡ false → begins code e (bare v ++ s) ≡ false
  next_is words shape e x d v r s b y stops =
      follows code n2 f2 e x d v s (λ q. empty_at code depth n2 f2 g2 words shape v r b y q) (λ c w q. starts_at code depth n2 f2 g2 words shape v r b y c w q) stops

  first_in : (b : Bool) (c : ℕ) → member f1 c ≡ true → member (firsts b f1 f2) c ≡ true
  first_in true c m = member_left f1 f2 c m
  first_in false c m = m

  starts_first : (u : List (Cell T)) (v : List (Cell T)) (c : Cell T) (w : List (Cell T)) (first : Words T A) (second : Words T B) (r1 r2 : List T) (a : A) (b : B)
      → Shape code depth n1 f1 g1 first → Shape code depth n2 f2 g2 second → first u r1 a → second v r2 b → c ∷ w ≡ u ++ v
      → (member (firsts n1 f1 f2) (code c.0) ≡ true) × (depth ≤ c.1)
  starts_first [] v c w first second r1 r2 a b s1 s2 x y e =
      let is_true = s1.empty r1 a x in
      let q = s2.starts c w r2 b (subst (λ (v : List (Cell T)). second v r2 b) (sym e) y) in
      (subst (λ (b : Bool). member (firsts b f1 f2) (code c.0) ≡ true) (sym is_true) (member_right f1 f2 (code c.0) q.0), q.1)
  starts_first (k ∷ u) v c w first second r1 r2 a b s1 s2 x y e =
      let same : c ≡ k = cc in
      let q = s1.starts k u r1 a x in
      subst (λ (c : Cell T). (member (firsts n1 f1 f2) (code c.0) ≡ true) × (depth ≤ c.1)) (sym same) (first_in n1 (code k.0) q.0, q.1)

  keeps_first : (v : List (Cell T)) (r s : List T) (second : Words T B) (b : B) → Shape code depth n2 f2 g2 second → second v r b
      → Alike r s ⊎ (begins code (joined n2 g1 g2) s ≡ false) → Alike (bare v ++ r) (bare v ++ s) ⊎ (begins code g1 (bare v ++ s) ≡ false)
  keeps_first [] r s second b s2 y (inl h) = inl h
  keeps_first [] r s second b s2 y (inr e) = inr (begins_none code g1 g2 s (subst (λ (b : Bool). begins code (joined b g1 g2) s ≡ false) (s2.empty r b y) e)).0
  keeps_first (c ∷ v) r s second b s2 y h = inl refl

  keeps_second : (s : List T) (P : Type 0) → P ⊎ (begins code (joined n2 g1 g2) s ≡ false) → P ⊎ (begins code g2 s ≡ false)
  keeps_second s P (inl h) = inl h
  keeps_second s P (inr e) = inr (joined_right code n2 g1 g2 s e)

  -- a second part that is whole doesn't go on with the first
  apart_at_end : (v : List (Cell T)) (second : Words T B) (r : List T) (b : B) → Shape code depth n2 f2 g2 second → second v r b → disjoint f2 g1 ≡ true
      → begins code g1 (bare v ++ []) ≡ false
  apart_at_end [] second r b s2 y d = refl
  apart_at_end (c ∷ v) second r b s2 y d = apart f2 g1 (code c.0) d (s2.starts c v r b y).0

  -- nor does the least one
  pub least_follows : (second : Words T B) → Shape code depth n2 f2 g2 second → (n2 || disjoint f2 g1) ≡ true → (q : Least n2 second) → begins code g1 (bare q.word ++ []) ≡ false
  least_follows second s2 free q =
      elim (or_true n2 (disjoint f2 g1) free) [
        | inl is_true ↦ let none = q.empty is_true in subst (λ (w : List (Cell T)). begins code g1 (bare w ++ []) ≡ false) (sym none) refl
        | inr d ↦ apart_at_end q.word second [] q.value s2 q.derived d
      ]

  goes_append : (why : Why) (two : Bool) (rest : List T) (more w : List (Cell T)) → Goes why two rest more → Goes why two rest (more ++ w)
  goes_append Syntax two rest more w h = h
  goes_append Depth two rest more w h = subst (Agree two rest) (sym (bare-append more w)) (Agree-append two rest (bare more) (bare w) h)

  -- where a second part stopped, the first stands before what completes the second too
  stop_follows : (why : Why) (two : Bool) (w : List (Cell T)) (rest : List T) (n k : ℕ) (more : List (Cell T)) (second : Words T B) (b : B) → Shape code depth n2 f2 g2 second → second (w ++ more) [] b
      → Goes why two rest more → n ≡ length rest → k ≡ length (bare w ++ rest) → (n2 ≡ true → why ≡ Syntax → n < k) → (n2 || disjoint f2 g1) ≡ true
      → Alike (bare w ++ rest) (bare (w ++ more) ++ []) ⊎ (begins code g1 (bare (w ++ more) ++ []) ≡ false)
  stop_follows why two (c ∷ w) rest n k more second b s2 y goes en ek commits free = inl refl
  stop_follows Depth two [] rest n k more second b s2 y goes en ek commits free = inl (subst (Alike rest) (sym (append-nil (bare more))) (Agree-alike two rest (bare more) goes))
  stop_follows Syntax two [] rest n k more second b s2 y goes en ek commits free =
      elim (or_true n2 (disjoint f2 g1) free) [
        | inl is_true ↦ let below : n < k = commits is_true refl in absurd (omega arith)
        | inr d ↦ inr (apart_at_end more second [] b s2 y d)
      ]

pub bind_shape : {T : Type 0} {code : T → ℕ} {A B : Type 0} {depth : ℕ} {n1 n2 : Bool} {f1 g1 f2 g2 : List ℕ} (l : Lang T A) (f : A → Lang T B) (d : ℕ)
    → Shape code depth n1 f1 g1 (l d) → ((a : A) → Shape code depth n2 f2 g2 (f a d))
    → Shape code depth (n1 && n2) (firsts n1 f1 f2) (joined n2 g1 g2) (sequence l f d)
unfolding sequence
bind_shape {T} {code} {A} {B} {depth} {n1} {n2} {f1} {g1} {f2} {g2} l f d s1 s2 = record {
  empty = λ r b (a, u, v, e, x, y).
      let parts = nil_parts u v e in
      let t1 = empty_at code depth n1 f1 g1 (l d) s1 u (bare v ++ r) a x parts.0 in
      let t2 = empty_at code depth n2 f2 g2 (f a d) (s2 a) v r b y parts.1 in
      rw (t1, t2) refl;
  starts = λ c w r b (a, u, v, e, x, y). starts_first T A B code depth n1 n2 f1 [] g1 f2 [] g2 u v c w (l d) (f a d) (bare v ++ r) r a b s1 (s2 a) x y e;
  keeps = λ w r s b (a, u, v, e, x, y) h.
      (a, u, v, e, s1.keeps u (bare v ++ r) (bare v ++ s) a x (keeps_first T A B code depth n1 n2 f1 [] g1 f2 [] g2 v r s (f a d) b (s2 a) y h), (s2 a).keeps v r s b y (keeps_second T A B code depth n1 n2 f1 [] g1 f2 [] g2 s (Alike r s) h));
}

module _ (T A B : Type 0) (code : T → ℕ) (Tall : Heights) (limit depth : ℕ) (n1 n2 o1 o2 : Bool) (f1 c1 g1 f2 c2 g2 : List ℕ) (p : Parser T A) (q : A → Parser T B) (l : ℕ → Lang T A) (f : ℕ → A → Lang T B) (d : ℕ)
    (P : Law code Tall limit depth n1 o1 f1 c1 g1 p (λ h. l h d)) (Q : (a : A) → Law code Tall limit depth n2 o2 f2 c2 g2 (q a) (λ h. f h a d))
    (clash_free : disjoint f2 c1 ≡ true) (goes_free : (n2 || disjoint f2 g1) ≡ true) where
  bind_least : (h : ℕ) → Tall.some h → Least (n1 && n2) (sequence (l h) (f h) d)
  unfolding sequence
  bind_least h tall =
      let x = P.least h tall in
      let y = (Q x.value).least h tall in
      let after : begins code g1 (bare y.word ++ []) ≡ false = least_follows T A B code depth n1 n2 f1 c1 g1 f2 c2 g2 (f h x.value d) ((Q x.value).shape h) goes_free y in
      record {
        word = x.word ++ y.word;
        empty = λ e. let both = and_true n1 n2 e in rw (x.empty both.0, y.empty both.1) refl;
        value = y.value;
        derived = (x.value, x.word, y.word, refl, (P.shape h).keeps x.word [] (bare y.word ++ []) x.value x.derived (inr after), y.derived);
      }

  open_first : (h : ℕ) → Tall.some h → o1 ≡ true → Opens code (sequence (l h) (f h) d) f1
  unfolding sequence
  open_first h some o t m =
      let x = P.opens h some o t m in
      let a = x.2 in
      let y = (Q a).least h some in
      let after : begins code g1 (bare y.word ++ []) ≡ false = least_follows T A B code depth n1 n2 f1 c1 g1 f2 c2 g2 (f h a d) ((Q a).shape h) goes_free y in
      (x.0 ++ y.word, x.1, y.value, (a, (t, x.1) ∷ x.0, y.word, refl, (P.shape h).keeps ((t, x.1) ∷ x.0) [] (bare y.word ++ []) a x.3 (inr after), y.derived))

  open_second : (h : ℕ) → Tall.some h → n1 ≡ true → o2 ≡ true → disjoint f2 g1 ≡ true → Opens code (sequence (l h) (f h) d) f2
  unfolding sequence
  open_second h some n o free t m =
      let x = P.least h some in
      let none : x.word ≡ [] = x.empty n in
      let y = (Q x.value).opens h some o t m in
      let w : List (Cell T) = (t, y.1) ∷ y.0 in
      let goes : begins code g1 (bare w ++ []) ≡ false = apart f2 g1 (code t) free m in
      (y.0, y.1, y.2, (x.value, [], w, refl, (P.shape h).keeps [] [] (bare w ++ []) x.value (subst (λ (u : List (Cell T)). l h d u [] x.value) none x.derived) (inr goes), y.3))

  bind_opens : (h : ℕ) → Tall.some h → opened n1 o1 o2 (disjoint f2 g1) ≡ true → Opens code (sequence (l h) (f h) d) (firsts n1 f1 f2)
  bind_opens h some o = by n1 refl o
    where
      by : (n : Bool) → n1 ≡ n → opened n o1 o2 (disjoint f2 g1) ≡ true → Opens code (sequence (l h) (f h) d) (firsts n f1 f2)
      by false e b t m = open_first h some b t m
      by true e b t m =
          let two = and_true o1 (o2 && disjoint f2 g1) b in
          let three = and_true o2 (disjoint f2 g1) two.1 in
          elim (or_true (member f1 (code t)) (member f2 (code t)) (sym (member-append f1 f2 (code t)) ∙ m)) [
            | inl on ↦ open_first h some two.0 t on
            | inr on ↦ open_second h some e three.0 three.1 t on
          ]

  bind_sound : (h : ℕ) → Tall.tall h → (ts : List T) (b : B) (rest : List T) → and_then (p ts) q ≡ Ok (b, rest) → Took limit (sequence (l h) (f h) d) ts b rest
  unfolding sequence
  bind_sound h tall ts b rest e =
      let x = bind_ok (p ts) q (b, rest) e in
      let a = x.0.0 in
      let t1 = P.sound h tall ts a x.0.1 x.1 in
      let t2 = (Q a).sound h tall x.0.1 b rest x.2 in
      record {
        word = t1.word ++ t2.word;
        whole = t1.whole ∙ ap (λ (r : List T). bare t1.word ++ r) t2.whole ∙ sym (bare_append_rest t1.word t2.word rest);
        within = Within-append limit t1.word t2.word t1.within t2.within;
        derived = (a, t1.word, t2.word, refl, subst (λ (r : List T). l h d t1.word r a) t2.whole t1.derived, t2.derived);
      }

  bind_complete : (h : ℕ) (w : List (Cell T)) (rest : List T) (b : B) → sequence (l h) (f h) d w rest b → begins code (joined n2 c1 c2) rest ≡ false
      → Completes Tall.tall limit w rest b (and_then (p (bare w ++ rest)) q)
  unfolding sequence
  bind_complete h w rest b (a, u, v, e, x, y) stops =
      let after : begins code c1 (bare v ++ rest) ≡ false = next_is T A B code depth n1 n2 f1 c1 g1 f2 c2 g2 (f h a d) ((Q a).shape h) c1 c2 clash_free v rest rest b y stops in
      let read : bare w ++ rest ≡ bare u ++ (bare v ++ rest) = ap (λ (w : List (Cell T)). bare w ++ rest) e ∙ bare_append_rest u v rest in
      let goal : List T → Type 0 = λ ts. Completes Tall.tall limit w rest b (and_then (p ts) q) in
      subst goal (sym read) (elim (P.complete h u (bare v ++ rest) a x after) [
        | inl ok ↦ subst (λ (o : Outcome T B). Completes Tall.tall limit w rest b o) (sym (then_ok (p (bare u ++ (bare v ++ rest))) q a (bare v ++ rest) ok.0))
            (second u v w a e ok.1 ((Q a).complete h v rest b y (joined_right code n2 c1 c2 rest stops)))
        | inr dives ↦ inr (record {
          front = dives.front;
          deep = dives.deep;
          back = dives.back ++ v;
          parts = e ∙ ap (λ (u : List (Cell T)). u ++ v) dives.parts ∙ append_assoc dives.front (dives.deep ∷ dives.back) v;
          shallow = dives.shallow;
          over = dives.over;
          is_stop = then_err (p (bare u ++ (bare v ++ rest))) q (Stop Depth (suc (length (bare dives.back ++ (bare v ++ rest))))) dives.is_stop
              ∙ ap (λ (r : List T). Err (Stop Depth (suc (length r)))) (sym (bare_append_rest dives.back v rest));
        })
      ])
    where
      second : (u v w : List (Cell T)) (a : A) → w ≡ u ++ v → ((h : ℕ) → Tall.tall h → Within limit u) → Completes Tall.tall limit v rest b (q a (bare v ++ rest)) → Completes Tall.tall limit w rest b (q a (bare v ++ rest))
      second u v w a e within (inl ok) = inl (ok.0, λ h tall. subst (Within limit) (sym e) (Within-append limit u v (within h tall) (ok.1 h tall)))
      second u v w a e within (inr dives) = inr (record {
        front = u ++ dives.front;
        deep = dives.deep;
        back = dives.back;
        parts = e ∙ ap (λ (v : List (Cell T)). u ++ v) dives.parts ∙ sym (append_assoc u dives.front (dives.deep ∷ dives.back));
        shallow = λ h tall. Within-append limit u dives.front (within h tall) (dives.shallow h tall);
        over = dives.over;
        is_stop = dives.is_stop;
      })

  bind_ends : (ts : List T) (b : B) (rest : List T) → and_then (p ts) q ≡ Ok (b, rest) → Ends (λ ts. and_then (p ts) q) ts b rest
  bind_ends ts b rest e =
      let x = bind_ok (p ts) q (b, rest) e in
      let a = x.0.0 in
      let t1 = P.ends ts a x.0.1 x.1 in
      let t2 = (Q a).ends x.0.1 b rest x.2 in
      record {
        front = t1.front ++ t2.front;
        whole = t1.whole ∙ ap (λ (r : List T). t1.front ++ r) t2.whole ∙ sym (append_assoc t1.front t2.front rest);
        again = λ s h.
            let like : Alike x.0.1 (t2.front ++ s) = subst (λ (r : List T). Alike r (t2.front ++ s)) (sym t2.whole) (Alike-append t2.front rest s h) in
            ap (λ (r : List T). and_then (p r) q) (append_assoc t1.front t2.front s)
            ∙ then_ok (p (t1.front ++ (t2.front ++ s))) q a (t2.front ++ s) (t1.again (t2.front ++ s) like) ∙ t2.again s h;
      }

  bind_stops : (h : ℕ) → Tall.tall h → (ts : List T) (why : Why) (n : ℕ) → and_then (p ts) q ≡ Err (Stop why n) → Stops limit (λ ts. and_then (p ts) q) (sequence (l h) (f h) d) ts why n
  unfolding sequence
  bind_stops h tall ts why n e = elim (bind_err (p ts) q (Stop why n) e) [
    | inl stopped ↦
        let s1 = P.stops h tall ts why n stopped in
        let t1 = s1.halts in
        let x = s1.viable in
        let y = (Q x.value).least h (Tall.is_some h tall) in
        let after : begins code g1 (bare y.word ++ []) ≡ false = least_follows T A B code depth n1 n2 f1 c1 g1 f2 c2 g2 (f h x.value d) ((Q x.value).shape h) goes_free y in
        record {
          two = s1.two;
          halts = record {
            front = t1.front;
            rest = t1.rest;
            whole = t1.whole;
            left = t1.left;
            again = λ s like. then_err (p (t1.front ++ s)) q (Stop why (length s)) (t1.again s like);
          };
          viable = record {
            word = x.word;
            rest = x.rest;
            whole = x.whole;
            left = x.left;
            within = x.within;
            more = x.more ++ y.word;
            goes = goes_append T A B code depth n1 n2 f1 c1 g1 f2 c2 g2 why s1.two x.rest x.more y.word x.goes;
            value = y.value;
            derived = (
              x.value,
              x.word ++ x.more,
              y.word,
              sym (append_assoc x.word x.more y.word),
              (P.shape h).keeps (x.word ++ x.more) [] (bare y.word ++ []) x.value x.derived (inr after),
              y.derived,
            );
          };
        }
    | inr x ↦
        let a = x.0.0 in
        let e1 = P.ends ts a x.0.1 x.1 in
        let t1 = P.sound h tall ts a x.0.1 x.1 in
        let s2 = (Q a).stops h tall x.0.1 why n x.2 in
        let h2 = s2.halts in
        let t2 = s2.viable in
        let after = stop_follows T A B code depth n1 n2 f1 c1 g1 f2 c2 g2 why s2.two t2.word t2.rest n (length x.0.1) t2.more (f h a d) t2.value ((Q a).shape h) t2.derived
        t2.goes t2.left (ap length t2.whole)
        (λ is_true is_syntax. (Q a).commits h tall x.0.1 n (inl is_true) (x.2 ∙ ap (λ (w : Why). Err (Stop w n)) is_syntax)) goes_free in
        record {
          two = s2.two;
          halts = record {
            front = e1.front ++ h2.front;
            rest = h2.rest;
            whole = e1.whole ∙ ap (λ (r : List T). e1.front ++ r) h2.whole ∙ sym (append_assoc e1.front h2.front h2.rest);
            left = h2.left;
            again = λ s agree.
                let like : Alike x.0.1 (h2.front ++ s) = subst (λ (r : List T). Alike r (h2.front ++ s)) (sym h2.whole) (Alike-append h2.front h2.rest s (Agree-alike s2.two h2.rest s agree)) in
                ap (λ (r : List T). and_then (p r) q) (append_assoc e1.front h2.front s)
                ∙ then_ok (p (e1.front ++ (h2.front ++ s))) q a (h2.front ++ s) (e1.again (h2.front ++ s) like) ∙ h2.again s agree;
          };
          viable = record {
            word = t1.word ++ t2.word;
            rest = t2.rest;
            whole = t1.whole ∙ ap (λ (r : List T). bare t1.word ++ r) t2.whole ∙ sym (bare_append_rest t1.word t2.word t2.rest);
            left = t2.left;
            within = Within-append limit t1.word t2.word t1.within t2.within;
            more = t2.more;
            goes = t2.goes;
            value = t2.value;
            derived = (
              a,
              t1.word,
              t2.word ++ t2.more,
              append_assoc t1.word t2.word t2.more,
              (P.shape h).keeps t1.word (bare t2.word ++ t2.rest) (bare (t2.word ++ t2.more) ++ []) a (subst (λ (r : List T). l h d t1.word r a) t2.whole t1.derived) after,
              t2.derived,
            );
          };
        }
  ]

  first_cases : (ts : List T) → ((n1 && n2) ≡ true) ⊎ (begins code (firsts n1 f1 f2) ts ≡ true) → (n1 ≡ true) ⊎ (begins code f1 ts ≡ true)
  first_cases ts (inl both) = inl (and_true n1 n2 both).0
  first_cases ts (inr e) = elim (bool_cases n1) [
    | inl t ↦ inl t
    | inr off ↦ inr (subst (λ (b : Bool). begins code (firsts b f1 f2) ts ≡ true) off e)
  ]

  -- where the first part took nothing, the second may be empty or begins code here
  begins_second : (ts rest : List T) (a : A) → begins code (firsts n1 f1 f2) ts ≡ true → p ts ≡ Ok (a, rest) → (length rest < length ts) ⊎ (begins code f2 ts ≡ true)
  begins_second ts rest a h e = elim (bool_cases n1) [
    | inr off ↦ inl (P.moves ts a rest (inl off) e)
    | inl t ↦ elim (begins_either code f1 f2 ts (subst (λ (b : Bool). begins code (firsts b f1 f2) ts ≡ true) t h)) [
      | inl b ↦ inl (P.moves ts a rest (inr b) e)
      | inr b ↦ inr b
    ]
  ]

  second_cases : (ts rest : List T) (a : A) → ((n1 && n2) ≡ true) ⊎ (begins code (firsts n1 f1 f2) ts ≡ true) → p ts ≡ Ok (a, rest) → (length rest < length ts) ⊎ ((n2 ≡ true) ⊎ (begins code f2 ts ≡ true))
  second_cases ts rest a (inl both) e = inr (inl (and_true n1 n2 both).1)
  second_cases ts rest a (inr h) e = elim (bool_cases n1) [
    | inr off ↦ inl (P.moves ts a rest (inl off) e)
    | inl t ↦ elim (begins_either code f1 f2 ts (subst (λ (b : Bool). begins code (firsts b f1 f2) ts ≡ true) t h)) [
      | inl b ↦ inl (P.moves ts a rest (inr b) e)
      | inr b ↦ inr (inr b)
    ]
  ]

  shorter : (ts rest front : List T) → ts ≡ front ++ rest → length rest ≤ length ts
  shorter ts rest front e = let len : length ts ≡ length front + length rest = ap length e ∙ length-append front rest in omega arith

  same_or_less : (ts rest front : List T) → ts ≡ front ++ rest → (length rest < length ts) ⊎ (ts ≡ rest)
  same_or_less ts rest [] e = inr e
  same_or_less ts rest (t ∷ front) e = inl (let len : length ts ≡ suc (length front) + length rest = ap length e ∙ length-append (t ∷ front) rest in omega arith)

  bind_commits : (h : ℕ) → Tall.tall h → (ts : List T) (k : ℕ) → ((n1 && n2) ≡ true) ⊎ (begins code (firsts n1 f1 f2) ts ≡ true) → and_then (p ts) q ≡ Err (Stop Syntax k) → k < length ts
  bind_commits h tall ts k o e =
      elim (bind_err (p ts) q (Stop Syntax k) e) [
        | inl stopped ↦ P.commits h tall ts k (first_cases ts o) stopped
        | inr x ↦
            let a = x.0.0 in
            let t1 = P.ends ts a x.0.1 x.1 in
            let t2 = ((Q a).stops h tall x.0.1 Syntax k x.2).halts in
            let le1 : length x.0.1 ≤ length ts = shorter ts x.0.1 t1.front t1.whole in
            let le2 : length t2.rest ≤ length x.0.1 = shorter x.0.1 t2.rest t2.front t2.whole in
            let is_k : k ≡ length t2.rest = t2.left in
            elim (second_cases ts x.0.1 a o x.1) [
              | inl lt ↦ omega arith
              | inr c ↦ elim (same_or_less ts x.0.1 t1.front t1.whole) [
                | inl lt ↦ omega arith
                | inr same ↦ subst (λ (r : List T). k < length r) (sym same)
                    ((Q a).commits h tall x.0.1 k (subst (λ (r : List T). (n2 ≡ true) ⊎ (begins code f2 r ≡ true)) same c) x.2)
              ]
            ]
      ]

  bind_moves : (ts : List T) (b : B) (rest : List T) → ((n1 && n2) ≡ false) ⊎ (begins code (firsts n1 f1 f2) ts ≡ true) → and_then (p ts) q ≡ Ok (b, rest) → length rest < length ts
  bind_moves ts b rest h e =
      let x = bind_ok (p ts) q (b, rest) e in
      let a = x.0.0 in
      let t1 = P.ends ts a x.0.1 x.1 in
      let t2 = (Q a).ends x.0.1 b rest x.2 in
      let le1 : length x.0.1 ≤ length ts = shorter ts x.0.1 t1.front t1.whole in
      let le2 : length rest ≤ length x.0.1 = shorter x.0.1 rest t2.front t2.whole in
      elim h [
        | inr b0 ↦ elim (begins_second ts x.0.1 a b0 x.1) [
          | inl lt ↦ omega arith
          | inr b2 ↦ elim (same_or_less ts x.0.1 t1.front t1.whole) [
            | inl lt ↦ omega arith
            | inr same ↦ let lt : length rest < length x.0.1 = (Q a).moves x.0.1 b rest (inr (subst (λ (r : List T). begins code f2 r ≡ true) same b2)) x.2 in omega arith
          ]
        ]
        | inl off ↦ elim (bool_cases n1) [
          | inr no1 ↦ let lt : length x.0.1 < length ts = P.moves ts a x.0.1 (inl no1) x.1 in omega arith
          | inl t1 ↦
              let no2 : n2 ≡ false = sym (ap (λ (b : Bool). b && n2) t1) ∙ off in
              let lt : length rest < length x.0.1 = (Q a).moves x.0.1 b rest (inl no2) x.2 in omega arith
        ]
      ]

pub bind : {T : Type 0} {code : T → ℕ} {A B : Type 0} {Tall : Heights} {limit depth : ℕ} {n1 n2 o1 o2 : Bool} {f1 c1 g1 f2 c2 g2 : List ℕ} {p : Parser T A} {q : A → Parser T B} (l : ℕ → Lang T A) (f : ℕ → A → Lang T B) (d : ℕ)
    → Law code Tall limit depth n1 o1 f1 c1 g1 p (λ h. l h d) → ((a : A) → Law code Tall limit depth n2 o2 f2 c2 g2 (q a) (λ h. f h a d))
    → disjoint f2 c1 ≡ true → (n2 || disjoint f2 g1) ≡ true
    → Law code Tall limit depth (n1 && n2) (opened n1 o1 o2 (disjoint f2 g1)) (firsts n1 f1 f2) (joined n2 c1 c2) (joined n2 g1 g2) (λ ts. and_then (p ts) q) (λ h. sequence (l h) (f h) d)
bind {T} {code} {A} {B} {Tall} {limit} {depth} {n1} {n2} {o1} {o2} {f1} {c1} {g1} {f2} {c2} {g2} {p} {q} l f d P Q clash_free goes_free = record {
  shape = λ h. bind_shape (l h) (f h) d (P.shape h) (λ a. (Q a).shape h);
  least = bind_least T A B code Tall limit depth n1 n2 o1 o2 f1 c1 g1 f2 c2 g2 p q l f d P Q clash_free goes_free;
  opens = bind_opens T A B code Tall limit depth n1 n2 o1 o2 f1 c1 g1 f2 c2 g2 p q l f d P Q clash_free goes_free;
  sound = bind_sound T A B code Tall limit depth n1 n2 o1 o2 f1 c1 g1 f2 c2 g2 p q l f d P Q clash_free goes_free;
  complete = bind_complete T A B code Tall limit depth n1 n2 o1 o2 f1 c1 g1 f2 c2 g2 p q l f d P Q clash_free goes_free;
  ends = bind_ends T A B code Tall limit depth n1 n2 o1 o2 f1 c1 g1 f2 c2 g2 p q l f d P Q clash_free goes_free;
  stops = bind_stops T A B code Tall limit depth n1 n2 o1 o2 f1 c1 g1 f2 c2 g2 p q l f d P Q clash_free goes_free;
  moves = bind_moves T A B code Tall limit depth n1 n2 o1 o2 f1 c1 g1 f2 c2 g2 p q l f d P Q clash_free goes_free;
  commits = bind_commits T A B code Tall limit depth n1 n2 o1 o2 f1 c1 g1 f2 c2 g2 p q l f d P Q clash_free goes_free;
}
