-- Any number, one after the other.
use Rattle.std.proofs.Common.{◌≡◌, ℕ, zero, suc, ◌+◌, ◌<◌, ◌≤◌, Bool, true, false, List, [], ◌∷◌, ◌++◌, length, Ok, Err, refl, sym, ap, subst, ◌∙◌, append_assoc, arith, inl, inr}
use Rattle.std.specs.Prelude.{◌⊎◌}
use Rattle.std.proofs.lemmas.List.{length-append, append-nil}
use Rattle.grammar_laws.specs.declared.fault.Fault.TheVariants.{Stop}
use Rattle.grammar_laws.specs.declared.fault.Why.{Why}
use Rattle.grammar_laws.specs.declared.fault.Why.TheVariants.{Syntax, Depth}
use Rattle.grammar_laws.specs.Words.{member, begins, bare, Cell, Within}
use Rattle.grammar_laws.specs.Languages as g
use Rattle.grammar_laws.specs.Languages.{Lang, sequence, choice}
use Rattle.grammar_laws.specs.Readers.{Parser}
use Rattle.grammar_laws.proofs.Sets.{disjoint, apart, begins_none, bare_append_rest, Within-append, Alike, Alike-append, Agree-alike}
use Rattle.grammar_laws.proofs.Law.{Shape, Took, Completes, Ends, Goes, Stops, Least, Opens, Heights, Law}
use Rattle.grammar_laws.proofs.Turns.{all_none, all_some, all_stop_first, all_stop_later, all_ok, all_err}
use Rattle.grammar_laws.proofs.Choice.{begins_again}
use Rattle.grammar_laws.specs.Readers as r
use Rattle.grammar_laws.proofs.Whiles.{while_from, many_while}

-- ---- the words

many_starts : {T : Type 0} (code : T → ℕ) {A : Type 0} (depth : ℕ) (f1 g1 : List ℕ) (l : Lang T A) (d : ℕ) → Shape code depth false f1 g1 (l d)
    → (c : Cell T) (w : List (Cell T)) (r : List T) (as1 : List A) → g.many l d (c ∷ w) r as1 → (member f1 (code c.0) ≡ true) × (depth ≤ c.1)
unfolding g.many
many_starts {T} code depth f1 g1 l d s c w r [] x = absurd cc
many_starts {T} code depth f1 g1 l d s c w r (a ∷ more) ([], v, e, x, y) = let off : false ≡ true = s.empty (bare v ++ r) a x in absurd cc
many_starts {T} code depth f1 g1 l d s c w r (a ∷ more) (k ∷ u, v, e, x, y) =
    let same : c ≡ k = cc in
    subst (λ (c : Cell T). (member f1 (code c.0) ≡ true) × (depth ≤ c.1)) (sym same) (s.starts k u (bare v ++ r) a x)

pub keeps_item : {T : Type 0} (code : T → ℕ) (v : List (Cell T)) (g1 : List ℕ) (r s : List T) → Alike r s ⊎ (begins code g1 s ≡ false) → Alike (bare v ++ r) (bare v ++ s) ⊎ (begins code g1 (bare v ++ s) ≡ false)
keeps_item {T} code [] g1 r s h = h
keeps_item {T} code (c ∷ v) g1 r s h = inl refl

many_keeps : {T : Type 0} (code : T → ℕ) {A : Type 0} (depth : ℕ) (f1 g1 : List ℕ) (l : Lang T A) (d : ℕ) → Shape code depth false f1 g1 (l d)
    → (w : List (Cell T)) (r s : List T) (as1 : List A) → g.many l d w r as1 → Alike r s ⊎ (begins code g1 s ≡ false) → g.many l d w s as1
unfolding g.many
many_keeps {T} code depth f1 g1 l d sh w r s [] x h = x
many_keeps {T} code depth f1 g1 l d sh w r s (a ∷ more) (u, v, e, x, y) h =
    (u, v, e, sh.keeps u (bare v ++ r) (bare v ++ s) a x (keeps_item code v g1 r s h), many_keeps code depth f1 g1 l d sh v r s more y h)

pub many_shape : {T : Type 0} {code : T → ℕ} {A : Type 0} {depth : ℕ} {f1 g1 : List ℕ} (l : Lang T A) (d : ℕ) → Shape code depth false f1 g1 (l d) → Shape code depth true f1 g1 (g.many l d)
many_shape {T} {code} {A} {depth} {f1} {g1} l d s = record {
  empty = λ r a x. refl;
  starts = many_starts code depth f1 g1 l d s;
  keeps = many_keeps code depth f1 g1 l d s;
}

-- ---- the law

module _ (T A : Type 0) (code : T → ℕ) (Tall : Heights) (limit depth : ℕ) (o : Bool) (f1 c1 g1 : List ℕ) (p : Parser T A) (l : ℕ → Lang T A) (d : ℕ)
    (P : Law code Tall limit depth false o f1 c1 g1 p (λ h. l h d)) (clash_free : disjoint f1 c1 ≡ true) (goes_free : disjoint f1 g1 ≡ true) where
  moves_always : (ts : List T) (a : A) (rest : List T) → p ts ≡ Ok (a, rest) → length rest < length ts
  moves_always ts a rest e = P.moves ts a rest (inl refl) e

  abbrev every : Parser T (List A)
  every = λ ts. while_from (begins code f1) p (length ts) ts

  many_least : (h : ℕ) → Tall.some h → Least true (g.many (l h) d)
  unfolding g.many
  many_least h tall = record { word = []; empty = λ e. refl; value = []; derived = refl }

  many_opens : (h : ℕ) → Tall.some h → o ≡ true → Opens code (g.many (l h) d) f1
  unfolding g.many
  many_opens h some e t b =
      let x = P.opens h some e t b in
      let word : List (Cell T) = (t, x.1) ∷ x.0 in
      (x.0, x.1, x.2 ∷ [], (word, [], sym (append-nil word), x.3, refl))

  sound_step : (h : ℕ) → Tall.tall h → (ts : List T) (as1 : List A) (rest : List T) → ((mid : List T) (more : List A) → length mid < length ts → every mid ≡ Ok (more, rest) → Took limit (g.many (l h) d) mid more rest)
      → every ts ≡ Ok (as1, rest) → Took limit (g.many (l h) d) ts as1 rest
  unfolding g.many
  sound_step h tall ts as1 rest ih e = elim (all_ok T A (begins code f1) refl p moves_always ts as1 rest e) [
    | inl x ↦ subst (λ (as1 : List A). Took limit (g.many (l h) d) ts as1 rest) x.1 (record { word = []; whole = x.2; within = tt; derived = refl })
    | inr x ↦
        let a = x.1.0 in
        let mid = x.1.1 in
        let more = x.1.2 in
        let t1 = P.sound h tall ts a mid x.1.3 in
        let t2 = ih mid more (moves_always ts a mid x.1.3) x.1.4 in
        subst (λ (as1 : List A). Took limit (g.many (l h) d) ts as1 rest) x.1.5 (record {
          word = t1.word ++ t2.word;
          whole = t1.whole ∙ ap (λ (r : List T). bare t1.word ++ r) t2.whole ∙ sym (bare_append_rest t1.word t2.word rest);
          within = Within-append limit t1.word t2.word t1.within t2.within;
          derived = (t1.word, t2.word, refl, subst (λ (r : List T). l h d t1.word r a) t2.whole t1.derived, t2.derived);
        })
  ]

  many_sound : (n : ℕ) (h : ℕ) → Tall.tall h → (ts : List T) (as1 : List A) (rest : List T) → length ts ≤ n → every ts ≡ Ok (as1, rest) → Took limit (g.many (l h) d) ts as1 rest
  many_sound zero h tall ts as1 rest le e = sound_step h tall ts as1 rest (λ mid more lt f. absurd (omega arith)) e
  many_sound (suc n) h tall ts as1 rest le e = sound_step h tall ts as1 rest (λ mid more lt f. many_sound n h tall mid more rest (omega arith) f) e

  clash_item : (h : ℕ) (v : List (Cell T)) (rest : List T) (more : List A) → g.many (l h) d v rest more → begins code (c1 ++ f1) rest ≡ false → begins code c1 (bare v ++ rest) ≡ false
  clash_item h [] rest more y stops = (begins_none code c1 f1 rest stops).0
  clash_item h (c ∷ v) rest more y stops = apart f1 c1 (code c.0) clash_free (many_starts code depth f1 g1 (l h) d (P.shape h) c v rest more y).0

  begins_item : (h : ℕ) (u : List (Cell T)) (r rest : List T) (a : A) → l h d u r a → begins code f1 (bare u ++ rest) ≡ true
  begins_item h [] r rest a x = let off : false ≡ true = (P.shape h).empty r a x in absurd cc
  begins_item h (c ∷ u) r rest a x = ((P.shape h).starts c u r a x).0

  later_completes : (u v w : List (Cell T)) (rest : List T) (a : A) (more : List A) → w ≡ u ++ v → ((h : ℕ) → Tall.tall h → Within limit u) → begins code f1 (bare u ++ (bare v ++ rest)) ≡ true → p (bare u ++ (bare v ++ rest)) ≡ Ok (a, bare v ++ rest)
      → Completes Tall.tall limit v rest more (every (bare v ++ rest)) → Completes Tall.tall limit w rest (a ∷ more) (every (bare u ++ (bare v ++ rest)))
  later_completes u v w rest a more e within b ok (inl f) = inl (all_some T A (begins code f1) refl p moves_always (bare u ++ (bare v ++ rest)) a (bare v ++ rest) more rest b ok f.0, λ h tall. subst (Within limit) (sym e) (Within-append limit u v (within h tall) (f.1 h tall)))
  later_completes u v w rest a more e within b ok (inr dives) = inr (record {
    front = u ++ dives.front;
    deep = dives.deep;
    back = dives.back;
    parts = e ∙ ap (λ (v : List (Cell T)). u ++ v) dives.parts ∙ sym (append_assoc u dives.front (dives.deep ∷ dives.back));
    shallow = λ h tall. Within-append limit u dives.front (within h tall) (dives.shallow h tall);
    over = dives.over;
    is_stop = all_stop_later T A (begins code f1) refl p moves_always (bare u ++ (bare v ++ rest)) a (bare v ++ rest) (Stop Depth (suc (length (bare dives.back ++ rest)))) b ok dives.is_stop;
  })

  many_complete : (h : ℕ) (w : List (Cell T)) (rest : List T) (as1 : List A) → g.many (l h) d w rest as1 → begins code (c1 ++ f1) rest ≡ false → Completes Tall.tall limit w rest as1 (every (bare w ++ rest))
  unfolding g.many
  many_complete h w rest [] x stops =
      inl (ap (λ (w : List (Cell T)). every (bare w ++ rest)) x ∙ all_none T A (begins code f1) refl p moves_always rest (begins_none code c1 f1 rest stops).1, λ k tall. subst (Within limit) (sym x) tt)
  many_complete h w rest (a ∷ more) (u, v, e, x, y) stops =
      let b = begins_item h u (bare v ++ rest) (bare v ++ rest) a x in
      let read : bare w ++ rest ≡ bare u ++ (bare v ++ rest) = ap (λ (w : List (Cell T)). bare w ++ rest) e ∙ bare_append_rest u v rest in
      let later = many_complete h v rest more y stops in
      let goal : List T → Type 0 = λ ts. Completes Tall.tall limit w rest (a ∷ more) (every ts) in
      subst goal (sym read) (elim (P.complete h u (bare v ++ rest) a x (clash_item h v rest more y stops)) [
        | inl ok ↦ later_completes u v w rest a more e ok.1 b ok.0 later
        | inr dives ↦ inr (record {
          front = dives.front;
          deep = dives.deep;
          back = dives.back ++ v;
          parts = e ∙ ap (λ (u : List (Cell T)). u ++ v) dives.parts ∙ append_assoc dives.front (dives.deep ∷ dives.back) v;
          shallow = dives.shallow;
          over = dives.over;
          is_stop = all_stop_first T A (begins code f1) refl p moves_always (bare u ++ (bare v ++ rest)) (Stop Depth (suc (length (bare dives.back ++ (bare v ++ rest))))) b dives.is_stop
              ∙ ap (λ (r : List T). Err (Stop Depth (suc (length r)))) (sym (bare_append_rest dives.back v rest));
        })
      ])

  ends_step : (ts : List T) (as1 : List A) (rest : List T) → ((mid : List T) (more : List A) → length mid < length ts → every mid ≡ Ok (more, rest) → Ends every mid more rest)
      → every ts ≡ Ok (as1, rest) → Ends every ts as1 rest
  ends_step ts as1 rest ih e = elim (all_ok T A (begins code f1) refl p moves_always ts as1 rest e) [
    | inl x ↦ record {
      front = [];
      whole = x.2;
      again = λ s like. all_none T A (begins code f1) refl p moves_always s (begins_again code f1 ts [] rest s false x.2 like x.0) ∙ ap (λ (as1 : List A). Ok (as1, s)) x.1;
    }
    | inr x ↦
        let a = x.1.0 in
        let mid = x.1.1 in
        let more = x.1.2 in
        let t1 = P.ends ts a mid x.1.3 in
        let t2 = ih mid more (moves_always ts a mid x.1.3) x.1.4 in
        let whole : ts ≡ (t1.front ++ t2.front) ++ rest = t1.whole ∙ ap (λ (r : List T). t1.front ++ r) t2.whole ∙ sym (append_assoc t1.front t2.front rest) in
        record {
          front = t1.front ++ t2.front;
          whole = whole;
          again = λ s like.
              let like2 : Alike mid (t2.front ++ s) = subst (λ (r : List T). Alike r (t2.front ++ s)) (sym t2.whole) (Alike-append t2.front rest s like) in
              let b : begins code f1 (t1.front ++ (t2.front ++ s)) ≡ true = begins_again code f1 ts t1.front mid (t2.front ++ s) true t1.whole like2 x.0 in
              ap every (append_assoc t1.front t2.front s)
              ∙ all_some T A (begins code f1) refl p moves_always (t1.front ++ (t2.front ++ s)) a (t2.front ++ s) more s b (t1.again (t2.front ++ s) like2) (t2.again s like)
              ∙ ap (λ (as1 : List A). Ok (as1, s)) x.1.5;
        }
  ]

  many_ends : (n : ℕ) (ts : List T) (as1 : List A) (rest : List T) → length ts ≤ n → every ts ≡ Ok (as1, rest) → Ends every ts as1 rest
  many_ends zero ts as1 rest le e = ends_step ts as1 rest (λ mid more lt f. absurd (omega arith)) e
  many_ends (suc n) ts as1 rest le e = ends_step ts as1 rest (λ mid more lt f. many_ends n mid more rest (omega arith) f) e

  item_follows : (h : ℕ) (why : Why) (two : Bool) (w : List (Cell T)) (rest mid : List T) (n : ℕ) (more : List (Cell T)) (values : List A) → g.many (l h) d (w ++ more) [] values
      → Goes why two rest more → n ≡ length rest → mid ≡ bare w ++ rest → (why ≡ Syntax → n < length mid)
      → Alike (bare w ++ rest) (bare (w ++ more) ++ []) ⊎ (begins code g1 (bare (w ++ more) ++ []) ≡ false)
  item_follows h why two (c ∷ w) rest mid n more values x goes en em stopped = inl refl
  item_follows h Depth two [] rest mid n more values x goes en em stopped = inl (subst (Alike rest) (sym (append-nil (bare more))) (Agree-alike two rest (bare more) goes))
  item_follows h Syntax two [] rest mid n more values x goes en em stopped =
      let below : n < length mid = stopped refl in
      let len : length mid ≡ length rest = ap length em in
      absurd (omega arith)

  abbrev StopsAt : (h : ℕ) (ts : List T) (why : Why) (n : ℕ) → Type 0
  StopsAt h ts why n = Stops limit every (g.many (l h) d) ts why n × (why ≡ Syntax → n < length ts)

  stops_step : (h : ℕ) → Tall.tall h → (ts : List T) (why : Why) (n : ℕ) → ((mid : List T) → length mid < length ts → every mid ≡ Err (Stop why n) → StopsAt h mid why n)
      → every ts ≡ Err (Stop why n) → StopsAt h ts why n
  unfolding g.many
  stops_step h tall ts why n ih e =
      let x = all_err T A (begins code f1) refl p moves_always ts (Stop why n) e in
      elim x.1 [
        | inl y ↦
            let s1 = P.stops h tall ts why n y in
            let h1 = s1.halts in
            let t1 = s1.viable in (
              record {
                two = s1.two;
                halts = record {
                  front = h1.front;
                  rest = h1.rest;
                  whole = h1.whole;
                  left = h1.left;
                  again = λ s agree.
                      all_stop_first T A (begins code f1) refl p moves_always (h1.front ++ s) (Stop why (length s))
                      (begins_again code f1 ts h1.front h1.rest s true h1.whole (Agree-alike s1.two h1.rest s agree) x.0) (h1.again s agree);
                };
                viable = record {
                  word = t1.word;
                  rest = t1.rest;
                  whole = t1.whole;
                  left = t1.left;
                  within = t1.within;
                  more = t1.more;
                  goes = t1.goes;
                  value = t1.value ∷ [];
                  derived = (t1.word ++ t1.more, [], sym (append-nil (t1.word ++ t1.more)), t1.derived, refl);
                };
              },
              λ is_syntax. P.commits h tall ts n (inr x.0) (y ∙ ap (λ (w : Why). Err (Stop w n)) is_syntax),
            )
        | inr y ↦
            let a = y.0 in
            let mid = y.1 in
            let e1 = P.ends ts a mid y.2 in
            let t1 = P.sound h tall ts a mid y.2 in
            let shorter : length mid < length ts = moves_always ts a mid y.2 in
            let both = ih mid shorter y.3 in
            let s2 = both.0 in
            let h2 = s2.halts in
            let t2 = s2.viable in
            let after = item_follows h why s2.two t2.word t2.rest mid n t2.more t2.value t2.derived t2.goes t2.left t2.whole both.1 in (
              record {
                two = s2.two;
                halts = record {
                  front = e1.front ++ h2.front;
                  rest = h2.rest;
                  whole = e1.whole ∙ ap (λ (r : List T). e1.front ++ r) h2.whole ∙ sym (append_assoc e1.front h2.front h2.rest);
                  left = h2.left;
                  again = λ s agree.
                      let like : Alike mid (h2.front ++ s) = subst (λ (r : List T). Alike r (h2.front ++ s)) (sym h2.whole) (Alike-append h2.front h2.rest s (Agree-alike s2.two h2.rest s agree)) in
                      let b : begins code f1 (e1.front ++ (h2.front ++ s)) ≡ true = begins_again code f1 ts e1.front mid (h2.front ++ s) true e1.whole like x.0 in
                      ap every (append_assoc e1.front h2.front s)
                      ∙ all_stop_later T A (begins code f1) refl p moves_always (e1.front ++ (h2.front ++ s)) a (h2.front ++ s) (Stop why (length s)) b (e1.again (h2.front ++ s) like) (h2.again s agree);
                };
                viable = record {
                  word = t1.word ++ t2.word;
                  rest = t2.rest;
                  whole = t1.whole ∙ ap (λ (r : List T). bare t1.word ++ r) t2.whole ∙ sym (bare_append_rest t1.word t2.word t2.rest);
                  left = t2.left;
                  within = Within-append limit t1.word t2.word t1.within t2.within;
                  more = t2.more;
                  goes = t2.goes;
                  value = a ∷ t2.value;
                  derived = (
                    t1.word,
                    t2.word ++ t2.more,
                    append_assoc t1.word t2.word t2.more,
                    (P.shape h).keeps t1.word (bare t2.word ++ t2.rest) (bare (t2.word ++ t2.more) ++ []) a (subst (λ (r : List T). l h d t1.word r a) t2.whole t1.derived) after,
                    t2.derived,
                  );
                };
              },
              λ is_syntax. let below : n < length mid = both.1 is_syntax in omega arith,
            )
      ]

  many_stops : (m : ℕ) (h : ℕ) → Tall.tall h → (ts : List T) (why : Why) (n : ℕ) → length ts ≤ m → every ts ≡ Err (Stop why n) → StopsAt h ts why n
  many_stops zero h tall ts why n le e = stops_step h tall ts why n (λ mid lt f. absurd (omega arith)) e
  many_stops (suc m) h tall ts why n le e = stops_step h tall ts why n (λ mid lt f. many_stops m h tall mid why n (omega arith) f) e

  many_moves : (ts : List T) (as1 : List A) (rest : List T) → (true ≡ false) ⊎ (begins code f1 ts ≡ true) → every ts ≡ Ok (as1, rest) → length rest < length ts
  many_moves ts as1 rest (inl t) e = absurd cc
  many_moves ts as1 rest (inr b) e = elim (all_ok T A (begins code f1) refl p moves_always ts as1 rest e) [
    | inl x ↦ let off : false ≡ true = sym x.0 ∙ b in absurd cc
    | inr x ↦
        let mid = x.1.1 in
        let lt : length mid < length ts = moves_always ts x.1.0 mid x.1.3 in
        let t2 = many_ends (length mid) mid x.1.2 rest (omega arith) x.1.4 in
        let len : length mid ≡ length t2.front + length rest = ap length t2.whole ∙ length-append t2.front rest in
        omega arith
  ]

pub many : {T : Type 0} {code : T → ℕ} {A : Type 0} {Tall : Heights} {limit depth : ℕ} {n1 o1 : Bool} {f1 c1 g1 : List ℕ} {p : Parser T A} (codes : List ℕ) (l : ℕ → Lang T A) (d : ℕ)
    → Law code Tall limit depth n1 o1 f1 c1 g1 p (λ h. l h d) → n1 ≡ false → f1 ≡ codes → disjoint codes c1 ≡ true → disjoint codes g1 ≡ true
    → Law code Tall limit depth true o1 codes (c1 ++ codes) g1 (r.many code codes p) (λ h. g.many (l h) d)
many {T} {code} {A} {Tall} {limit} {depth} {n1} {o1} {f1} {c1} {g1} {p} codes l d P' none same clash_free goes_free =
    let P = subst (λ (f : List ℕ). Law code Tall limit depth false o1 f c1 g1 p (λ h. l h d)) same (subst (λ (b : Bool). Law code Tall limit depth b o1 f1 c1 g1 p (λ h. l h d)) none P') in
    subst (λ (q : Parser T (List A)). Law code Tall limit depth true o1 codes (c1 ++ codes) g1 q (λ h. g.many (l h) d)) (many_while code codes p) (record {
      shape = λ h. many_shape (l h) d (P.shape h);
      least = many_least T A code Tall limit depth o1 codes c1 g1 p l d P clash_free goes_free;
      opens = many_opens T A code Tall limit depth o1 codes c1 g1 p l d P clash_free goes_free;
      sound = λ h tall ts as1 rest e. many_sound T A code Tall limit depth o1 codes c1 g1 p l d P clash_free goes_free (length ts) h tall ts as1 rest (omega arith) e;
      complete = many_complete T A code Tall limit depth o1 codes c1 g1 p l d P clash_free goes_free;
      ends = λ ts as1 rest e. many_ends T A code Tall limit depth o1 codes c1 g1 p l d P clash_free goes_free (length ts) ts as1 rest (omega arith) e;
      stops = λ h tall ts why n e. (many_stops T A code Tall limit depth o1 codes c1 g1 p l d P clash_free goes_free (length ts) h tall ts why n (omega arith) e).0;
      commits = λ h tall ts k o e. (many_stops T A code Tall limit depth o1 codes c1 g1 p l d P clash_free goes_free (length ts) h tall ts Syntax k (omega arith) e).1 refl;
      moves = many_moves T A code Tall limit depth o1 codes c1 g1 p l d P clash_free goes_free;
    })
