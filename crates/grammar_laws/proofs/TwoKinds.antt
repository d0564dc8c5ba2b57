-- Items of one kind and then of another, as declarations and then statements, where both may begin with a name: the token behind the name decides.
use Rattle.std.proofs.Common.{◌≡◌, ℕ, zero, suc, ◌+◌, ◌<◌, ◌≤◌, Bool, true, false, List, [], ◌∷◌, ◌++◌, length, Ok, Err, refl, sym, ap, subst, ◌∙◌, append_assoc, arith, inl, inr}
use Rattle.std.specs.Prelude.{◌⊎◌, ◌&&◌, not}
use Rattle.std.proofs.lemmas.List.{length-append, append-nil}
use Rattle.grammar_laws.specs.declared.fault.Fault.TheVariants.{Stop}
use Rattle.grammar_laws.specs.declared.fault.Why.{Why}
use Rattle.grammar_laws.specs.declared.fault.Why.TheVariants.{Syntax, Depth}
use Rattle.grammar_laws.specs.Words.{member, begins, behind, bare, Cell, Within}
use Rattle.grammar_laws.specs.Languages.{Lang}
use Rattle.grammar_laws.specs.Readers.{Parser, first_kind, stray}
use Rattle.grammar_laws.proofs.Sets.{disjoint, or_true, and_true, member-append, apart, begins_none, bare_append_rest, Within-append, Alike, Alike-append, Agree, Agree-alike, Agree-fewer}
use Rattle.grammar_laws.proofs.Law.{Words, Took, Completes, Ends, Goes, Viable, Stops, Least, Opens, Heights, Law, bool_cases}
use Rattle.grammar_laws.proofs.TwoKindsTurns.{kind_alike, stray_alike, kind_other, stray_other, kind_own, stray_name, two_kinds, two_some, two_later, two_stop, two_last, two_last_stop, two_stray, two_ok, two_err}
use Rattle.grammar_laws.proofs.TwoKindsWords.{two_words, paired, two_starts, two_shape}
use Rattle.grammar_laws.proofs.TwoKindsTests.{again_test, is_name, quiet, here_begins, outside, here_name, second_kind}

-- Words that begin with a name go on with one of these codes.
pub record Second {T A : Type 0} (code : T → ℕ) (name : ℕ) (set : List ℕ) (words : Words T A) : Type 0 where
  pub second : (c : Cell T) (w : List (Cell T)) (r : List T) (a : A) → words (c ∷ w) r a → code c.0 ≡ name → (k : Cell T) × (v : List (Cell T)) × (w ≡ k ∷ v) × (member set (code k.0) ≡ true)

-- Each name and token with one of these codes begin a word, the name no deeper than so much.
pub record OpensWith {T A : Type 0} (code : T → ℕ) (name : ℕ) (set : List ℕ) (Deep : ℕ → Type 0) (words : Words T A) : Type 0 where
  pub opens : (t u : T) → code t ≡ name → member set (code u) ≡ true → (k : ℕ) × (j : ℕ) × (w : List (Cell T)) × (a : A) × Deep k × words ((t, k) ∷ (u, j) ∷ w) [] a

-- ---- the law

module _ (T A B : Type 0) (code : T → ℕ) (Tall : Heights) (limit depth : ℕ) (o1 o2 : Bool) (own : List ℕ) (name : ℕ) (after c1 g1 fM c2 g2 : List ℕ) (p : Parser T A) (q : Parser T B) (l : ℕ → Lang T A) (m : ℕ → Lang T B) (d : ℕ)
    (P : Law code Tall limit depth false o1 (own ++ name ∷ []) c1 g1 p (λ h. l h d)) (Q : Law code Tall limit depth true o2 fM c2 g2 q (λ h. m h d))
    (own_apart : disjoint fM own ≡ true) (named : member fM name ≡ true) (after_other : member after name ≡ false) (clash_free : disjoint ((own ++ name ∷ []) ++ fM) c1 ≡ true)
    (second1 : (h : ℕ) → Second code name (name ∷ []) (l h d)) (second2 : (h : ℕ) → Second code name after (m h d))
    (opens1 : (h : ℕ) → Tall.tall h → OpensWith code name (name ∷ []) (λ k. k ≤ limit) (l h d)) (opens2 : (h : ℕ) → Tall.tall h → OpensWith code name after (λ k. Unit {0}) (m h d)) where
  pub moves_always : (ts : List T) (a : A) (rest : List T) → p ts ≡ Ok (a, rest) → length rest < length ts
  moves_always ts a rest e = P.moves ts a rest (inl refl) e

  abbrev z : Parser T (List A × B)
  z = two_kinds T A B code own name after p q moves_always

  abbrev fD : List ℕ
  fD = own ++ name ∷ []

  abbrev kind : List T → Bool
  kind = first_kind code own name

  abbrev gone : List T → Bool
  gone = stray code name after

  kind_at : (ts front rest s : List T) (b : Bool) → ts ≡ front ++ rest → length rest < length ts → Alike rest s → kind ts ≡ b → kind (front ++ s) ≡ b
  kind_at = again_test kind (kind_alike T code own name after)

  gone_at : (ts front rest s : List T) (b : Bool) → ts ≡ front ++ rest → length rest < length ts → Alike rest s → gone ts ≡ b → gone (front ++ s) ≡ b
  gone_at = again_test gone (stray_alike T code own name after)

  abbrev W : ℕ → Words T (List A × B)
  W h = paired (l h) (m h) d

  z_least : (h : ℕ) → Tall.some h → Least true (W h)
  unfolding two_words
  z_least h tall = let x = Q.least h tall in record { word = x.word; empty = x.empty; value = ([], x.value); derived = x.derived }

  -- a word of the first kind alone
  alone : (h : ℕ) → Tall.some h → (w : List (Cell T)) (a : A) → l h d w [] a → (b : B) × two_words (l h) (m h) d w [] (a ∷ []) b
  unfolding two_words
  alone h tall w a x =
      let y = Q.least h tall in
      let none : y.word ≡ [] = y.empty refl in
      (y.value, (w, [], sym (append-nil w), x, subst (λ (w : List (Cell T)). m h d w [] y.value) none y.derived))

  z_opens : (h : ℕ) → Tall.some h → (o1 && o2) ≡ true → Opens code (W h) (fD ++ fM)
  unfolding two_words
  z_opens h some o t e =
      let both = and_true o1 o2 o in
      elim (or_true (member fD (code t)) (member fM (code t)) (sym (member-append fD fM (code t)) ∙ e)) [
        | inl on ↦ let x = P.opens h some both.0 t on in let y = alone h some ((t, x.1) ∷ x.0) x.2 x.3 in (x.0, x.1, (x.2 ∷ [], y.0), y.1)
        | inr on ↦ let x = Q.opens h some both.1 t on in (x.0, x.1, ([], x.2), x.3)
      ]

  -- ---- what is read is a word

  sound_step : (h : ℕ) → Tall.tall h → (ts : List T) (x : List A × B) (rest : List T) → ((mid : List T) (y : List A × B) → length mid < length ts → z mid ≡ Ok (y, rest) → Took limit (W h) mid y rest)
      → z ts ≡ Ok (x, rest) → Took limit (W h) ts x rest
  unfolding two_words
  sound_step h tall ts x rest ih e = elim (two_ok T A B code own name after p q moves_always ts x rest e) [
    | inl o ↦
        let a = o.1.0 in
        let mid = o.1.1 in
        let y = o.1.2 in
        let t1 = P.sound h tall ts a mid o.1.3 in
        let t2 = ih mid y (moves_always ts a mid o.1.3) o.1.4 in
        subst (λ (x : List A × B). Took limit (W h) ts x rest) o.1.5 (record {
          word = t1.word ++ t2.word;
          whole = t1.whole ∙ ap (λ (r : List T). bare t1.word ++ r) t2.whole ∙ sym (bare_append_rest t1.word t2.word rest);
          within = Within-append limit t1.word t2.word t1.within t2.within;
          derived = (t1.word, t2.word, refl, subst (λ (r : List T). l h d t1.word r a) t2.whole t1.derived, t2.derived);
        })
    | inr o ↦
        let t = Q.sound h tall ts o.2.0 rest o.2.1 in
        subst (λ (x : List A × B). Took limit (W h) ts x rest) o.2.2 (record { word = t.word; whole = t.whole; within = t.within; derived = t.derived })
  ]

  z_sound : (k h : ℕ) → Tall.tall h → (ts : List T) (x : List A × B) (rest : List T) → length ts ≤ k → z ts ≡ Ok (x, rest) → Took limit (W h) ts x rest
  z_sound zero h tall ts x rest le e = sound_step h tall ts x rest (λ mid y lt f. absurd (omega arith)) e
  z_sound (suc k) h tall ts x rest le e = sound_step h tall ts x rest (λ mid y lt f. z_sound k h tall mid y rest (omega arith) f) e

  -- ---- each word is read

  first_comes : (h : ℕ) (u : List (Cell T)) (r s : List T) (a : A) → l h d u r a → kind (bare u ++ s) ≡ true
  first_comes h [] r s a x = let off : false ≡ true = (P.shape h).empty r a x in absurd cc
  first_comes h (c ∷ u) r s a x = elim (or_true (member own (code c.0)) (member (name ∷ []) (code c.0)) (sym (member-append own (name ∷ []) (code c.0)) ∙ ((P.shape h).starts c u r a x).0)) [
    | inl o ↦ kind_own T code own name after c.0 (bare u ++ s) o
    | inr n ↦
        let k = (second1 h).second c u r a x (is_name T code own name after fM own_apart named c.0 n) in
        subst (λ (u : List (Cell T)). kind (c.0 ∷ (bare u ++ s)) ≡ true) (sym k.2) (here_name T code own name after fM own_apart named c.0 k.0.0 (bare k.1 ++ s) n k.3)
  ]

  last_comes : (h : ℕ) (w : List (Cell T)) (r s : List T) (b : B) → m h d w r b → begins code fD s ≡ false → (kind (bare w ++ s) ≡ false) × (gone (bare w ++ s) ≡ false)
  last_comes h [] r s b x stops = outside T code own name after fM own_apart named s stops
  last_comes h (c ∷ w) r s b x stops = second_kind T code own name after fM own_apart named c (bare w ++ s) ((Q.shape h).starts c w r b x).0
      (λ e. let k = (second2 h).second c w r b x e in subst (λ (w : List (Cell T)). begins code after (bare w ++ s) ≡ true) (sym k.2) k.3) after_other

  clash_item : (h : ℕ) (v : List (Cell T)) (rest : List T) (more : List A) (b : B) → two_words (l h) (m h) d v rest more b → begins code c1 rest ≡ false → begins code c1 (bare v ++ rest) ≡ false
  clash_item h [] rest more b y stops = stops
  clash_item h (c ∷ v) rest more b y stops = apart (fD ++ fM) c1 (code c.0) clash_free (two_starts T A B code depth fD g1 fM g2 (l h) (m h) d (P.shape h) (Q.shape h) c v rest more b y).0

  last_completes : (w : List (Cell T)) (rest : List T) (b : B) → (kind (bare w ++ rest) ≡ false) × (gone (bare w ++ rest) ≡ false) → Completes Tall.tall limit w rest b (q (bare w ++ rest)) → Completes Tall.tall limit w rest ([], b) (z (bare w ++ rest))
  last_completes w rest b off (inl ok) = inl (two_last T A B code own name after p q moves_always (bare w ++ rest) b rest off.0 off.1 ok.0, ok.1)
  last_completes w rest b off (inr dives) = inr (record {
    front = dives.front;
    deep = dives.deep;
    back = dives.back;
    parts = dives.parts;
    shallow = dives.shallow;
    over = dives.over;
    is_stop = two_last_stop T A B code own name after p q moves_always (bare w ++ rest) (Stop Depth (suc (length (bare dives.back ++ rest)))) off.0 off.1 dives.is_stop;
  })

  later_completes : (u v w : List (Cell T)) (rest : List T) (a : A) (more : List A) (b : B) → w ≡ u ++ v → ((h : ℕ) → Tall.tall h → Within limit u) → kind (bare u ++ (bare v ++ rest)) ≡ true → p (bare u ++ (bare v ++ rest)) ≡ Ok (a, bare v ++ rest)
      → Completes Tall.tall limit v rest (more, b) (z (bare v ++ rest)) → Completes Tall.tall limit w rest (a ∷ more, b) (z (bare u ++ (bare v ++ rest)))
  later_completes u v w rest a more b e within k ok (inl f) =
      inl (two_some T A B code own name after p q moves_always (bare u ++ (bare v ++ rest)) a (bare v ++ rest) (more, b) rest k ok f.0, λ h tall. subst (Within limit) (sym e) (Within-append limit u v (within h tall) (f.1 h tall)))
  later_completes u v w rest a more b e within k ok (inr dives) = inr (record {
    front = u ++ dives.front;
    deep = dives.deep;
    back = dives.back;
    parts = e ∙ ap (λ (v : List (Cell T)). u ++ v) dives.parts ∙ sym (append_assoc u dives.front (dives.deep ∷ dives.back));
    shallow = λ h tall. Within-append limit u dives.front (within h tall) (dives.shallow h tall);
    over = dives.over;
    is_stop = two_later T A B code own name after p q moves_always (bare u ++ (bare v ++ rest)) a (bare v ++ rest) (Stop Depth (suc (length (bare dives.back ++ rest)))) k ok dives.is_stop;
  })

  z_complete : (h : ℕ) (w : List (Cell T)) (rest : List T) (as1 : List A) (b : B) → two_words (l h) (m h) d w rest as1 b → begins code (c2 ++ (fD ++ c1)) rest ≡ false → Completes Tall.tall limit w rest (as1, b) (z (bare w ++ rest))
  unfolding two_words
  z_complete h w rest [] b x stops =
      let cut = begins_none code c2 (fD ++ c1) rest stops in
      last_completes w rest b (last_comes h w rest rest b x (begins_none code fD c1 rest cut.1).0) (Q.complete h w rest b x cut.0)
  z_complete h w rest (a ∷ more) b (u, v, e, x, y) stops =
      let cut = begins_none code c2 (fD ++ c1) rest stops in
      let k = first_comes h u (bare v ++ rest) (bare v ++ rest) a x in
      let read : bare w ++ rest ≡ bare u ++ (bare v ++ rest) = ap (λ (w : List (Cell T)). bare w ++ rest) e ∙ bare_append_rest u v rest in
      let later = z_complete h v rest more b y stops in
      let goal : List T → Type 0 = λ ts. Completes Tall.tall limit w rest (a ∷ more, b) (z ts) in
      subst goal (sym read) (elim (P.complete h u (bare v ++ rest) a x (clash_item h v rest more b y (begins_none code fD c1 rest cut.1).1)) [
        | inl ok ↦ later_completes u v w rest a more b e ok.1 k ok.0 later
        | inr dives ↦ inr (record {
          front = dives.front;
          deep = dives.deep;
          back = dives.back ++ v;
          parts = e ∙ ap (λ (u : List (Cell T)). u ++ v) dives.parts ∙ append_assoc dives.front (dives.deep ∷ dives.back) v;
          shallow = dives.shallow;
          over = dives.over;
          is_stop = two_stop T A B code own name after p q moves_always (bare u ++ (bare v ++ rest)) (Stop Depth (suc (length (bare dives.back ++ (bare v ++ rest))))) k dives.is_stop
              ∙ ap (λ (r : List T). Err (Stop Depth (suc (length r)))) (sym (bare_append_rest dives.back v rest));
        })
      ])

  -- ---- one token ahead, or two

  shorter : (ts front rest : List T) → ts ≡ front ++ rest → length rest ≤ length ts
  shorter ts front rest e = let len : length ts ≡ length front + length rest = ap length e ∙ length-append front rest in omega arith

  last_ends : (ts : List T) (b : B) (rest front : List T) → kind ts ≡ false → gone ts ≡ false → q ts ≡ Ok (b, rest) → ts ≡ front ++ rest → ((s : List T) → Alike rest s → q (front ++ s) ≡ Ok (b, s)) → Ends z ts ([], b) rest
  last_ends ts b rest [] k g e whole again = record {
    front = [];
    whole = whole;
    again = λ s like.
        let quiet_now : begins code fM ts ≡ false = elim (bool_cases (begins code fM ts)) [
          | inr off ↦ off
          | inl on ↦ let lt : length rest < length ts = Q.moves ts b rest (inr on) e in let len : length ts ≡ length rest = ap length whole in absurd (omega arith)
        ] in
        let off = quiet T code own name after fM own_apart named ts s quiet_now k (subst (λ (r : List T). Alike r s) (sym whole) like) in
        two_last T A B code own name after p q moves_always s b s off.0 off.1 (again s like);
  }
  last_ends ts b rest (x ∷ front) k g e whole again =
      let len : length ts ≡ suc (length front + length rest) = ap length whole ∙ length-append (x ∷ front) rest ∙ omega arith in
      let lt : length rest < length ts = omega arith in
      record {
        front = x ∷ front;
        whole = whole;
        again = λ s like.
            two_last T A B code own name after p q moves_always ((x ∷ front) ++ s) b s (kind_at ts (x ∷ front) rest s false whole lt like k) (gone_at ts (x ∷ front) rest s false whole lt like g) (again s like);
      }

  ends_step : (ts : List T) (x : List A × B) (rest : List T) → ((mid : List T) (y : List A × B) → length mid < length ts → z mid ≡ Ok (y, rest) → Ends z mid y rest) → z ts ≡ Ok (x, rest) → Ends z ts x rest
  ends_step ts x rest ih e = elim (two_ok T A B code own name after p q moves_always ts x rest e) [
    | inl o ↦
        let a = o.1.0 in
        let mid = o.1.1 in
        let y = o.1.2 in
        let lt : length mid < length ts = moves_always ts a mid o.1.3 in
        let t1 = P.ends ts a mid o.1.3 in
        let t2 = ih mid y lt o.1.4 in
        record {
          front = t1.front ++ t2.front;
          whole = t1.whole ∙ ap (λ (r : List T). t1.front ++ r) t2.whole ∙ sym (append_assoc t1.front t2.front rest);
          again = λ s like.
              let like2 : Alike mid (t2.front ++ s) = subst (λ (r : List T). Alike r (t2.front ++ s)) (sym t2.whole) (Alike-append t2.front rest s like) in
              ap z (append_assoc t1.front t2.front s)
              ∙ two_some T A B code own name after p q moves_always (t1.front ++ (t2.front ++ s)) a (t2.front ++ s) y s (kind_at ts t1.front mid (t2.front ++ s) true t1.whole lt like2 o.0) (t1.again (t2.front ++ s) like2) (t2.again s like)
              ∙ ap (λ (x : List A × B). Ok (x, s)) o.1.5;
        }
    | inr o ↦
        let t = Q.ends ts o.2.0 rest o.2.1 in
        subst (λ (x : List A × B). Ends z ts x rest) o.2.2 (last_ends ts o.2.0 rest t.front o.0 o.1 o.2.1 t.whole t.again)
  ]

  z_ends : (k : ℕ) (ts : List T) (x : List A × B) (rest : List T) → length ts ≤ k → z ts ≡ Ok (x, rest) → Ends z ts x rest
  z_ends zero ts x rest le e = ends_step ts x rest (λ mid y lt f. absurd (omega arith)) e
  z_ends (suc k) ts x rest le e = ends_step ts x rest (λ mid y lt f. z_ends k mid y rest (omega arith) f) e

  -- ---- stops

  first_viable : (h : ℕ) → Tall.tall h → (ts : List T) (why : Why) (n : ℕ) (two : Bool) → Viable limit (l h d) ts why n two → Viable limit (W h) ts why n two
  first_viable h tall ts why n two v =
      let x = alone h (Tall.is_some h tall) (v.word ++ v.more) v.value v.derived in
      record { word = v.word; rest = v.rest; whole = v.whole; left = v.left; within = v.within; more = v.more; goes = v.goes; value = (v.value ∷ [], x.0); derived = x.1 }

  last_viable : (h : ℕ) (ts : List T) (why : Why) (n : ℕ) (two : Bool) → Viable limit (m h d) ts why n two → Viable limit (W h) ts why n two
  unfolding two_words
  last_viable h ts why n two v = record { word = v.word; rest = v.rest; whole = v.whole; left = v.left; within = v.within; more = v.more; goes = v.goes; value = ([], v.value); derived = v.derived }

  abbrev StopsAt : (h : ℕ) (ts : List T) (why : Why) (n : ℕ) → Type 0
  StopsAt h ts why n = Stops limit z (W h) ts why n × (why ≡ Syntax → n < length ts)

  -- the first kind stops at its first token: no depth is left
  first_at_once : (h : ℕ) → Tall.tall h → (ts : List T) (n : ℕ) (two : Bool) → kind ts ≡ true → p ts ≡ Err (Stop Depth n) → n ≡ length ts → ((s : List T) → Agree two ts s → p s ≡ Err (Stop Depth (length s)))
      → Viable limit (l h d) ts Depth n two → Stops limit z (W h) ts Depth n
  first_at_once h tall [] n two k e left again v = absurd cc
  first_at_once h tall (x ∷ r) n two k e left again v = elim (bool_cases (member own (code x))) [
    | inl o ↦ record {
      two = two;
      halts = record {
        front = [];
        rest = x ∷ r;
        whole = refl;
        left = left;
        again = λ s agree. two_stop T A B code own name after p q moves_always s (Stop Depth (length s)) (own_again s (Agree-alike two (x ∷ r) s agree) o) (again s agree);
      };
      viable = first_viable h tall (x ∷ r) Depth n two v;
    }
    | inr o ↦ elim (or_true (member own (code x)) (member (name ∷ []) (code x) && begins code (name ∷ []) r) k) [
      | inl on ↦ let off : true ≡ false = sym on ∙ o in absurd cc
      | inr b ↦ let both = and_true (member (name ∷ []) (code x)) (begins code (name ∷ []) r) b in pair r refl both.0 both.1
    ]
  ]
    where
      own_again : (s : List T) → Alike (x ∷ r) s → member own (code x) ≡ true → kind s ≡ true
      own_again [] like o = absurd like
      own_again (y ∷ s) like o = kind_own T code own name after y s (subst (λ (t : T). member own (code t) ≡ true) like o)

      same_kind : (y : T) (r1 s : List T) → Agree true (x ∷ y ∷ r1) s → member (name ∷ []) (code x) ≡ true → member (name ∷ []) (code y) ≡ true → kind s ≡ true
      same_kind y r1 [] agree mx my = absurd agree
      same_kind y r1 (x1 ∷ []) agree mx my = absurd agree.1
      same_kind y r1 (x1 ∷ y1 ∷ s) agree mx my = here_name T code own name after fM own_apart named x1 y1 s (subst (λ (t : T). member (name ∷ []) (code t) ≡ true) agree.0 mx) (subst (λ (t : T). member (name ∷ []) (code t) ≡ true) agree.1 my)

      pair : (r1 : List T) → r ≡ r1 → member (name ∷ []) (code x) ≡ true → begins code (name ∷ []) r1 ≡ true → Stops limit z (W h) (x ∷ r) Depth n
      pair [] is_r mx my = absurd cc
      pair (y ∷ r1) is_r mx my =
          let op = (opens1 h tall).opens x y (is_name T code own name after fM own_apart named x mx) my in
          let whole : x ∷ r ≡ x ∷ y ∷ r1 = ap (λ (r : List T). x ∷ r) is_r in
          let al = alone h (Tall.is_some h tall) ((x, op.0) ∷ (y, op.1) ∷ op.2) op.3 op.5 in
          record {
            two = true;
            halts = record {
              front = [];
              rest = x ∷ y ∷ r1;
              whole = whole;
              left = left ∙ ap length whole;
              again = λ s agree. two_stop T A B code own name after p q moves_always s (Stop Depth (length s)) (same_kind y r1 s agree mx my)
                  (again s (subst (λ (t : List T). Agree two t s) (sym whole) (Agree-fewer two (x ∷ y ∷ r1) s agree)));
            };
            viable = record {
              word = [];
              rest = x ∷ y ∷ r1;
              whole = whole;
              left = left ∙ ap length whole;
              within = tt;
              more = (x, op.0) ∷ (y, op.1) ∷ op.2;
              goes = (refl, refl);
              value = (op.3 ∷ [], al.0);
              derived = al.1;
            };
          }

  first_stops : (h : ℕ) → Tall.tall h → (ts : List T) (why : Why) (n : ℕ) (two : Bool) (front rest : List T) → kind ts ≡ true → p ts ≡ Err (Stop why n) → ts ≡ front ++ rest → n ≡ length rest
      → ((s : List T) → Agree two rest s → p (front ++ s) ≡ Err (Stop why (length s))) → Viable limit (l h d) ts why n two → (why ≡ Syntax → n < length ts) → Stops limit z (W h) ts why n
  first_stops h tall ts why n two (x ∷ front) rest k e whole left again v commits =
      let len : length ts ≡ suc (length front + length rest) = ap length whole ∙ length-append (x ∷ front) rest ∙ omega arith in
      let lt : length rest < length ts = omega arith in
      record {
        two = two;
        halts = record {
          front = x ∷ front;
          rest = rest;
          whole = whole;
          left = left;
          again = λ s agree.
              two_stop T A B code own name after p q moves_always ((x ∷ front) ++ s) (Stop why (length s)) (kind_at ts (x ∷ front) rest s true whole lt (Agree-alike two rest s agree) k) (again s agree);
        };
        viable = first_viable h tall ts why n two v;
      }
  first_stops h tall ts Syntax n two [] rest k e whole left again v commits =
      let below : n < length ts = commits refl in
      let len : length ts ≡ length rest = ap length whole in
      absurd (omega arith)
  first_stops h tall ts Depth n two [] rest k e whole left again v commits =
      first_at_once h tall ts n two k e (left ∙ ap length (sym whole)) (λ s agree. again s (subst (λ (r : List T). Agree two r s) whole agree)) v

  -- a name that begins neither kind
  stray_stops : (h : ℕ) → Tall.tall h → (ts : List T) → kind ts ≡ false → gone ts ≡ true → Stops limit z (W h) ts Syntax (length (behind ts))
  stray_stops h tall [] k g = absurd cc
  stray_stops h tall (x ∷ r) k g =
      let both = and_true (member (name ∷ []) (code x)) (not (begins code after r)) g in
      let n = is_name T code own name after fM own_apart named x both.0 in
      let op = (opens1 h tall).opens x x n both.0 in
      let al = alone h (Tall.is_some h tall) ((x, op.0) ∷ (x, op.1) ∷ op.2) op.3 op.5 in
      record {
        two = false;
        halts = record {
          front = x ∷ [];
          rest = r;
          whole = refl;
          left = refl;
          again = λ s agree.
              let like = Agree-alike false r s agree in
              two_stray T A B code own name after p q moves_always (x ∷ s) (sym (kind_alike T code own name after x r s like) ∙ k) (sym (stray_alike T code own name after x r s like) ∙ g);
        };
        viable = record {
          word = (x, op.0) ∷ [];
          rest = r;
          whole = refl;
          left = refl;
          within = (op.4, tt);
          more = (x, op.1) ∷ op.2;
          goes = refl;
          value = (op.3 ∷ [], al.0);
          derived = al.1;
        };
      }

  none_left : (P : Type 0) (two : Bool) (rest : List T) (more : List (Cell T)) → Goes Depth two rest more → 0 ≡ length rest → P
  none_left P two [] more goes e = absurd goes
  none_left P two (t ∷ rest) more goes e = absurd (omega arith)

  -- the second kind stops at its first token: no depth is left
  last_at_once : (h : ℕ) → Tall.tall h → (ts : List T) (n : ℕ) (two : Bool) → kind ts ≡ false → gone ts ≡ false → n ≡ length ts → ((s : List T) → Agree two ts s → q s ≡ Err (Stop Depth (length s)))
      → Viable limit (m h d) ts Depth n two → Stops limit z (W h) ts Depth n
  unfolding two_words
  last_at_once h tall [] n two k g left again v = none_left _ two v.rest v.more v.goes (sym left ∙ v.left)
  last_at_once h tall (x ∷ r) n two k g left again v = elim (bool_cases (member (name ∷ []) (code x))) [
    | inr off ↦ record {
      two = two;
      halts = record {
        front = [];
        rest = x ∷ r;
        whole = refl;
        left = left;
        again = λ s agree.
            let same = other_again s (Agree-alike two (x ∷ r) s agree) off in
            two_last_stop T A B code own name after p q moves_always s (Stop Depth (length s)) same.0 same.1 (again s agree);
      };
      viable = last_viable h (x ∷ r) Depth n two v;
    }
    | inl named_x ↦ pair r refl named_x (may_follow named_x)
  ]
    where
      other_again : (s : List T) → Alike (x ∷ r) s → member (name ∷ []) (code x) ≡ false → (kind s ≡ false) × (gone s ≡ false)
      other_again [] like off = absurd like
      other_again (y ∷ s) like off =
          let o : member own (code x) ≡ false = sym (kind_other T code own name after x r off) ∙ k in
          let off1 : member (name ∷ []) (code y) ≡ false = subst (λ (t : T). member (name ∷ []) (code t) ≡ false) like off in
          (kind_other T code own name after y s off1 ∙ subst (λ (t : T). member own (code t) ≡ false) like o, stray_other T code own name after y s off1)

      may_follow : member (name ∷ []) (code x) ≡ true → begins code after r ≡ true
      may_follow mx = not_false (begins code after r) (sym (stray_name T code own name after x r mx) ∙ g)
        where
          not_false : (b : Bool) → not b ≡ false → b ≡ true
          not_false true e = refl
          not_false false e = absurd cc

      same_tests : (y : T) (r1 s : List T) → r ≡ y ∷ r1 → Agree true (x ∷ y ∷ r1) s → (kind s ≡ false) × (gone s ≡ false)
      same_tests y r1 [] is_r agree = absurd agree
      same_tests y r1 (x1 ∷ s) is_r agree =
          let like : Alike r s = subst (λ (t : List T). Alike t s) (sym is_r) agree.1 in
          let e : x ∷ s ≡ x1 ∷ s = ap (λ (t : T). t ∷ s) agree.0 in
          (ap kind (sym e) ∙ sym (kind_alike T code own name after x r s like) ∙ k, ap gone (sym e) ∙ sym (stray_alike T code own name after x r s like) ∙ g)

      pair : (r1 : List T) → r ≡ r1 → member (name ∷ []) (code x) ≡ true → begins code after r1 ≡ true → Stops limit z (W h) (x ∷ r) Depth n
      pair [] is_r mx my = absurd cc
      pair (y ∷ r1) is_r mx my =
          let op = (opens2 h tall).opens x y (is_name T code own name after fM own_apart named x mx) my in
          let whole : x ∷ r ≡ x ∷ y ∷ r1 = ap (λ (r : List T). x ∷ r) is_r in
          record {
            two = true;
            halts = record {
              front = [];
              rest = x ∷ y ∷ r1;
              whole = whole;
              left = left ∙ ap length whole;
              again = λ s agree.
                  let same = same_tests y r1 s is_r agree in
                  two_last_stop T A B code own name after p q moves_always s (Stop Depth (length s)) same.0 same.1 (again s (subst (λ (t : List T). Agree two t s) (sym whole) (Agree-fewer two (x ∷ y ∷ r1) s agree)));
            };
            viable = record {
              word = [];
              rest = x ∷ y ∷ r1;
              whole = whole;
              left = left ∙ ap length whole;
              within = tt;
              more = (x, op.0) ∷ (y, op.1) ∷ op.2;
              goes = (refl, refl);
              value = ([], op.3);
              derived = op.5;
            };
          }

  last_stops : (h : ℕ) → Tall.tall h → (ts : List T) (why : Why) (n : ℕ) (two : Bool) (front rest : List T) → kind ts ≡ false → gone ts ≡ false → ts ≡ front ++ rest → n ≡ length rest
      → ((s : List T) → Agree two rest s → q (front ++ s) ≡ Err (Stop why (length s))) → Viable limit (m h d) ts why n two → (why ≡ Syntax → n < length ts) → Stops limit z (W h) ts why n
  last_stops h tall ts why n two (x ∷ front) rest k g whole left again v commits =
      let len : length ts ≡ suc (length front + length rest) = ap length whole ∙ length-append (x ∷ front) rest ∙ omega arith in
      let lt : length rest < length ts = omega arith in
      record {
        two = two;
        halts = record {
          front = x ∷ front;
          rest = rest;
          whole = whole;
          left = left;
          again = λ s agree.
              let like = Agree-alike two rest s agree in
              two_last_stop T A B code own name after p q moves_always ((x ∷ front) ++ s) (Stop why (length s)) (kind_at ts (x ∷ front) rest s false whole lt like k)
              (gone_at ts (x ∷ front) rest s false whole lt like g) (again s agree);
        };
        viable = last_viable h ts why n two v;
      }
  last_stops h tall ts Syntax n two [] rest k g whole left again v commits =
      let below : n < length ts = commits refl in
      let len : length ts ≡ length rest = ap length whole in
      absurd (omega arith)
  last_stops h tall ts Depth n two [] rest k g whole left again v commits =
      last_at_once h tall ts n two k g (left ∙ ap length (sym whole)) (λ s agree. again s (subst (λ (r : List T). Agree two r s) whole agree)) v

  item_follows : (h : ℕ) (why : Why) (two : Bool) (w : List (Cell T)) (rest mid : List T) (n : ℕ) (more : List (Cell T))
      → Goes why two rest more → n ≡ length rest → mid ≡ bare w ++ rest → (why ≡ Syntax → n < length mid)
      → Alike (bare w ++ rest) (bare (w ++ more) ++ []) ⊎ (begins code g1 (bare (w ++ more) ++ []) ≡ false)
  item_follows h why two (c ∷ w) rest mid n more goes en em stopped = inl refl
  item_follows h Depth two [] rest mid n more goes en em stopped = inl (subst (Alike rest) (sym (append-nil (bare more))) (Agree-alike two rest (bare more) goes))
  item_follows h Syntax two [] rest mid n more goes en em stopped =
      let below : n < length mid = stopped refl in
      let len : length mid ≡ length rest = ap length em in
      absurd (omega arith)

  -- after an item of the first kind
  later_stops : (h : ℕ) → Tall.tall h → (ts : List T) (a : A) (mid : List T) (why : Why) (n : ℕ) → kind ts ≡ true → p ts ≡ Ok (a, mid) → StopsAt h mid why n → Stops limit z (W h) ts why n
  unfolding two_words
  later_stops h tall ts a mid why n k e both =
      let lt : length mid < length ts = moves_always ts a mid e in
      let e1 = P.ends ts a mid e in
      let t1 = P.sound h tall ts a mid e in
      let s2 = both.0 in
      let h2 = s2.halts in
      let t2 = s2.viable in
      let after_it = item_follows h why s2.two t2.word t2.rest mid n t2.more t2.goes t2.left t2.whole both.1 in
      record {
        two = s2.two;
        halts = record {
          front = e1.front ++ h2.front;
          rest = h2.rest;
          whole = e1.whole ∙ ap (λ (r : List T). e1.front ++ r) h2.whole ∙ sym (append_assoc e1.front h2.front h2.rest);
          left = h2.left;
          again = λ s agree.
              let like : Alike mid (h2.front ++ s) = subst (λ (r : List T). Alike r (h2.front ++ s)) (sym h2.whole) (Alike-append h2.front h2.rest s (Agree-alike s2.two h2.rest s agree)) in
              ap z (append_assoc e1.front h2.front s)
              ∙ two_later T A B code own name after p q moves_always (e1.front ++ (h2.front ++ s)) a (h2.front ++ s) (Stop why (length s)) (kind_at ts e1.front mid (h2.front ++ s) true e1.whole lt like k)
              (e1.again (h2.front ++ s) like) (h2.again s agree);
        };
        viable = record {
          word = t1.word ++ t2.word;
          rest = t2.rest;
          whole = t1.whole ∙ ap (λ (r : List T). bare t1.word ++ r) t2.whole ∙ sym (bare_append_rest t1.word t2.word t2.rest);
          left = t2.left;
          within = Within-append limit t1.word t2.word t1.within t2.within;
          more = t2.more;
          goes = t2.goes;
          value = (a ∷ t2.value.0, t2.value.1);
          derived = (
            t1.word,
            t2.word ++ t2.more,
            append_assoc t1.word t2.word t2.more,
            (P.shape h).keeps t1.word (bare t2.word ++ t2.rest) (bare (t2.word ++ t2.more) ++ []) a (subst (λ (r : List T). l h d t1.word r a) t2.whole t1.derived) after_it,
            t2.derived,
          );
        };
      }

  behind_less : (ts : List T) → gone ts ≡ true → length (behind ts) < length ts
  behind_less [] g = absurd cc
  behind_less (x ∷ r) g = omega arith

  stops_step : (h : ℕ) → Tall.tall h → (ts : List T) (why : Why) (n : ℕ) → ((mid : List T) → length mid < length ts → z mid ≡ Err (Stop why n) → StopsAt h mid why n) → z ts ≡ Err (Stop why n) → StopsAt h ts why n
  stops_step h tall ts why n ih e = elim (two_err T A B code own name after p q moves_always ts (Stop why n) e) [
    | inl o ↦ elim o.1 [
      | inl y ↦
          let s1 = P.stops h tall ts why n y in
          let on = here_begins T code own name after fM own_apart named ts o.0 in
          let commits : why ≡ Syntax → n < length ts = λ is_syntax. P.commits h tall ts n (inr on) (y ∙ ap (λ (w : Why). Err (Stop w n)) is_syntax) in
          (first_stops h tall ts why n s1.two s1.halts.front s1.halts.rest o.0 y s1.halts.whole s1.halts.left s1.halts.again s1.viable commits, commits)
      | inr y ↦
          let mid = y.1 in
          let lt : length mid < length ts = moves_always ts y.0 mid y.2 in
          let both = ih mid lt y.3 in
          (later_stops h tall ts y.0 mid why n o.0 y.2 both, λ is_syntax. let below : n < length mid = both.1 is_syntax in omega arith)
    ]
    | inr o ↦ elim o.1 [
      | inl y ↦
          let is_syntax : Syntax ≡ why = cc in
          let is_n : length (behind ts) ≡ n = cc in
          let less : length (behind ts) < length ts = behind_less ts y.0 in
          (subst (λ (w : Why). Stops limit z (W h) ts w n) is_syntax (subst (λ (k : ℕ). Stops limit z (W h) ts Syntax k) is_n (stray_stops h tall ts o.0 y.0)), λ w. omega (arith, less, is_n))
      | inr y ↦
          let s1 = Q.stops h tall ts why n y.1 in
          let commits : why ≡ Syntax → n < length ts = λ is_syntax. Q.commits h tall ts n (inl refl) (y.1 ∙ ap (λ (w : Why). Err (Stop w n)) is_syntax) in
          (last_stops h tall ts why n s1.two s1.halts.front s1.halts.rest o.0 y.0 s1.halts.whole s1.halts.left s1.halts.again s1.viable commits, commits)
    ]
  ]

  z_stops : (k h : ℕ) → Tall.tall h → (ts : List T) (why : Why) (n : ℕ) → length ts ≤ k → z ts ≡ Err (Stop why n) → StopsAt h ts why n
  z_stops zero h tall ts why n le e = stops_step h tall ts why n (λ mid lt f. absurd (omega arith)) e
  z_stops (suc k) h tall ts why n le e = stops_step h tall ts why n (λ mid lt f. z_stops k h tall mid why n (omega arith) f) e

  z_moves : (ts : List T) (x : List A × B) (rest : List T) → (true ≡ false) ⊎ (begins code (fD ++ fM) ts ≡ true) → z ts ≡ Ok (x, rest) → length rest < length ts
  z_moves ts x rest (inl t) e = absurd cc
  z_moves ts x rest (inr b) e = elim (two_ok T A B code own name after p q moves_always ts x rest e) [
    | inl o ↦
        let mid = o.1.1 in
        let lt : length mid < length ts = moves_always ts o.1.0 mid o.1.3 in
        let t2 = z_ends (length mid) mid o.1.2 rest (omega arith) o.1.4 in
        let le : length rest ≤ length mid = shorter mid t2.front rest t2.whole in
        omega arith
    | inr o ↦ Q.moves ts o.2.0 rest (inr (last_begins ts b o.0)) o.2.1
  ]
    where
      last_begins : (ts : List T) → begins code (fD ++ fM) ts ≡ true → kind ts ≡ false → begins code fM ts ≡ true
      last_begins [] b k = absurd cc
      last_begins (y ∷ r) b k = elim (or_true (member fD (code y)) (member fM (code y)) (sym (member-append fD fM (code y)) ∙ b)) [
        | inr on ↦ on
        | inl on ↦ elim (or_true (member own (code y)) (member (name ∷ []) (code y)) (sym (member-append own (name ∷ []) (code y)) ∙ on)) [
          | inl o ↦ let off : true ≡ false = sym (kind_own T code own name after y r o) ∙ k in absurd cc
          | inr n ↦ subst (λ (c : ℕ). member fM c ≡ true) (sym (is_name T code own name after fM own_apart named y n)) named
        ]
      ]

  pub paired_law : Law code Tall limit depth true (o1 && o2) (fD ++ fM) (c2 ++ (fD ++ c1)) (g1 ++ g2) z W
  paired_law = record {
    shape = λ h. two_shape T A B code depth fD g1 fM g2 (l h) (m h) d (P.shape h) (Q.shape h);
    least = z_least;
    opens = z_opens;
    sound = λ h tall ts x rest e. z_sound (length ts) h tall ts x rest (omega arith) e;
    complete = λ h w rest x y stops. z_complete h w rest x.0 x.1 y stops;
    ends = λ ts x rest e. z_ends (length ts) ts x rest (omega arith) e;
    stops = λ h tall ts why n e. (z_stops (length ts) h tall ts why n (omega arith) e).0;
    commits = λ h tall ts k o e. (z_stops (length ts) h tall ts Syntax k (omega arith) e).1 refl;
    moves = z_moves;
  }
