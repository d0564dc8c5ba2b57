-- What comes second in words that begin with a name.
use Rattle.std.proofs.Common.{◌≡◌, ℕ, Bool, true, false, List, [], ◌∷◌, ◌++◌, refl, sym, ap, subst, ◌∙◌, inl, inr}
use Rattle.std.specs.Prelude.{◌⊎◌, ◌&&◌, ◌||◌}
use Rattle.std.proofs.lemmas.List.{append-nil}
use Rattle.grammar_laws.specs.Words.{member, begins, bare, Cell}
use Rattle.grammar_laws.specs.Languages as g
use Rattle.grammar_laws.specs.Languages.{Lang, sequence, choice}
use Rattle.grammar_laws.proofs.Sets.{disjoint, or_true, member-append, member_left, member_right, apart}
use Rattle.grammar_laws.proofs.Law.{Words, Shape, Least, Opens, joined}
use Rattle.grammar_laws.proofs.Bind.{least_follows}
use Rattle.grammar_laws.proofs.Settle.{subset, member_subset}
use Rattle.grammar_laws.proofs.TwoKinds.{Second, OpensWith}

-- Words that begin with a name are that name alone, or go on with one of these codes.
pub record Next {T A : Type 0} (code : T → ℕ) (name : ℕ) (alone : Bool) (set : List ℕ) (words : Words T A) : Type 0 where
  pub next : (c : Cell T) (w : List (Cell T)) (r : List T) (a : A) → words (c ∷ w) r a → code c.0 ≡ name
      → ((w ≡ []) × (alone ≡ true)) ⊎ ((k : Cell T) × (v : List (Cell T)) × (w ≡ k ∷ v) × (member set (code k.0) ≡ true))

pub next_second : {T A : Type 0} (code : T → ℕ) (name : ℕ) (set : List ℕ) (words : Words T A) → Next code name false set words → Second code name set words
next_second code name set words h = record { second = λ c w r a x e. elim (h.next c w r a x e) [ inl z ↦ let off = z.1 in absurd cc | inr y ↦ y ] }

-- what never begins with a name
pub next_none : {T A : Type 0} (code : T → ℕ) (name : ℕ) (depth : ℕ) (n : Bool) (f g1 : List ℕ) (words : Words T A) → Shape code depth n f g1 words → member f name ≡ false → Next code name false [] words
next_none code name depth n f g1 words s off = record {
  next = λ c w r a x e.
      let on : member f name ≡ true = subst (λ (k : ℕ). member f k ≡ true) e (s.starts c w r a x).0 in
      let no : true ≡ false = sym on ∙ off in
      absurd cc;
}

pub next_word : {T : Type 0} (code : T → ℕ) (name c d : ℕ) → Next code name true [] (g.word code c d)
unfolding g.word
next_word code name c d = record { next = λ k w r a (e, x) is_name. inl (let none : w ≡ [] = cc in none, refl) }

pub next_choice : {T A : Type 0} (code : T → ℕ) (name : ℕ) (a1 a2 : Bool) (s1 s2 : List ℕ) (l m : Lang T A) (d : ℕ) → Next code name a1 s1 (l d) → Next code name a2 s2 (m d) → Next code name (a1 || a2) (s1 ++ s2) (choice l m d)
unfolding choice
next_choice {T} {A} code name a1 a2 s1 s2 l m d h1 h2 = record {
  next = λ c w r a x e. elim x [
    | inl y ↦ elim (h1.next c w r a y e) [
      | inl z ↦ inl (z.0, rw z.1 refl)
      | inr z ↦ inr (z.0, z.1, z.2, member_left s1 s2 (code z.0.0) z.3)
    ]
    | inr y ↦ elim (h2.next c w r a y e) [
      | inl z ↦ inl (z.0, rw z.1 (or_right a1))
      | inr z ↦ inr (z.0, z.1, z.2, member_right s1 s2 (code z.0.0) z.3)
    ]
  ];
}
  where
    or_right : (b : Bool) → (b || true) ≡ true
    or_right true = refl
    or_right false = refl

bind_step : {T A B : Type 0} (code : T → ℕ) (name : ℕ) (depth : ℕ) (a1 n2 : Bool) (s1 f1 g1 f2 g2 : List ℕ) (l : Lang T A) (f : A → Lang T B) (d : ℕ) → Shape code depth false f1 g1 (l d) → ((a : A) → Shape code depth n2 f2 g2 (f a d))
    → Next code name a1 s1 (l d)
    → (c : Cell T) (w : List (Cell T)) (r : List T) (b : B) → sequence l f d (c ∷ w) r b → code c.0 ≡ name → ((w ≡ []) × ((a1 && n2) ≡ true)) ⊎ ((k : Cell T) × (v : List (Cell T)) × (w ≡ k ∷ v) × (member (joined a1 f2 s1) (code k.0) ≡ true))
unfolding sequence
bind_step code name depth a1 n2 s1 f1 g1 f2 g2 l f d h1 h2 h c w r b (a, [], v, e, x, y) is_name = let off : false ≡ true = h1.empty (bare v ++ r) a x in absurd cc
bind_step {T} {A} {B} code name depth a1 n2 s1 f1 g1 f2 g2 l f d h1 h2 h c w r b (a, k ∷ u, v, e, x, y) is_name =
    let same : c ≡ k = cc in
    let tail : w ≡ u ++ v = cc in
    elim (h.next k u (bare v ++ r) a x (subst (λ (c : Cell T). code c.0 ≡ name) same is_name)) [
      | inl z ↦ alone v (tail ∙ ap (λ (u : List (Cell T)). u ++ v) z.0) z.1 y
      | inr z ↦ inr (z.0, z.1 ++ v, tail ∙ ap (λ (u : List (Cell T)). u ++ v) z.2, later a1 (code z.0.0) z.3)
    ]
  where
    later : (b : Bool) (c : ℕ) → member s1 c ≡ true → member (joined b f2 s1) c ≡ true
    later true c m = member_right f2 s1 c m
    later false c m = m

    alone : (v : List (Cell T)) → w ≡ v → a1 ≡ true → f a d v r b → ((w ≡ []) × ((a1 && n2) ≡ true)) ⊎ ((k : Cell T) × (v : List (Cell T)) × (w ≡ k ∷ v) × (member (joined a1 f2 s1) (code k.0) ≡ true))
    alone [] e1 t y1 = let n : n2 ≡ true = (h2 a).empty r b y1 in inl (e1, rw (t, n) refl)
    alone (j ∷ v) e1 t y1 = inr (j, v, e1, subst (λ (b : Bool). member (joined b f2 s1) (code j.0) ≡ true) (sym t) (member_left f2 s1 (code j.0) ((h2 a).starts j v r b y1).0))

pub next_bind : {T A B : Type 0} (code : T → ℕ) (name : ℕ) (depth : ℕ) (a1 n2 : Bool) (s1 f1 g1 f2 g2 : List ℕ) (l : Lang T A) (f : A → Lang T B) (d : ℕ) → Shape code depth false f1 g1 (l d) → ((a : A) → Shape code depth n2 f2 g2 (f a d))
    → Next code name a1 s1 (l d) → Next code name (a1 && n2) (joined a1 f2 s1) (sequence l f d)
next_bind code name depth a1 n2 s1 f1 g1 f2 g2 l f d h1 h2 h = record { next = bind_step code name depth a1 n2 s1 f1 g1 f2 g2 l f d h1 h2 h }

many_step : {T A : Type 0} (code : T → ℕ) (name : ℕ) (depth : ℕ) (set f1 g1 : List ℕ) (l : Lang T A) (d : ℕ) → Shape code depth false f1 g1 (l d) → Second code name set (l d)
    → (c : Cell T) (w : List (Cell T)) (r : List T) (as1 : List A) → g.many l d (c ∷ w) r as1 → code c.0 ≡ name → (k : Cell T) × (v : List (Cell T)) × (w ≡ k ∷ v) × (member set (code k.0) ≡ true)
unfolding g.many
many_step code name depth set f1 g1 l d s h c w r [] x e = absurd cc
many_step code name depth set f1 g1 l d s h c w r (a ∷ more) ([], v, e1, x, y) e = let off : false ≡ true = s.empty (bare v ++ r) a x in absurd cc
many_step {T} code name depth set f1 g1 l d s h c w r (a ∷ more) (k ∷ u, v, e1, x, y) e =
    let same : c ≡ k = cc in
    let tail : w ≡ u ++ v = cc in
    let z = h.second k u (bare v ++ r) a x (subst (λ (c : Cell T). code c.0 ≡ name) same e) in
    (z.0, z.1 ++ v, tail ∙ ap (λ (u : List (Cell T)). u ++ v) z.2, z.3)

pub next_many : {T A : Type 0} (code : T → ℕ) (name : ℕ) (depth : ℕ) (set f1 g1 : List ℕ) (l : Lang T A) (d : ℕ) → Shape code depth false f1 g1 (l d) → Second code name set (l d) → Second code name set (g.many l d)
next_many code name depth set f1 g1 l d s h = record { second = many_step code name depth set f1 g1 l d s h }

pub next_grow : {T A : Type 0} (code : T → ℕ) (name : ℕ) (alone : Bool) (s1 s2 : List ℕ) (words : Words T A) → subset s1 s2 ≡ true → Next code name alone s1 words → Next code name alone s2 words
next_grow code name alone s1 s2 words sub h = record {
  next = λ c w r a x e. elim (h.next c w r a x e) [
    | inl z ↦ inl z
    | inr y ↦ inr (y.0, y.1, y.2, member_subset s1 s2 (code y.0.0) sub y.3)
  ];
}

pub next_as : {T A : Type 0} (code : T → ℕ) (name : ℕ) (alone : Bool) (set : List ℕ) (l m : Words T A) → ((w : List (Cell T)) (r : List T) (a : A) → m w r a → l w r a) → Next code name alone set l → Next code name alone set m
next_as code name alone set l m back h = record { next = λ c w r a x e. h.next c w r a (back (c ∷ w) r a x) e }

-- ---- words that do begin with a name and one of these

-- a name alone
pub record Alone {T A : Type 0} (code : T → ℕ) (name : ℕ) (Deep : ℕ → Type 0) (words : Words T A) : Type 0 where
  pub alone : (t : T) → code t ≡ name → (k : ℕ) × (a : A) × Deep k × words ((t, k) ∷ []) [] a

pub word_alone : {T : Type 0} (code : T → ℕ) (name d : ℕ) (Deep : ℕ → Type 0) → Deep d → Alone code name Deep (g.word code name d)
unfolding g.word
word_alone code name d Deep deep = record { alone = λ t e. (d, t, deep, (refl, e)) }

pub choice_alone_left : {T A : Type 0} (code : T → ℕ) (name : ℕ) (Deep : ℕ → Type 0) (l m : Lang T A) (d : ℕ) → Alone code name Deep (l d) → Alone code name Deep (choice l m d)
unfolding choice
choice_alone_left code name Deep l m d h = record { alone = λ t e. let x = h.alone t e in (x.0, x.1, x.2, inl x.3) }

pub choice_alone_right : {T A : Type 0} (code : T → ℕ) (name : ℕ) (Deep : ℕ → Type 0) (l m : Lang T A) (d : ℕ) → Alone code name Deep (m d) → Alone code name Deep (choice l m d)
unfolding choice
choice_alone_right code name Deep l m d h = record { alone = λ t e. let x = h.alone t e in (x.0, x.1, x.2, inr x.3) }

pub bind_alone : {T A B : Type 0} (code : T → ℕ) (name : ℕ) (Deep : ℕ → Type 0) (l : Lang T A) (f : A → Lang T B) (d : ℕ) → Alone code name Deep (l d) → ((a : A) → Least true (f a d)) → Alone code name Deep (sequence l f d)
unfolding sequence
bind_alone {T} {A} {B} code name Deep l f d h least = record {
  alone = λ t e.
      let x = h.alone t e in
      let y = least x.1 in
      let none = y.empty refl in
      (x.0, y.value, x.2, (x.1, (t, x.0) ∷ [], [], refl, x.3, subst (λ (w : List (Cell T)). f x.1 d w [] y.value) none y.derived));
}

-- a name alone, and then a part that begins with each of these
pub bind_opens_next : {T A B : Type 0} (code : T → ℕ) (name : ℕ) (depth : ℕ) (n1 : Bool) (f1 g1 set : List ℕ) (Deep : ℕ → Type 0) (l : Lang T A) (f : A → Lang T B) (d : ℕ) → Shape code depth n1 f1 g1 (l d)
    → Alone code name Deep (l d) → ((a : A) → Opens code (f a d) set) → disjoint set g1 ≡ true → OpensWith code name set Deep (sequence l f d)
unfolding sequence
bind_opens_next {T} {A} {B} code name depth n1 f1 g1 set Deep l f d s h opens free = record {
  opens = λ t u e m.
      let x = h.alone t e in
      let y = opens x.1 u m in
      let goes : begins code g1 (bare ((u, y.1) ∷ y.0) ++ []) ≡ false = apart set g1 (code u) free m in
      (x.0, y.1, y.0, y.2, x.2, (x.1, (t, x.0) ∷ [], (u, y.1) ∷ y.0, refl, s.keeps ((t, x.0) ∷ []) [] (bare ((u, y.1) ∷ y.0) ++ []) x.1 x.3 (inr goes), y.3));
}

-- a part that begins so, and then the least of what comes after it
pub bind_opens_with : {T A B : Type 0} (code : T → ℕ) (name : ℕ) (depth : ℕ) (n1 n2 : Bool) (f1 g1 f2 g2 set : List ℕ) (Deep : ℕ → Type 0) (l : Lang T A) (f : A → Lang T B) (d : ℕ) → Shape code depth n1 f1 g1 (l d) → ((a : A) → Shape code depth n2 f2 g2 (f a d))
    → ((a : A) → Least n2 (f a d)) → (n2 || disjoint f2 g1) ≡ true → OpensWith code name set Deep (l d) → OpensWith code name set Deep (sequence l f d)
unfolding sequence
bind_opens_with {T} {A} {B} code name depth n1 n2 f1 g1 f2 g2 set Deep l f d s1 s2 least free h = record {
  opens = λ t u e m.
      let x = h.opens t u e m in
      let y = least x.3 in
      let after : begins code g1 (bare y.word ++ []) ≡ false = least_follows T A B code depth n1 n2 f1 [] g1 f2 [] g2 (f x.3 d) (s2 x.3) free y in
      let front : List (Cell T) = (t, x.0) ∷ (u, x.1) ∷ x.2 in
      (x.0, x.1, x.2 ++ y.word, y.value, x.4, (x.3, front, y.word, refl, s1.keeps front [] (bare y.word ++ []) x.3 x.5 (inr after), y.derived));
}

pub choice_opens_left : {T A : Type 0} (code : T → ℕ) (name : ℕ) (set : List ℕ) (Deep : ℕ → Type 0) (l m : Lang T A) (d : ℕ) → OpensWith code name set Deep (l d) → OpensWith code name set Deep (choice l m d)
unfolding choice
choice_opens_left code name set Deep l m d h = record { opens = λ t u e k. let x = h.opens t u e k in (x.0, x.1, x.2, x.3, x.4, inl x.5) }

pub choice_opens_right : {T A : Type 0} (code : T → ℕ) (name : ℕ) (set : List ℕ) (Deep : ℕ → Type 0) (l m : Lang T A) (d : ℕ) → OpensWith code name set Deep (m d) → OpensWith code name set Deep (choice l m d)
unfolding choice
choice_opens_right code name set Deep l m d h = record { opens = λ t u e k. let x = h.opens t u e k in (x.0, x.1, x.2, x.3, x.4, inr x.5) }

pub many_opens_with : {T A : Type 0} (code : T → ℕ) (name : ℕ) (set : List ℕ) (Deep : ℕ → Type 0) (l : Lang T A) (d : ℕ) → OpensWith code name set Deep (l d) → OpensWith code name set Deep (g.many l d)
unfolding g.many
many_opens_with {T} code name set Deep l d h = record {
  opens = λ t u e k.
      let x = h.opens t u e k in
      let word : List (Cell T) = (t, x.0) ∷ (u, x.1) ∷ x.2 in
      (x.0, x.1, x.2, x.3 ∷ [], x.4, (word, [], sym (append-nil word), x.5, refl));
}

pub opens_as : {T A : Type 0} (code : T → ℕ) (name : ℕ) (set : List ℕ) (Deep : ℕ → Type 0) (l m : Words T A) → ((w : List (Cell T)) (r : List T) (a : A) → l w r a → m w r a) → OpensWith code name set Deep l → OpensWith code name set Deep m
opens_as code name set Deep l m to h = record { opens = λ t u e k. let x = h.opens t u e k in (x.0, x.1, x.2, x.3, x.4, to ((t, x.0) ∷ (u, x.1) ∷ x.2) [] x.3 x.5) }

-- two sets together
pub opens_both : {T A : Type 0} (code : T → ℕ) (name : ℕ) (s1 s2 : List ℕ) (Deep : ℕ → Type 0) (words : Words T A) → OpensWith code name s1 Deep words → OpensWith code name s2 Deep words → OpensWith code name (s1 ++ s2) Deep words
opens_both code name s1 s2 Deep words h1 h2 = record {
  opens = λ t u e m. elim (or_true (member s1 (code u)) (member s2 (code u)) (sym (member-append s1 s2 (code u)) ∙ m)) [
    | inl on ↦ h1.opens t u e on
    | inr on ↦ h2.opens t u e on
  ];
}
