-- The words of items of one kind and then of another, one item at a time.
use Rattle.std.proofs.Common.{◌≡◌, ℕ, ◌≤◌, true, false, List, [], ◌∷◌, ◌++◌, refl, sym, ap, subst, ◌∙◌, append_assoc, inl, inr}
use Rattle.std.specs.Prelude.{◌⊎◌}
use Rattle.std.proofs.lemmas.List.{append-nil}
use Rattle.grammar_laws.specs.Words.{member, begins, bare, Cell}
use Rattle.grammar_laws.specs.Languages as g
use Rattle.grammar_laws.specs.Languages.{Lang, sequence}
use Rattle.grammar_laws.proofs.Sets.{member_left, member_right, begins_none, bare_append_rest, Alike}
use Rattle.grammar_laws.proofs.Law.{Words, Shape}
use Rattle.grammar_laws.proofs.Many.{keeps_item}

unfoldable pub two_words : {T A B : Type 0} → Lang T A → Lang T B → ℕ → List (Cell T) → List T → List A → B → Type 0
two_words l m d w rest [] b = m d w rest b
two_words l m d w rest (a ∷ more) b = (u : List (Cell _)) × (v : List (Cell _)) × (w ≡ u ++ v) × l d u (bare v ++ rest) a × two_words l m d v rest more b

abbrev pub paired : {T A B : Type 0} → Lang T A → Lang T B → ℕ → Words T (List A × B)
paired l m d = λ w rest x. two_words l m d w rest x.0 x.1

-- as the grammar has them
abbrev pub apart_words : {T A B : Type 0} → Lang T A → Lang T B → Lang T (List A × B)
apart_words l m = sequence (g.many l) (λ as1. sequence m (λ b. g.pure (as1, b)))

abbrev Flat : {T A B : Type 0} → Lang T A → Lang T B → ℕ → List (Cell T) → List T → List A → B → Type 0
Flat {T} l m d w r as1 b = (u : List (Cell T)) × (v : List (Cell T)) × (w ≡ u ++ v) × g.many l d u (bare v ++ r) as1 × m d v r b

to_flat : {T A B : Type 0} (l : Lang T A) (m : Lang T B) (d : ℕ) (w : List (Cell T)) (r : List T) (as1 : List A) (b : B) → two_words l m d w r as1 b → Flat l m d w r as1 b
unfolding two_words g.many
to_flat l m d w r [] b x = ([], w, refl, refl, x)
to_flat {T} l m d w r (a ∷ more) b (u, v, e, x, y) =
    let f = to_flat l m d v r more b y in (
      u ++ f.0,
      f.1,
      e ∙ ap (λ (v : List (Cell T)). u ++ v) f.2 ∙ sym (append_assoc u f.0 f.1),
      (u, f.0, refl, subst (λ (s : List T). l d u s a) (ap (λ (v : List (Cell T)). bare v ++ r) f.2 ∙ bare_append_rest f.0 f.1 r) x, f.3),
      f.4,
    )

from_flat : {T A B : Type 0} (l : Lang T A) (m : Lang T B) (d : ℕ) (w : List (Cell T)) (r : List T) (as1 : List A) (b : B) → Flat l m d w r as1 b → two_words l m d w r as1 b
unfolding two_words g.many
from_flat {T} l m d w r [] b (u, v, e, x, y) = subst (λ (w : List (Cell T)). m d w r b) (sym (e ∙ ap (λ (u : List (Cell T)). u ++ v) x)) y
from_flat {T} l m d w r (a ∷ more) b (u, v, e, (u1, u2, e1, x, ms), y) = (
  u1,
  u2 ++ v,
  e ∙ ap (λ (u : List (Cell T)). u ++ v) e1 ∙ append_assoc u1 u2 v,
  subst (λ (s : List T). l d u1 s a) (sym (bare_append_rest u2 v r)) x,
  from_flat l m d (u2 ++ v) r more b (u2, v, refl, ms, y),
)

pub to_apart : {T A B : Type 0} (l : Lang T A) (m : Lang T B) (d : ℕ) (w : List (Cell T)) (r : List T) (x : List A × B) → paired l m d w r x → apart_words l m d w r x
unfolding sequence g.pure
to_apart {T} l m d w r x y =
    let f = to_flat l m d w r x.0 x.1 y in
    (x.0, f.0, f.1, f.2, f.3, (x.1, f.1, [], sym (append-nil f.1), f.4, (refl, refl)))

pub from_apart : {T A B : Type 0} (l : Lang T A) (m : Lang T B) (d : ℕ) (w : List (Cell T)) (r : List T) (x : List A × B) → apart_words l m d w r x → paired l m d w r x
unfolding sequence g.pure
from_apart {T} {A} {B} l m d w r x (as1, u, v, e, ms, (b, v1, v2, e1, y, (e2, e3))) =
    let same : v ≡ v1 = e1 ∙ ap (λ (t : List (Cell T)). v1 ++ t) e2 ∙ append-nil v1 in
    let rests : bare v2 ++ r ≡ r = ap (λ (t : List (Cell T)). bare t ++ r) e2 in
    let y1 : m d v r b = subst (λ (v : List (Cell T)). m d v r b) (sym same) (subst (λ (s : List T). m d v1 s b) rests y) in
    subst (λ (x : List A × B). paired l m d w r x) e3 (from_flat l m d w r as1 b (u, v, e, ms, y1))

-- ---- their shape

module _ (T A B : Type 0) (code : T → ℕ) (depth : ℕ) (f1 g1 f2 g2 : List ℕ) (l : Lang T A) (m : Lang T B) (d : ℕ)
    (s1 : Shape code depth false f1 g1 (l d)) (s2 : Shape code depth true f2 g2 (m d)) where
  pub two_starts : (c : Cell T) (w : List (Cell T)) (r : List T) (as1 : List A) (b : B) → two_words l m d (c ∷ w) r as1 b → (member (f1 ++ f2) (code c.0) ≡ true) × (depth ≤ c.1)
  unfolding two_words
  two_starts c w r [] b x = let q = s2.starts c w r b x in (member_right f1 f2 (code c.0) q.0, q.1)
  two_starts c w r (a ∷ more) b ([], v, e, x, y) = let off : false ≡ true = s1.empty (bare v ++ r) a x in absurd cc
  two_starts c w r (a ∷ more) b (k ∷ u, v, e, x, y) =
      let same : c ≡ k = cc in
      let q = s1.starts k u (bare v ++ r) a x in
      subst (λ (c : Cell T). (member (f1 ++ f2) (code c.0) ≡ true) × (depth ≤ c.1)) (sym same) (member_left f1 f2 (code k.0) q.0, q.1)

  left_goes : (r s : List T) → Alike r s ⊎ (begins code (g1 ++ g2) s ≡ false) → Alike r s ⊎ (begins code g1 s ≡ false)
  left_goes r s (inl h) = inl h
  left_goes r s (inr e) = inr (begins_none code g1 g2 s e).0

  right_goes : (r s : List T) → Alike r s ⊎ (begins code (g1 ++ g2) s ≡ false) → Alike r s ⊎ (begins code g2 s ≡ false)
  right_goes r s (inl h) = inl h
  right_goes r s (inr e) = inr (begins_none code g1 g2 s e).1

  two_keeps : (w : List (Cell T)) (r s : List T) (as1 : List A) (b : B) → two_words l m d w r as1 b → Alike r s ⊎ (begins code (g1 ++ g2) s ≡ false) → two_words l m d w s as1 b
  unfolding two_words
  two_keeps w r s [] b x h = s2.keeps w r s b x (right_goes r s h)
  two_keeps w r s (a ∷ more) b (u, v, e, x, y) h =
      (u, v, e, s1.keeps u (bare v ++ r) (bare v ++ s) a x (keeps_item code v g1 r s (left_goes r s h)), two_keeps v r s more b y h)

  pub two_shape : Shape code depth true (f1 ++ f2) (g1 ++ g2) (paired l m d)
  two_shape = record {
    empty = λ r x y. refl;
    starts = λ c w r x y. two_starts c w r x.0 x.1 y;
    keeps = λ w r s x y h. two_keeps w r s x.0 x.1 y h;
  }
