-- The same words, put otherwise: for productions that are read with what they share in front.
use Rattle.std.proofs.Common.{◌≡◌, ℕ, List, [], ◌++◌, Option, Some, None, refl, sym, ap, subst, ◌∙◌, append_assoc, inl, inr}
use Rattle.std.proofs.lemmas.List.{append-nil}
use Rattle.grammar_laws.specs.Words.{bare, Cell}
use Rattle.grammar_laws.specs.Languages.{Lang, sequence, choice, pure, maybe}
use Rattle.grammar_laws.proofs.Sets.{bare_append_rest}

abbrev pub Into : {T : Type 0} {A : Type 0} → Lang T A → Lang T A → Type 0
Into {T} l m = (d : ℕ) (w : List (Cell T)) (r : List T) (a : _) → l d w r a → m d w r a

-- ( l f ) g is l ( f g ), both ways
pub assoc_to : {T : Type 0} {A B C : Type 0} (l : Lang T A) (f : A → Lang T B) (g : B → Lang T C) → Into (sequence (sequence l f) g) (sequence l (λ a. sequence (f a) g))
unfolding sequence
assoc_to {T} l f g d w r c (b, u, v, e, (a, u1, u2, e1, x, y), z) = (
  a,
  u1,
  u2 ++ v,
  e ∙ ap (λ (u : List (Cell T)). u ++ v) e1 ∙ append_assoc u1 u2 v,
  subst (λ (s : List T). l d u1 s a) (sym (bare_append_rest u2 v r)) x,
  (b, u2, v, refl, y, z),
)

pub assoc_back : {T : Type 0} {A B C : Type 0} (l : Lang T A) (f : A → Lang T B) (g : B → Lang T C) → Into (sequence l (λ a. sequence (f a) g)) (sequence (sequence l f) g)
unfolding sequence
assoc_back {T} l f g d w r c (a, u1, v1, e, x, (b, u2, v, e1, y, z)) = (
  b,
  u1 ++ u2,
  v,
  e ∙ ap (λ (v : List (Cell T)). u1 ++ v) e1 ∙ sym (append_assoc u1 u2 v),
  (a, u1, u2, refl, subst (λ (s : List T). l d u1 s a) (ap (λ (w : List (Cell T)). bare w ++ r) e1 ∙ bare_append_rest u2 v r) x, y),
  z,
)

-- [ l ] f is l f or f without it
pub maybe_to : {T : Type 0} {A B : Type 0} (l : Lang T A) (f : Option A → Lang T B) → Into (sequence (maybe l) f) (choice (sequence l (λ a. f (Some a))) (f None))
unfolding sequence choice pure
maybe_to {T} l f d w r b (o, u, v, e, inl (a, u1, u2, e1, x, (e2, e3)), y) =
    let whole : u1 ++ [] ≡ u1 = append-nil u1 in
    let same : u ≡ u1 = e1 ∙ ap (λ (t : List (Cell T)). u1 ++ t) e2 ∙ whole in
    inl (a, u1, v, e ∙ ap (λ (u : List (Cell T)). u ++ v) same, subst (λ (t : List (Cell T)). l d u1 (bare t ++ (bare v ++ r)) a) e2 x, subst (λ (o : Option _). f o d v r b) (sym e3) y)
maybe_to {T} l f d w r b (o, u, v, e, inr (e1, e2), y) =
    inr (subst (λ (w : List (Cell T)). f None d w r b) (sym (e ∙ ap (λ (u : List (Cell T)). u ++ v) e1)) (subst (λ (o : Option _). f o d v r b) (sym e2) y))

pub maybe_back : {T : Type 0} {A B : Type 0} (l : Lang T A) (f : Option A → Lang T B) → Into (choice (sequence l (λ a. f (Some a))) (f None)) (sequence (maybe l) f)
unfolding sequence choice pure
maybe_back {T} l f d w r b (inl (a, u, v, e, x, y)) = (Some a, u, v, e, inl (a, u, [], sym (append-nil u), x, (refl, refl)), y)
maybe_back {T} l f d w r b (inr y) = (None, [], w, refl, inr (refl, refl), y)

-- ( l or m ) f is l f or m f
pub spread_to : {T : Type 0} {A B : Type 0} (l m : Lang T A) (f : A → Lang T B) → Into (sequence (choice l m) f) (choice (sequence l f) (sequence m f))
unfolding sequence choice
spread_to {T} l m f d w r b (a, u, v, e, inl x, y) = inl (a, u, v, e, x, y)
spread_to {T} l m f d w r b (a, u, v, e, inr x, y) = inr (a, u, v, e, x, y)

-- inside a sequence, and beside another
pub inside : {T : Type 0} {A B : Type 0} (l : Lang T A) (f g : A → Lang T B) → ((a : A) → Into (f a) (g a)) → Into (sequence l f) (sequence l g)
unfolding sequence
inside {T} l f g h d w r b (a, u, v, e, x, y) = (a, u, v, e, x, h a d v r b y)

pub beside : {T : Type 0} {A : Type 0} (l1 l2 m1 m2 : Lang T A) → Into l1 m1 → Into l2 m2 → Into (choice l1 l2) (choice m1 m2)
unfolding choice
beside {T} l1 l2 m1 m2 h1 h2 d w r a (inl x) = inl (h1 d w r a x)
beside {T} l1 l2 m1 m2 h1 h2 d w r a (inr x) = inr (h2 d w r a x)

pub choice_assoc_to : {T : Type 0} {A : Type 0} (l m n : Lang T A) → Into (choice (choice l m) n) (choice l (choice m n))
unfolding choice
choice_assoc_to {T} l m n d w r a (inl (inl x)) = inl x
choice_assoc_to {T} l m n d w r a (inl (inr x)) = inr (inl x)
choice_assoc_to {T} l m n d w r a (inr x) = inr (inr x)

pub swap : {T : Type 0} {A : Type 0} (l m : Lang T A) → Into (choice l m) (choice m l)
unfolding choice
swap {T} l m d w r a (inl x) = inr x
swap {T} l m d w r a (inr x) = inl x

-- what two alternatives have in front can be read once
pub share_to : {T A B : Type 0} (l : Lang T A) (f1 f2 : A → Lang T B) → Into (sequence l (λ a. choice (f1 a) (f2 a))) (choice (sequence l f1) (sequence l f2))
unfolding sequence choice
share_to l f1 f2 d w r b (a, u, v, e, x, inl y) = inl (a, u, v, e, x, y)
share_to l f1 f2 d w r b (a, u, v, e, x, inr y) = inr (a, u, v, e, x, y)

pub share_back : {T A B : Type 0} (l : Lang T A) (f1 f2 : A → Lang T B) → Into (choice (sequence l f1) (sequence l f2)) (sequence l (λ a. choice (f1 a) (f2 a)))
unfolding sequence choice
share_back l f1 f2 d w r b (inl (a, u, v, e, x, y)) = (a, u, v, e, x, inl y)
share_back l f1 f2 d w r b (inr (a, u, v, e, x, y)) = (a, u, v, e, x, inr y)

-- ---- chains of regroupings

pub same_into : {T A : Type 0} (l : Lang T A) → Into l l
same_into l d w r a x = x

pub then_into : {T A : Type 0} (l m n : Lang T A) → Into l m → Into m n → Into l n
then_into l m n f g d w r a x = g d w r a (f d w r a x)

pub into_left : {T A : Type 0} (l m n : Lang T A) → Into l m → Into l (choice m n)
unfolding choice
into_left l m n f d w r a x = inl (f d w r a x)

pub into_right : {T A : Type 0} (l m n : Lang T A) → Into l n → Into l (choice m n)
unfolding choice
into_right l m n f d w r a x = inr (f d w r a x)

pub both_into : {T A : Type 0} (l m n : Lang T A) → Into l n → Into m n → Into (choice l m) n
unfolding choice
both_into l m n f g d w r a (inl x) = f d w r a x
both_into l m n f g d w r a (inr x) = g d w r a x

-- nothing first
pub pure_to : {T A B : Type 0} (a : A) (f : A → Lang T B) → Into (sequence (pure a) f) (f a)
unfolding sequence pure
pure_to {T} {A} {B} a f d w r b (c, u, v, e, (e1, e2), y) =
    let same : w ≡ v = e ∙ ap (λ (u : List (Cell T)). u ++ v) e1 in
    subst (λ (w : List (Cell T)). f a d w r b) (sym same) (subst (λ (a : A). f a d v r b) (sym e2) y)

pub pure_back : {T A B : Type 0} (a : A) (f : A → Lang T B) → Into (f a) (sequence (pure a) f)
unfolding sequence pure
pure_back a f d w r b x = (a, [], w, refl, (refl, refl), x)

pub spread_back : {T A B : Type 0} (l m : Lang T A) (f : A → Lang T B) → Into (choice (sequence l f) (sequence m f)) (sequence (choice l m) f)
unfolding sequence choice
spread_back l m f d w r b (inl (a, u, v, e, x, y)) = (a, u, v, e, inl x, y)
spread_back l m f d w r b (inr (a, u, v, e, x, y)) = (a, u, v, e, inr x, y)

-- what two alternatives have in front, where that is two parts
pub share_two_to : {T A B C : Type 0} (l : Lang T A) (m : A → Lang T B) (f g : A → B → Lang T C) → Into (sequence l (λ a. sequence (m a) (λ b. choice (f a b) (g a b)))) (choice (sequence l (λ a. sequence (m a) (f a))) (sequence l (λ a. sequence (m a) (g a))))
share_two_to l m f g = then_into _ _ _ (inside l _ _ (λ a. share_to (m a) (f a) (g a))) (share_to l _ _)

pub share_two_back : {T A B C : Type 0} (l : Lang T A) (m : A → Lang T B) (f g : A → B → Lang T C) → Into (choice (sequence l (λ a. sequence (m a) (f a))) (sequence l (λ a. sequence (m a) (g a)))) (sequence l (λ a. sequence (m a) (λ b. choice (f a b) (g a b))))
share_two_back l m f g = then_into _ _ _ (share_back l _ _) (inside l _ _ (λ a. share_back (m a) (f a) (g a)))

-- [ l ] f | [ l ] g
pub share_maybe_to : {T A B : Type 0} (l : Lang T A) (f g : Option A → Lang T B) → Into (choice (sequence (maybe l) f) (sequence (maybe l) g)) (choice (sequence l (λ a. choice (f (Some a)) (g (Some a)))) (choice (f None) (g None)))
share_maybe_to l f g = both_into _ _ _
    (then_into _ _ _ (maybe_to l f) (both_into _ _ _ (into_left _ _ _ (inside l _ _ (λ a. into_left _ _ _ (same_into _)))) (into_right _ _ _ (into_left _ _ _ (same_into _)))))
    (then_into _ _ _ (maybe_to l g) (both_into _ _ _ (into_left _ _ _ (inside l _ _ (λ a. into_right _ _ _ (same_into _)))) (into_right _ _ _ (into_right _ _ _ (same_into _)))))

pub share_maybe_back : {T A B : Type 0} (l : Lang T A) (f g : Option A → Lang T B) → Into (choice (sequence l (λ a. choice (f (Some a)) (g (Some a)))) (choice (f None) (g None))) (choice (sequence (maybe l) f) (sequence (maybe l) g))
share_maybe_back l f g = both_into _ _ _
    (then_into _ _ _ (share_to l _ _) (both_into _ _ _ (into_left _ _ _ (then_into _ _ _ (into_left _ _ _ (same_into _)) (maybe_back l f))) (into_right _ _ _ (then_into _ _ _ (into_left _ _ _ (same_into _)) (maybe_back l g)))))
    (both_into _ _ _ (into_left _ _ _ (then_into _ _ _ (into_right _ _ _ (same_into _)) (maybe_back l f))) (into_right _ _ _ (then_into _ _ _ (into_right _ _ _ (same_into _)) (maybe_back l g))))
