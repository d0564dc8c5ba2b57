-- Items of two kinds, as the grammar has them.
use Rattle.std.proofs.Common.{◌≡◌, ℕ, ◌≤◌, Bool, true, false, List, [], ◌∷◌, ◌++◌, Ok, refl, subst}
use Rattle.grammar_laws.specs.Words.{member}
use Rattle.grammar_laws.specs.Languages as g
use Rattle.grammar_laws.specs.Languages.{Lang}
use Rattle.grammar_laws.specs.Readers as r
use Rattle.grammar_laws.specs.Readers.{Parser, and_then}
use Rattle.grammar_laws.proofs.Sets.{disjoint}
use Rattle.std.specs.Prelude.{◌&&◌}
use Rattle.grammar_laws.proofs.Law.{Heights, Law}
use Rattle.grammar_laws.proofs.Many.{many}
use Rattle.grammar_laws.proofs.Settle.{restate}
use Rattle.grammar_laws.proofs.TwoKinds.{Second, OpensWith, paired_law}
use Rattle.grammar_laws.proofs.TwoKindsWords.{apart_words, to_apart, from_apart}
use Rattle.grammar_laws.proofs.Whiles.{first_while}
use Rattle.grammar_laws.proofs.Seconds.{next_many, many_opens_with}

-- `own` are the codes with which only the first kind begins, and `name` the one with which both may; a name of the first kind goes on with a name, one of the second with one of `after`.
pub many_then : {T A B : Type 0} {code : T → ℕ} {Tall : Heights} {limit depth : ℕ} {n1 n2 o1 o2 : Bool} {f1 c1 g1 f2 c2 g2 : List ℕ} {p : Parser T A} {q : Parser T B} (own : List ℕ) (name : ℕ) (after second : List ℕ) (l : ℕ → Lang T A) (m : ℕ → Lang T B) (d : ℕ)
    → Law code Tall limit depth n1 o1 f1 c1 g1 p (λ h. l h d) → Law code Tall limit depth n2 o2 f2 c2 g2 q (λ h. m h d) → n1 ≡ false → f1 ≡ own ++ name ∷ [] → n2 ≡ false → f2 ≡ second
    → disjoint second own ≡ true → member second name ≡ true → member after name ≡ false → disjoint ((own ++ name ∷ []) ++ second) c1 ≡ true → disjoint second c2 ≡ true → disjoint second g2 ≡ true
    → ((h : ℕ) → Second code name (name ∷ []) (l h d)) → ((h : ℕ) → Second code name after (m h d))
    → ((h : ℕ) → Tall.tall h → OpensWith code name (name ∷ []) (λ k. k ≤ limit) (l h d)) → ((h : ℕ) → Tall.tall h → OpensWith code name after (λ k. Unit {0}) (m h d))
    → Law code Tall limit depth true (o1 && o2) ((own ++ name ∷ []) ++ second) ((c2 ++ second) ++ ((own ++ name ∷ []) ++ c1)) (g1 ++ g2) (r.many_then code own name after second p q) (λ h. g.many_then (l h) (m h) d)
unfolding g.many_then
many_then {T} {A} {B} {code} {Tall} {limit} {depth} {n1} {n2} {o1} {o2} {f1} {c1} {g1} {f2} {c2} {g2} {p} {q} own name after second l m d P' Q' none1 same1 none2 same2 own_apart named after_other clash_free clash2 goes2 second1 second2 opens1 opens2 =
    let P = subst (λ (f : List ℕ). Law code Tall limit depth false o1 f c1 g1 p (λ h. l h d)) same1 (subst (λ (b : Bool). Law code Tall limit depth b o1 f1 c1 g1 p (λ h. l h d)) none1 P') in
    let Q = subst (λ (f : List ℕ). Law code Tall limit depth false o2 f c2 g2 q (λ h. m h d)) same2 (subst (λ (b : Bool). Law code Tall limit depth b o2 f2 c2 g2 q (λ h. m h d)) none2 Q') in
    let with : Parser T (List A) → Parser T (List A × List B) = λ firsts ts. and_then (firsts ts) (λ as1 s. and_then (r.past_stray code name after (r.many code second q) s) (λ bs t. Ok ((as1, bs), t))) in
    subst (λ (p : Parser T (List A)). Law code Tall limit depth true (o1 && o2) ((own ++ name ∷ []) ++ second) ((c2 ++ second) ++ ((own ++ name ∷ []) ++ c1)) (g1 ++ g2) (with p) (λ h. apart_words (l h) (g.many (m h)) d)) (first_while code own name p) (
    restate (λ h w r x y. to_apart (l h) (g.many (m h)) d w r x y) (λ h w r x y. from_apart (l h) (g.many (m h)) d w r x y)
    (paired_law T A (List B) code Tall limit depth o1 o2 own name after c1 g1 second (c2 ++ second) g2 p (r.many code second q) l (λ h. g.many (m h)) d P (many second m d Q refl refl clash2 goes2)
    own_apart named after_other clash_free second1 (λ h. next_many code name depth after second g2 (m h) d (Q.shape h) (second2 h)) opens1 (λ h tall. many_opens_with code name after (λ k. Unit {0}) (m h) d (opens2 h tall))))
