-- Loops of a reader, with the test as a function: what the two loops of Readers are instances of.
use Rattle.std.proofs.Common.{◌≡◌, ℕ, zero, suc, Bool, true, false, cond, List, [], ◌∷◌, length, Ok, Err, refl, ap}
use Rattle.std.proofs.Math.Path.{fun_ext}
use Rattle.std.specs.Prelude.{if◌then◌else◌}
use Rattle.grammar_laws.specs.Words.{begins}
use Rattle.grammar_laws.specs.Readers.{Outcome, Parser, and_then, either, many_from, many, first_kind, firsts_from, firsts}

unfoldable pub while_from : {T A : Type 0} → (List T → Bool) → Parser T A → ℕ → Parser T (List A)
while_from test p zero ts = Ok ([], ts)
while_from test p (suc n) ts = if test ts then and_then (p ts) (λ a s. and_then (while_from test p n s) (λ more r. Ok (a ∷ more, r))) else Ok ([], ts)

abbrev pub while : {T A : Type 0} → (List T → Bool) → Parser T A → Parser T (List A)
while test p = λ ts. while_from test p (length ts) ts

-- a turn that goes on in the same way
same_turn : {T A : Type 0} (f g : Parser T (List A)) → ((s : List T) → f s ≡ g s) → (b : Bool) (ts : List T) (o : Outcome T A)
    → ◌≡◌ {A = Outcome T (List A)} (cond b (and_then o (λ a s. and_then (f s) (λ more r. Ok (a ∷ more, r)))) (Ok ([], ts))) (cond b (and_then o (λ a s. and_then (g s) (λ more r. Ok (a ∷ more, r)))) (Ok ([], ts)))
unfolding and_then
same_turn f g h false ts o = refl
same_turn f g h true ts (Err e) = refl
same_turn {T} {A} f g h true ts (Ok x) = ap (λ (o : Outcome T (List A)). and_then o (λ more r. Ok (x.0 ∷ more, r))) (h x.1)

pub many_turns : {T A : Type 0} (code : T → ℕ) (codes : List ℕ) (p : Parser T A) (n : ℕ) (ts : List T) → while_from (begins code codes) p n ts ≡ many_from code codes p n ts
unfolding while_from many_from either
many_turns code codes p zero ts = refl
many_turns code codes p (suc n) ts = same_turn (while_from (begins code codes) p n) (many_from code codes p n) (many_turns code codes p n) (begins code codes ts) ts (p ts)

pub first_turns : {T A : Type 0} (code : T → ℕ) (own : List ℕ) (name : ℕ) (p : Parser T A) (n : ℕ) (ts : List T) → while_from (first_kind code own name) p n ts ≡ firsts_from code own name p n ts
unfolding while_from firsts_from
first_turns code own name p zero ts = refl
first_turns code own name p (suc n) ts = same_turn (while_from (first_kind code own name) p n) (firsts_from code own name p n) (first_turns code own name p n) (first_kind code own name ts) ts (p ts)

pub many_while : {T A : Type 0} (code : T → ℕ) (codes : List ℕ) (p : Parser T A) → while (begins code codes) p ≡ many code codes p
many_while code codes p = fun_ext (λ ts. many_turns code codes p (length ts) ts)

pub first_while : {T A : Type 0} (code : T → ℕ) (own : List ℕ) (name : ℕ) (p : Parser T A) → while (first_kind code own name) p ≡ firsts code own name p
first_while code own name p = fun_ext (λ ts. first_turns code own name p (length ts) ts)
