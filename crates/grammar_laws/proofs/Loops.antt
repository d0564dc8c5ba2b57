-- A loop that reads one item after the other, as its code goes through it: what was found so far, and the turns that are left.
use Rattle.std.proofs.Common.{◌≡◌, ℕ, zero, suc, ◌+◌, ◌-◌, ◌<◌, ◌≤◌, Bool, true, false, cond, List, [], ◌∷◌, ◌++◌, length, Ok, Err, refl, sym, ap, ◌∙◌, append_assoc, arith}
use Rattle.std.proofs.lemmas.List.{append-nil}
use Rattle.grammar_laws.specs.declared.fault.Fault.{Fault}
use Rattle.grammar_laws.specs.Words.{begins}
use Rattle.grammar_laws.specs.Readers.{Outcome, Parser, and_then, either, many_from, first_kind, firsts_from, grown}

-- one turn of a loop with this test
abbrev pub Turn : {T A : Type 0} → (List T → Bool) → Parser T A → (ℕ → Parser T (List A)) → Type 0
Turn {T} {A} test p run = (n : ℕ) (ts : List T) → run (suc n) ts ≡ cond (test ts) (and_then (p ts) (λ a s. and_then (run n s) (λ more r. Ok (a ∷ more, r)))) (Ok ([], ts))

module _ {T A : Type 0} (test : List T → Bool) (p : Parser T A) (run : ℕ → Parser T (List A)) (over : (ts : List T) → run 0 ts ≡ Ok ([], ts)) (turn : Turn test p run) (found : List A) (total : Outcome T (List A)) (n at : ℕ) (ts : List T) where
  abbrev SoFar : Type 0
  SoFar = grown found (run (n - at) ts) ≡ total

  none : (k : ℕ) → test ts ≡ false → run k ts ≡ Ok ([], ts)
  none zero b = over ts
  none (suc k) b = turn k ts ∙ rw b refl

  whole : (o : Outcome T (List A)) → o ≡ Ok ([], ts) → grown found o ≡ Ok (found, ts)
  unfolding grown and_then
  whole o e = rw e (ap (λ (f : List A). Ok (f, ts)) (append-nil found))

  pub ends : test ts ≡ false → SoFar → total ≡ Ok (found, ts)
  ends b so_far = sym so_far ∙ whole (run (n - at) ts) (none (n - at) b)

  pub is_done : n ≤ at → SoFar → total ≡ Ok (found, ts)
  is_done le so_far = let k : n - at ≡ 0 = omega arith in sym so_far ∙ whole (run (n - at) ts) (ap (λ (k : ℕ). run k ts) k ∙ over ts)

  now : at < n → test ts ≡ true → run (n - at) ts ≡ and_then (p ts) (λ a s. and_then (run (n - (at + 1)) s) (λ more r. Ok (a ∷ more, r)))
  now lt b = let k : n - at ≡ suc (n - (at + 1)) = omega arith in ap (λ (k : ℕ). run k ts) k ∙ turn (n - (at + 1)) ts ∙ rw b refl

  pub stops : (e : Fault) → at < n → test ts ≡ true → p ts ≡ Err e → SoFar → total ≡ Err e
  unfolding grown and_then
  stops e lt b h so_far = sym so_far ∙ ap (grown found) (now lt b) ∙ rw h refl

  pub goes_on : (a : A) (mid : List T) → at < n → test ts ≡ true → p ts ≡ Ok (a, mid) → SoFar → grown (found ++ a ∷ []) (run (n - (at + 1)) mid) ≡ total
  unfolding grown and_then
  goes_on a mid lt b h so_far =
      let one : grown found (run (n - at) ts) ≡ grown (found ++ a ∷ []) (run (n - (at + 1)) mid) = ap (grown found) (now lt b) ∙ rw h (regroup (run (n - (at + 1)) mid)) in
      sym one ∙ so_far
    where
      regroup : (o : Outcome T (List A)) → and_then (and_then o (λ more s. Ok (a ∷ more, s))) (λ more s. Ok (found ++ more, s)) ≡ and_then o (λ more s. Ok ((found ++ a ∷ []) ++ more, s))
      regroup (Ok x) = ap (λ (f : List A). Ok (f, x.1)) (sym (append_assoc found (a ∷ []) x.0))
      regroup (Err e) = refl

pub begin : {T A : Type 0} (run : ℕ → Parser T (List A)) (ts : List T) → grown [] (run (length ts - 0) ts) ≡ run (length ts) ts
unfolding grown and_then
begin {T} {A} run ts = go (run (length ts - 0) ts) ∙ ap (λ (k : ℕ). run k ts) (omega arith)
  where
    go : (o : Outcome T (List A)) → and_then o (λ more s. Ok ([] ++ more, s)) ≡ o
    go (Ok x) = refl
    go (Err e) = refl

-- ---- the two loops

pub many_over : {T A : Type 0} (code : T → ℕ) (codes : List ℕ) (p : Parser T A) (ts : List T) → many_from code codes p 0 ts ≡ Ok ([], ts)
unfolding many_from
many_over code codes p ts = refl

pub many_turn : {T A : Type 0} (code : T → ℕ) (codes : List ℕ) (p : Parser T A) → Turn (begins code codes) p (many_from code codes p)
unfolding many_from either
many_turn code codes p n ts = refl

pub first_over : {T A : Type 0} (code : T → ℕ) (own : List ℕ) (name : ℕ) (p : Parser T A) (ts : List T) → firsts_from code own name p 0 ts ≡ Ok ([], ts)
unfolding firsts_from
first_over code own name p ts = refl

pub first_turn : {T A : Type 0} (code : T → ℕ) (own : List ℕ) (name : ℕ) (p : Parser T A) → Turn (first_kind code own name) p (firsts_from code own name p)
unfolding firsts_from
first_turn code own name p n ts = refl
