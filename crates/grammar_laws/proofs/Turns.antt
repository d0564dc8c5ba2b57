-- Turns of a loop: items for as long as a test holds.
use Rattle.std.proofs.Common.{◌≡◌, ℕ, zero, suc, ◌<◌, ◌≤◌, Bool, true, false, List, [], ◌∷◌, length, Ok, Err, refl, sym, ap, ◌∙◌, arith, inl, inr}
use Rattle.std.specs.Prelude.{◌⊎◌}
use Rattle.grammar_laws.specs.declared.fault.Fault.{Fault}
use Rattle.grammar_laws.specs.Readers.{Outcome, Parser, and_then}
use Rattle.grammar_laws.proofs.Whiles.{while_from}
use Rattle.grammar_laws.proofs.Law.{bool_cases, then_ok, then_err, bind_ok, bind_err}
use Rattle.grammar_laws.proofs.Leaf.{ok_parts, ok_same, not_both}

module _ (T A : Type 0) (test : List T → Bool) (none : test [] ≡ false) (p : Parser T A) (moves : (ts : List T) (a : A) (rest : List T) → p ts ≡ Ok (a, rest) → length rest < length ts) where
  abbrev pub next : ℕ → A → Parser T (List A)
  next n a = λ ts. and_then (while_from test p n ts) (λ more s. Ok (a ∷ more, s))

  pub turn_first : (n : ℕ) (ts : List T) → test ts ≡ true → while_from test p (suc n) ts ≡ and_then (p ts) (next n)
  unfolding while_from
  turn_first n ts e = rw e refl

  pub turn_none : (n : ℕ) (ts : List T) → test ts ≡ false → while_from test p n ts ≡ Ok ([], ts)
  unfolding while_from
  turn_none zero ts e = refl
  turn_none (suc n) ts e = rw e refl

  turn_nil : (n : ℕ) (ts : List T) → length ts ≤ 0 → while_from test p n ts ≡ Ok ([], ts)
  turn_nil n [] le = turn_none n [] none
  turn_nil n (t ∷ ts) le = absurd (omega arith)

  same_next : (n k : ℕ) (o : Outcome T A) → ((a : A) (rest : List T) → o ≡ Ok (a, rest) → while_from test p n rest ≡ while_from test p k rest) → and_then o (next n) ≡ and_then o (next k)
  unfolding and_then
  same_next n k (Ok x) h = ap (λ (o : Outcome T (List A)). and_then o (λ more s. Ok (x.0 ∷ more, s))) (h x.0 x.1 refl)
  same_next n k (Err e) h = refl

  -- further turns change nothing
  pub more_turns : (n k : ℕ) (ts : List T) → length ts ≤ n → length ts ≤ k → while_from test p n ts ≡ while_from test p k ts
  more_turns zero k ts hn hk = turn_nil zero ts hn ∙ sym (turn_nil k ts hn)
  more_turns (suc n) zero ts hn hk = turn_nil (suc n) ts hk ∙ sym (turn_nil zero ts hk)
  more_turns (suc n) (suc k) ts hn hk = elim (bool_cases (test ts)) [
    | inr b ↦ turn_none (suc n) ts b ∙ sym (turn_none (suc k) ts b)
    | inl b ↦ turn_first n ts b ∙ same_next n k (p ts) (λ a rest e. let lt : length rest < length ts = moves ts a rest e in more_turns n k rest (omega arith) (omega arith)) ∙ sym (turn_first k ts b)
  ]

  abbrev pub all : Parser T (List A)
  all = λ ts. while_from test p (length ts) ts

  pub all_none : (ts : List T) → test ts ≡ false → all ts ≡ Ok ([], ts)
  all_none ts b = turn_none (length ts) ts b

  pub to_turns : (a : A) (ts rest : List T) → p ts ≡ Ok (a, rest) → (n : ℕ) → length ts ≡ suc n → while_from test p n rest ≡ all rest
  to_turns a ts rest e n len = let lt : length rest < length ts = moves ts a rest e in more_turns n (length rest) rest (omega arith) (omega arith)

  pub all_first : (ts : List T) → test ts ≡ true → (n : ℕ) → length ts ≡ suc n → all ts ≡ and_then (p ts) (next n)
  all_first ts b n len = ap (λ (k : ℕ). while_from test p k ts) len ∙ turn_first n ts b

  pub has_some : (ts : List T) → test ts ≡ true → (n : ℕ) × (length ts ≡ suc n)
  has_some [] b = let off : false ≡ true = sym none ∙ b in absurd cc
  has_some (t ∷ ts) b = (length ts, refl)

  pub all_some : (ts : List T) (a : A) (mid : List T) (more : List A) (rest : List T) → test ts ≡ true → p ts ≡ Ok (a, mid) → all mid ≡ Ok (more, rest) → all ts ≡ Ok (a ∷ more, rest)
  all_some ts a mid more rest b e f =
      let n = has_some ts b in
      all_first ts b n.0 n.1 ∙ then_ok (p ts) (next n.0) a mid e ∙ then_ok (while_from test p n.0 mid) (λ more s. Ok (a ∷ more, s)) more rest (to_turns a ts mid e n.0 n.1 ∙ f)

  pub all_stop_first : (ts : List T) (d : Fault) → test ts ≡ true → p ts ≡ Err d → all ts ≡ Err d
  all_stop_first ts d b e = let n = has_some ts b in all_first ts b n.0 n.1 ∙ then_err (p ts) (next n.0) d e

  pub all_stop_later : (ts : List T) (a : A) (mid : List T) (d : Fault) → test ts ≡ true → p ts ≡ Ok (a, mid) → all mid ≡ Err d → all ts ≡ Err d
  all_stop_later ts a mid d b e f =
      let n = has_some ts b in
      all_first ts b n.0 n.1 ∙ then_ok (p ts) (next n.0) a mid e ∙ then_err (while_from test p n.0 mid) (λ more s. Ok (a ∷ more, s)) d (to_turns a ts mid e n.0 n.1 ∙ f)

  abbrev pub SomeRead : List T → List A → List T → Type 0
  SomeRead ts as1 rest = (a : A) × (mid : List T) × (more : List A) × (p ts ≡ Ok (a, mid)) × (all mid ≡ Ok (more, rest)) × (a ∷ more ≡ as1)

  pub all_ok : (ts : List T) (as1 : List A) (rest : List T) → all ts ≡ Ok (as1, rest) → ((test ts ≡ false) × ([] ≡ as1) × (ts ≡ rest)) ⊎ ((test ts ≡ true) × SomeRead ts as1 rest)
  all_ok ts as1 rest e = elim (bool_cases (test ts)) [
    | inr b ↦ let x = ok_parts [] as1 ts rest (all ts) (all_none ts b) e in inl (b, x.0, x.1)
    | inl b ↦
        let n = has_some ts b in
        let x = bind_ok (p ts) (next n.0) (as1, rest) (sym (all_first ts b n.0 n.1) ∙ e) in
        let a = x.0.0 in
        let y = bind_ok (while_from test p n.0 x.0.1) (λ more s. Ok (a ∷ more, s)) (as1, rest) x.2 in
        let z = ok_same (a ∷ y.0.0) as1 y.0.1 rest y.2 in
        let back : all x.0.1 ≡ Ok (y.0.0, rest) = sym (to_turns a ts x.0.1 x.1 n.0 n.1) ∙ y.1 ∙ ap (λ (r : List T). Ok (y.0.0, r)) z.1 in
        inr (b, (a, x.0.1, y.0.0, x.1, back, z.0))
  ]

  pub all_err : (ts : List T) (d : Fault) → all ts ≡ Err d → (test ts ≡ true) × ((p ts ≡ Err d) ⊎ ((a : A) × (mid : List T) × (p ts ≡ Ok (a, mid)) × (all mid ≡ Err d)))
  all_err ts d e = elim (bool_cases (test ts)) [
    | inr b ↦ not_both _ ([], ts) d (all ts) (all_none ts b) e
    | inl b ↦
        let n = has_some ts b in (
          b,
          elim (bind_err (p ts) (next n.0) d (sym (all_first ts b n.0 n.1) ∙ e)) [
            | inl x ↦ inl x
            | inr x ↦ elim (bind_err (while_from test p n.0 x.0.1) (λ more s. Ok (x.0.0 ∷ more, s)) d x.2) [
              | inl y ↦ inr (x.0.0, x.0.1, x.1, sym (to_turns x.0.0 ts x.0.1 x.1 n.0 n.1) ∙ y)
              | inr y ↦ not_both _ (x.0.0 ∷ y.0.0, y.0.1) d (Ok (x.0.0 ∷ y.0.0, y.0.1)) refl y.2
            ]
          ],
        )
  ]
