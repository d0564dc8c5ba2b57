-- Items of one kind and then of another, as a function on lists.
use Rattle.std.proofs.Common.{◌≡◌, ℕ, ◌<◌, Bool, true, false, List, [], ◌∷◌, length, Ok, Err, refl, sym, ap, ◌∙◌, inl, inr}
use Rattle.std.specs.Prelude.{◌⊎◌, ◌||◌, ◌&&◌, not}
use Rattle.grammar_laws.specs.declared.fault.Fault.{Fault}
use Rattle.grammar_laws.specs.declared.fault.Fault.TheVariants.{Stop}
use Rattle.grammar_laws.specs.declared.fault.Why.TheVariants.{Syntax}
use Rattle.grammar_laws.specs.Words.{member, begins, behind}
use Rattle.grammar_laws.specs.Readers.{Outcome, Parser, and_then, first_kind, stray, past_stray}
use Rattle.grammar_laws.proofs.Whiles.{while}
use Rattle.grammar_laws.proofs.Sets.{Alike}
use Rattle.grammar_laws.proofs.Law.{bool_cases, then_ok, then_err, bind_ok, bind_err}
use Rattle.grammar_laws.proofs.Leaf.{ok_same, not_both}
use Rattle.grammar_laws.proofs.Choice.{begins_alike}
use Rattle.grammar_laws.proofs.Turns.{all_none, all_some, all_stop_first, all_stop_later}

pub outcome_cases : {T A : Type 0} (o : Outcome T A) → ((x : A × List T) × (o ≡ Ok x)) ⊎ ((e : Fault) × (o ≡ Err e))
outcome_cases (Ok x) = inl (x, refl)
outcome_cases (Err e) = inr (e, refl)

-- ---- what is looked at: the next token, and where that is a name the one behind it

module _ (T : Type 0) (code : T → ℕ) (own : List ℕ) (name : ℕ) (after : List ℕ) where
  pub kind_alike : (x : T) (r s : List T) → Alike r s → first_kind code own name (x ∷ r) ≡ first_kind code own name (x ∷ s)
  kind_alike x r s like = ap (λ (b : Bool). member own (code x) || (member (name ∷ []) (code x) && b)) (begins_alike code (name ∷ []) r s like)

  pub stray_alike : (x : T) (r s : List T) → Alike r s → stray code name after (x ∷ r) ≡ stray code name after (x ∷ s)
  stray_alike x r s like = ap (λ (b : Bool). member (name ∷ []) (code x) && not b) (begins_alike code after r s like)

  -- a token that is no name decides alone
  pub kind_other : (x : T) (r : List T) → member (name ∷ []) (code x) ≡ false → first_kind code own name (x ∷ r) ≡ member own (code x)
  kind_other x r e = ap (λ (b : Bool). member own (code x) || (b && begins code (name ∷ []) r)) e ∙ or_none (member own (code x))
    where
      or_none : (b : Bool) → (b || false) ≡ b
      or_none true = refl
      or_none false = refl

  pub stray_other : (x : T) (r : List T) → member (name ∷ []) (code x) ≡ false → stray code name after (x ∷ r) ≡ false
  stray_other x r e = ap (λ (b : Bool). b && not (begins code after r)) e

  pub kind_own : (x : T) (r : List T) → member own (code x) ≡ true → first_kind code own name (x ∷ r) ≡ true
  kind_own x r e = ap (λ (b : Bool). b || (member (name ∷ []) (code x) && begins code (name ∷ []) r)) e

  -- a name after which another comes, or something else
  pub kind_name : (x : T) (r : List T) → member own (code x) ≡ false → member (name ∷ []) (code x) ≡ true → first_kind code own name (x ∷ r) ≡ begins code (name ∷ []) r
  kind_name x r off e =
      ap (λ (b : Bool). b || (member (name ∷ []) (code x) && begins code (name ∷ []) r)) off ∙ ap (λ (b : Bool). b && begins code (name ∷ []) r) e

  pub stray_name : (x : T) (r : List T) → member (name ∷ []) (code x) ≡ true → stray code name after (x ∷ r) ≡ not (begins code after r)
  stray_name x r e = ap (λ (b : Bool). b && not (begins code after r)) e

-- ---- the turns

module _ (T A B : Type 0) (code : T → ℕ) (own : List ℕ) (name : ℕ) (after : List ℕ) (p : Parser T A) (q : Parser T B)
    (moves : (ts : List T) (a : A) (rest : List T) → p ts ≡ Ok (a, rest) → length rest < length ts) where
  abbrev kind : List T → Bool
  kind = first_kind code own name

  abbrev firsts : Parser T (List A)
  firsts = while kind p

  abbrev seconds : Parser T B
  seconds = past_stray code name after q

  abbrev both : List A → Parser T (List A × B)
  both as1 = λ s. and_then (seconds s) (λ b r. Ok ((as1, b), r))

  abbrev pub two_kinds : Parser T (List A × B)
  two_kinds = λ ts. and_then (firsts ts) both

  abbrev with_one : A → (List A × B) → Parser T (List A × B)
  with_one a x = λ s. Ok ((a ∷ x.0, x.1), s)

  pub past_is : (ts : List T) → stray code name after ts ≡ false → seconds ts ≡ q ts
  unfolding past_stray
  past_is ts e = rw e refl

  pub stray_is : (ts : List T) → stray code name after ts ≡ true → seconds ts ≡ Err (Stop Syntax (length (behind ts)))
  unfolding past_stray
  stray_is ts e = rw e refl

  z_stop : (ts : List T) (e : Fault) → kind ts ≡ true → p ts ≡ Err e → two_kinds ts ≡ Err e
  z_stop ts e b f = then_err (firsts ts) both e (all_stop_first T A kind refl p moves ts e b f)

  z_none : (ts : List T) → kind ts ≡ false → two_kinds ts ≡ both [] ts
  z_none ts b = then_ok (firsts ts) both [] ts (all_none T A kind refl p moves ts b)

  one_more : (a : A) (more : List A) (o : Outcome T B) → and_then o (λ b r. Ok ((a ∷ more, b), r)) ≡ and_then (and_then o (λ b r. Ok ((more, b), r))) (with_one a)
  unfolding and_then
  one_more a more (Ok y) = refl
  one_more a more (Err e) = refl

  z_first : (ts : List T) (a : A) (mid : List T) → kind ts ≡ true → p ts ≡ Ok (a, mid) → two_kinds ts ≡ and_then (two_kinds mid) (with_one a)
  z_first ts a mid b f = elim (outcome_cases (firsts mid)) [
    | inl x ↦
        let more = x.0.0 in
        let s = x.0.1 in
        then_ok (firsts ts) both (a ∷ more) s (all_some T A kind refl p moves ts a mid more s b f x.1)
        ∙ one_more a more (seconds s) ∙ sym (ap (λ (o : Outcome T (List A × B)). and_then o (with_one a)) (then_ok (firsts mid) both more s x.1))
    | inr x ↦
        then_err (firsts ts) both x.0 (all_stop_later T A kind refl p moves ts a mid x.0 b f x.1)
        ∙ sym (then_err (two_kinds mid) (with_one a) x.0 (then_err (firsts mid) both x.0 x.1))
  ]

  pub two_some : (ts : List T) (a : A) (mid : List T) (x : List A × B) (rest : List T) → kind ts ≡ true → p ts ≡ Ok (a, mid) → two_kinds mid ≡ Ok (x, rest) → two_kinds ts ≡ Ok ((a ∷ x.0, x.1), rest)
  two_some ts a mid x rest b f g = z_first ts a mid b f ∙ then_ok (two_kinds mid) (with_one a) x rest g

  pub two_later : (ts : List T) (a : A) (mid : List T) (e : Fault) → kind ts ≡ true → p ts ≡ Ok (a, mid) → two_kinds mid ≡ Err e → two_kinds ts ≡ Err e
  two_later ts a mid e b f g = z_first ts a mid b f ∙ then_err (two_kinds mid) (with_one a) e g

  pub two_stop : (ts : List T) (e : Fault) → kind ts ≡ true → p ts ≡ Err e → two_kinds ts ≡ Err e
  two_stop ts e b f = z_stop ts e b f

  pub two_last : (ts : List T) (b : B) (rest : List T) → kind ts ≡ false → stray code name after ts ≡ false → q ts ≡ Ok (b, rest) → two_kinds ts ≡ Ok (([], b), rest)
  two_last ts b rest k s g = z_none ts k ∙ then_ok (seconds ts) _ b rest (past_is ts s ∙ g)

  pub two_last_stop : (ts : List T) (e : Fault) → kind ts ≡ false → stray code name after ts ≡ false → q ts ≡ Err e → two_kinds ts ≡ Err e
  two_last_stop ts e k s g = z_none ts k ∙ then_err (seconds ts) _ e (past_is ts s ∙ g)

  pub two_stray : (ts : List T) → kind ts ≡ false → stray code name after ts ≡ true → two_kinds ts ≡ Err (Stop Syntax (length (behind ts)))
  two_stray ts k s = z_none ts k ∙ then_err (seconds ts) _ (Stop Syntax (length (behind ts))) (stray_is ts s)

  pub two_ok : (ts : List T) (x : List A × B) (rest : List T) → two_kinds ts ≡ Ok (x, rest)
      → ((kind ts ≡ true) × ((a : A) × (mid : List T) × (y : List A × B) × (p ts ≡ Ok (a, mid)) × (two_kinds mid ≡ Ok (y, rest)) × ((a ∷ y.0, y.1) ≡ x)))
      ⊎ ((kind ts ≡ false) × (stray code name after ts ≡ false) × ((b : B) × (q ts ≡ Ok (b, rest)) × (([], b) ≡ x)))
  two_ok ts x rest e = elim (bool_cases (kind ts)) [
    | inl k ↦ elim (outcome_cases (p ts)) [
      | inr f ↦ not_both _ (x, rest) f.0 (two_kinds ts) e (two_stop ts f.0 k f.1)
      | inl f ↦
          let a = f.0.0 in
          let mid = f.0.1 in
          let y = bind_ok (two_kinds mid) (with_one a) (x, rest) (sym (z_first ts a mid k f.1) ∙ e) in
          let z = ok_same (a ∷ y.0.0.0, y.0.0.1) x y.0.1 rest y.2 in
          inl (k, (a, mid, y.0.0, f.1, y.1 ∙ ap (λ (r : List T). Ok (y.0.0, r)) z.1, z.0))
    ]
    | inr k ↦ elim (bool_cases (stray code name after ts)) [
      | inl s ↦ not_both _ (x, rest) (Stop Syntax (length (behind ts))) (two_kinds ts) e (two_stray ts k s)
      | inr s ↦
          let y = bind_ok (seconds ts) (λ b r. Ok (([], b), r)) (x, rest) (sym (z_none ts k) ∙ e) in
          let z = ok_same ([], y.0.0) x y.0.1 rest y.2 in
          inr (k, s, (y.0.0, sym (past_is ts s) ∙ y.1 ∙ ap (λ (r : List T). Ok (y.0.0, r)) z.1, z.0))
    ]
  ]

  pub two_err : (ts : List T) (e : Fault) → two_kinds ts ≡ Err e
      → ((kind ts ≡ true) × ((p ts ≡ Err e) ⊎ ((a : A) × (mid : List T) × (p ts ≡ Ok (a, mid)) × (two_kinds mid ≡ Err e))))
      ⊎ ((kind ts ≡ false) × (((stray code name after ts ≡ true) × (Stop Syntax (length (behind ts)) ≡ e)) ⊎ ((stray code name after ts ≡ false) × (q ts ≡ Err e))))
  two_err ts e f = elim (bool_cases (kind ts)) [
    | inl k ↦ elim (outcome_cases (p ts)) [
      | inr g ↦ let same : ◌≡◌ {A = Outcome T (List A × B)} (Err g.0) (Err e) = sym (two_stop ts g.0 k g.1) ∙ f in let one : g.0 ≡ e = cc in inl (k, inl (g.1 ∙ ap (λ (e : Fault). Err e) one))
      | inl g ↦ elim (bind_err (two_kinds g.0.1) (with_one g.0.0) e (sym (z_first ts g.0.0 g.0.1 k g.1) ∙ f)) [
        | inl x ↦ inl (k, inr (g.0.0, g.0.1, g.1, x))
        | inr x ↦ not_both _ ((g.0.0 ∷ x.0.0.0, x.0.0.1), x.0.1) e (Ok ((g.0.0 ∷ x.0.0.0, x.0.0.1), x.0.1)) refl x.2
      ]
    ]
    | inr k ↦ elim (bool_cases (stray code name after ts)) [
      | inl s ↦
          let same : ◌≡◌ {A = Outcome T (List A × B)} (Err (Stop Syntax (length (behind ts)))) (Err e) = sym (two_stray ts k s) ∙ f in
          let one : Stop Syntax (length (behind ts)) ≡ e = cc in
          inr (k, inl (s, one))
      | inr s ↦ elim (bind_err (seconds ts) (λ b r. Ok (([], b), r)) e (sym (z_none ts k) ∙ f)) [
        | inl x ↦ inr (k, inr (s, sym (past_is ts s) ∙ x))
        | inr x ↦ not_both _ (([], x.0.0), x.0.1) e (Ok (([], x.0.0), x.0.1)) refl x.2
      ]
    ]
  ]
