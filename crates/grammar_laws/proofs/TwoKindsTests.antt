-- What comes, where both kinds of items may begin with a name: the next token, and where that is a name the one behind it.
use Rattle.std.proofs.Common.{◌≡◌, ℕ, ◌<◌, Bool, true, false, List, [], ◌∷◌, ◌++◌, length, refl, sym, ap, subst, ◌∙◌, arith, inl, inr}
use Rattle.std.specs.Prelude.{◌==◌, ◌&&◌, not}
use Rattle.std.proofs.lemmas.Bool.{eqb-true}
use Rattle.grammar_laws.specs.Words.{member, begins, Cell}
use Rattle.grammar_laws.specs.Readers.{first_kind, stray}
use Rattle.grammar_laws.proofs.Sets.{disjoint, or_true, and_true, member_left, member_right, apart, begins_none, Alike, Alike-append}
use Rattle.grammar_laws.proofs.Law.{bool_cases}
use Rattle.grammar_laws.proofs.Settle.{member_head}
use Rattle.grammar_laws.proofs.TwoKindsTurns.{kind_other, stray_other, kind_name, stray_name}

-- ---- tests on what comes

-- a test of the next two tokens gives the same where they are the same
pub again_test : {T : Type 0} (test : List T → Bool) → ((x : T) (r s : List T) → Alike r s → test (x ∷ r) ≡ test (x ∷ s)) → (ts front rest s : List T) (b : Bool)
    → ts ≡ front ++ rest → length rest < length ts → Alike rest s → test ts ≡ b → test (front ++ s) ≡ b
again_test test same ts [] rest s b e lt like t = let len : length ts ≡ length rest = ap length e in absurd (omega arith)
again_test {T} test same ts (x ∷ front) rest s b e lt like t = sym (same x (front ++ rest) (front ++ s) (Alike-append front rest s like)) ∙ ap test (sym e) ∙ t

module _ (T : Type 0) (code : T → ℕ) (own : List ℕ) (name : ℕ) (after fM : List ℕ) (own_apart : disjoint fM own ≡ true) (named : member fM name ≡ true) where
  abbrev pub here : List T → Bool
  here = first_kind code own name

  abbrev pub lost : List T → Bool
  lost = stray code name after

  pub is_name : (x : T) → member (name ∷ []) (code x) ≡ true → code x ≡ name
  is_name x m = sym (eqb-true name (code x) (elim (or_true (name == code x) false m) [ inl e ↦ e | inr e ↦ absurd cc ]))

  pub name_is : (x : T) → code x ≡ name → member (name ∷ []) (code x) ≡ true
  name_is x e = subst (λ (c : ℕ). member (name ∷ []) c ≡ true) (sym e) (member_head name [])

  -- a token with which the second kind doesn't begin is no name
  pub no_name : (x : T) → member fM (code x) ≡ false → member (name ∷ []) (code x) ≡ false
  no_name x e = elim (bool_cases (member (name ∷ []) (code x))) [
    | inr off ↦ off
    | inl m ↦ let both : member fM (code x) ≡ true = subst (λ (c : ℕ). member fM c ≡ true) (sym (is_name x m)) named in let off : true ≡ false = sym both ∙ e in absurd cc
  ]

  pub own_not_name : (x : T) → member (name ∷ []) (code x) ≡ true → member own (code x) ≡ false
  own_not_name x m = apart fM own (code x) own_apart (subst (λ (c : ℕ). member fM c ≡ true) (sym (is_name x m)) named)

  pub here_begins : (ts : List T) → here ts ≡ true → begins code (own ++ name ∷ []) ts ≡ true
  here_begins [] e = absurd cc
  here_begins (x ∷ r) e = elim (or_true (member own (code x)) (member (name ∷ []) (code x) && begins code (name ∷ []) r) e) [
    | inl o ↦ member_left own (name ∷ []) (code x) o
    | inr b ↦ member_right own (name ∷ []) (code x) (and_true (member (name ∷ []) (code x)) (begins code (name ∷ []) r) b).0
  ]

  -- where nothing begins, the next token decides alone
  pub quiet : (ts s : List T) → begins code fM ts ≡ false → here ts ≡ false → Alike ts s → (here s ≡ false) × (lost s ≡ false)
  quiet [] s off h like = absurd like
  quiet (x ∷ r) [] off h like = absurd like
  quiet (x ∷ r) (y ∷ s) off h like =
      let n : member (name ∷ []) (code x) ≡ false = no_name x off in
      let n1 : member (name ∷ []) (code y) ≡ false = subst (λ (t : T). member (name ∷ []) (code t) ≡ false) like n in
      let o : member own (code x) ≡ false = sym (kind_other T code own name after x r n) ∙ h in
      (kind_other T code own name after y s n1 ∙ subst (λ (t : T). member own (code t) ≡ false) like o, stray_other T code own name after y s n1)

  -- a token that may follow neither kind
  pub outside : (rest : List T) → begins code (own ++ name ∷ []) rest ≡ false → (here rest ≡ false) × (lost rest ≡ false)
  outside [] e = (refl, refl)
  outside (x ∷ r) e =
      let both = begins_none code own (name ∷ []) (x ∷ r) e in
      (kind_other T code own name after x r both.1 ∙ both.0, stray_other T code own name after x r both.1)

  pub here_name : (x y : T) (r : List T) → member (name ∷ []) (code x) ≡ true → member (name ∷ []) (code y) ≡ true → here (x ∷ y ∷ r) ≡ true
  here_name x y r m k = kind_name T code own name after x (y ∷ r) (own_not_name x m) m ∙ k

  -- a word of the second kind, before others
  pub second_kind : (c : Cell T) (w : List T) → member fM (code c.0) ≡ true → (code c.0 ≡ name → begins code after w ≡ true) → (member after name ≡ false) → (here (c.0 ∷ w) ≡ false) × (lost (c.0 ∷ w) ≡ false)
  second_kind c w m goes other =
      let o : member own (code c.0) ≡ false = apart fM own (code c.0) own_apart m in
      elim (bool_cases (member (name ∷ []) (code c.0))) [
        | inr n ↦ (kind_other T code own name after c.0 w n ∙ o, stray_other T code own name after c.0 w n)
        | inl n ↦
            let g = goes (is_name c.0 n) in
            (kind_name T code own name after c.0 w o n ∙ not_name w g, stray_name T code own name after c.0 w n ∙ ap not g)
      ]
    where
      not_name : (w : List T) → begins code after w ≡ true → begins code (name ∷ []) w ≡ false
      not_name [] g = absurd cc
      not_name (y ∷ w) g = elim (bool_cases (member (name ∷ []) (code y))) [
        | inr off ↦ off
        | inl k ↦ let bad : member after name ≡ true = subst (λ (x : ℕ). member after x ≡ true) (is_name y k) g in let off : true ≡ false = sym bad ∙ other in absurd cc
      ]
