-- A token that is too deep, by the least of its depths in files that begin with all tokens up to the syntax place.
use Rattle.std.proofs.Common.{◌≡◌, ℕ, suc, ◌+◌, ◌<◌, ◌≤◌, List, [], ◌∷◌, ◌++◌, length, refl, sym, ap, subst, ◌∙◌, append_assoc, arith, inl, inr}
use Rattle.std.specs.Prelude.{◌⊎◌}
use Rattle.std.proofs.lemmas.List.{length-append}
use Rattle.grammar_laws.specs.Words.{Cell, bare, Within}
use Rattle.grammar_laws.specs.Answers.{Begins, EndsAt, IsSyntaxPlace, IsTooDeep, NoFurther, Reach, LeastIsDeep}
use Rattle.grammar_laws.proofs.Sets.{bare-append}

-- of two fronts of one list one goes on with the other
pub prefixes : {T : Type 0} (p1 r1 p2 r2 : List T) → p1 ++ r1 ≡ p2 ++ r2 → ((s : List T) × (p2 ≡ p1 ++ s) × (r1 ≡ s ++ r2)) ⊎ ((t : T) × (s : List T) × (r : List T) × (p1 ≡ p2 ++ t ∷ s) × (r2 ≡ t ∷ r))
prefixes [] r1 p2 r2 e = inl (p2, refl, e)
prefixes (x ∷ p1) r1 [] r2 e = inr (x, p1, p1 ++ r1, refl, sym e)
prefixes {T} (x ∷ p1) r1 (y ∷ p2) r2 e =
    let head : x ≡ y = cc in
    let tail : p1 ++ r1 ≡ p2 ++ r2 = cc in
    elim (prefixes p1 r1 p2 r2 tail) [
      | inl z ↦ inl (z.0, rw (sym head) (ap (λ (l : List T). x ∷ l) z.1), z.2)
      | inr z ↦ inr (z.0, z.1, z.2, rw head (ap (λ (l : List T). y ∷ l) z.3), z.4)
    ]

module _ (T A : Type 0) (IsFile : List (Cell T) → A → Type 0) where
  -- a front with which some file begins is no longer than the reach
  within_reach : (front more reach rest : List T) → front ++ more ≡ reach ++ rest → Begins IsFile front → NoFurther IsFile reach rest → (s : List T) × (reach ≡ front ++ s) × (more ≡ s ++ rest)
  within_reach front more reach rest e begins stuck = elim (prefixes front more reach rest e) [
    | inl z ↦ z
    | inr z ↦
        let no : NoFurther IsFile reach (z.0 ∷ z.2) = subst (NoFurther IsFile reach) z.4 stuck in
        absurd (no (record {
          word = begins.word;
          more = z.1 ++ begins.more;
          tokens = begins.tokens ∙ ap (λ (f : List T). f ++ begins.more) z.3 ∙ append_assoc reach (z.0 ∷ z.1) begins.more ∙ sym (append_assoc reach (z.0 ∷ []) (z.1 ++ begins.more));
          value = begins.value;
          is_file = begins.is_file;
        }))
  ]

  pub least_is_deep : (limit : ℕ) (ts reach : List T) (left : ℕ) → IsTooDeep IsFile limit ts left → Reach IsFile ts reach → LeastIsDeep IsFile limit ts reach left
  least_is_deep limit ts reach left x r =
      let front : List T = x.front ++ x.token ∷ x.ahead in
      let e : front ++ x.rest ≡ reach ++ r.rest = append_assoc x.front (x.token ∷ x.ahead) x.rest ∙ sym x.tokens ∙ r.tokens in
      let z = within_reach front x.rest reach r.rest e x.begins r.stuck in
      record {
        front = x.front;
        token = x.token;
        between = x.ahead ++ z.0;
        rest = r.rest;
        inside = z.1 ∙ append_assoc x.front (x.token ∷ x.ahead) z.0;
        tokens = r.tokens;
        is_left = x.is_left ∙ ap (λ (l : List T). suc (length l)) (ap (λ (l : List T). x.ahead ++ l) z.2 ∙ sym (append_assoc x.ahead z.0 r.rest));
        deep = λ w a more file same. x.deep w a (z.0 ++ more) file (same ∙ ap (λ (l : List T). l ++ more) z.1 ∙ append_assoc front z.0 more);
      }

  -- ---- the syntax place and a token that is too deep exclude each other

  -- a cell that stands within the first so many
  cell_within : (limit : ℕ) (word more before : List (Cell T)) (c : Cell T) (behind : List (Cell T)) → word ++ more ≡ before ++ c ∷ behind → length before < length word → Within limit word → c.1 ≤ limit
  cell_within limit [] more before c behind e lt inside = absurd (omega arith)
  cell_within limit (k ∷ word) more [] c behind e lt inside = let same : k ≡ c = cc in subst (λ (c : Cell T). c.1 ≤ limit) same inside.0
  cell_within limit (k ∷ word) more (b ∷ before) c behind e lt inside = let tail : word ++ more ≡ before ++ c ∷ behind = cc in cell_within limit word more before c behind tail (omega arith) inside.1

  length_bare : (w : List (Cell T)) → length (bare w) ≡ length w
  length_bare [] = refl
  length_bare (c ∷ w) = ap suc (length_bare w)

  no_further : (front rest : List T) → EndsAt IsFile front rest → NoFurther IsFile front rest
  no_further front [] x = tt
  no_further front (t ∷ rest) x = x

  pub one_refusal : (limit : ℕ) (ts : List T) (place left : ℕ) → IsSyntaxPlace IsFile limit ts place → IsTooDeep IsFile limit ts left → ⊥
  one_refusal limit ts place left p x =
      let front : List T = x.front ++ x.token ∷ x.ahead in
      let e : front ++ x.rest ≡ bare p.word ++ p.rest = append_assoc x.front (x.token ∷ x.ahead) x.rest ∙ sym x.tokens ∙ p.tokens in
      let z = within_reach front x.rest (bare p.word) p.rest e x.begins (no_further (bare p.word) p.rest p.stuck) in
      let w : List (Cell T) = p.word ++ p.begins.more in
      let read : bare w ≡ front ++ (z.0 ++ bare p.begins.more) = bare-append p.word p.begins.more ∙ ap (λ (l : List T). l ++ bare p.begins.more) z.1 ∙ append_assoc front z.0 (bare p.begins.more) in
      let d = x.deep w p.begins.value (z.0 ++ bare p.begins.more) p.begins.is_file read in
      let len1 : length p.word ≡ length front + length z.0 = sym (length_bare p.word) ∙ ap length z.1 ∙ length-append front z.0 in
      let len2 : length front ≡ length x.front + suc (length x.ahead) = length-append x.front (x.token ∷ x.ahead) in
      let len3 : length d.before ≡ length x.front = sym (length_bare d.before) ∙ ap length d.same in
      let below : d.depth ≤ limit = cell_within limit p.word p.begins.more d.before (x.token, d.depth) d.behind d.parts (omega (arith, len1, len2, len3)) p.within in
      let over : limit < d.depth = d.deep in
      omega arith
