-- Tokens have one answer: a tree, or one place at which they are refused.
use Rattle.std.proofs.Common.{◌≡◌, ◌⊎◌, ℕ, suc, ◌+◌, ◌<◌, ◌≤◌, List, [], ◌∷◌, ◌++◌, length, refl, sym, ap, subst, ◌∙◌, append_assoc, arith, inl, inr}
use Rattle.std.proofs.lemmas.Bool.{cases_lt}
use Rattle.std.proofs.lemmas.List.{length-append, append-nil}
use Rattle.grammar_laws.specs.Words.{Cell, bare, Within}
use Rattle.grammar_laws.specs.Answers.{Parses, Begins, BeginsSo, EndsAt, FirstDeep, IsSyntaxPlace, IsTooDeep, NoFurther}
use Rattle.grammar_laws.proofs.Sets.{bare-append}
use Rattle.grammar_laws.proofs.Reached.{prefixes}

module _ (T A : Type 0) (IsFile : List (Cell T) → A → Type 0) where
  length_bare : (w : List (Cell T)) → length (bare w) ≡ length w
  length_bare [] = refl
  length_bare (c ∷ w) = ap suc (length_bare w)

  -- a front with which some file begins leaves no fewer tokens than a place past which none goes
  not_past : (front more reach rest : List T) → front ++ more ≡ reach ++ rest → Begins IsFile front → NoFurther IsFile reach rest → length rest ≤ length more
  not_past front more reach rest e begins stuck = elim (prefixes front more reach rest e) [
    | inl z ↦ let l : length more ≡ length z.0 + length rest = ap length z.2 ∙ length-append z.0 rest in omega (arith, l)
    | inr z ↦
        let no : NoFurther IsFile reach (z.0 ∷ z.2) = subst (NoFurther IsFile reach) z.4 stuck in
        absurd (no (record {
          word = begins.word;
          more = z.1 ++ begins.more;
          tokens = begins.tokens ∙ ap (λ (f : List T). f ++ begins.more) z.3 ∙ append_assoc reach (z.0 ∷ z.1) begins.more ∙ sym (append_assoc reach (z.0 ∷ []) (z.1 ++ begins.more));
          value = begins.value;
          is_file = begins.is_file;
        }))
  ]

  no_further : (front rest : List T) → EndsAt IsFile front rest → NoFurther IsFile front rest
  no_further front [] x = tt
  no_further front (t ∷ rest) x = x

  begins_bare : (w : List (Cell T)) → BeginsSo IsFile w → Begins IsFile (bare w)
  begins_bare w b = record { word = w ++ b.more; more = bare b.more; tokens = bare-append w b.more; value = b.value; is_file = b.is_file }

  pub one_place : (limit : ℕ) (ts : List T) (a b : ℕ) → IsSyntaxPlace IsFile limit ts a → IsSyntaxPlace IsFile limit ts b → a ≡ b
  one_place limit ts a b p q =
      let one = not_past (bare p.word) p.rest (bare q.word) q.rest (sym p.tokens ∙ q.tokens) (begins_bare p.word p.begins) (no_further (bare q.word) q.rest q.stuck) in
      let two = not_past (bare q.word) q.rest (bare p.word) p.rest (sym q.tokens ∙ p.tokens) (begins_bare q.word q.begins) (no_further (bare p.word) p.rest p.stuck) in
      let la : a ≡ length p.rest = p.is_left in
      let lb : b ≡ length q.rest = q.is_left in
      omega (arith, one, two, la, lb)

  -- a cell that stands within the first so many
  cell_within : (limit : ℕ) (word more before : List (Cell T)) (c : Cell T) (behind : List (Cell T)) → word ++ more ≡ before ++ c ∷ behind → length before < length word → Within limit word → c.1 ≤ limit
  cell_within limit [] more before c behind e lt inside = absurd (omega arith)
  cell_within limit (k ∷ word) more [] c behind e lt inside = let same : k ≡ c = cc in subst (λ (c : Cell T). c.1 ≤ limit) same inside.0
  cell_within limit (k ∷ word) more (b ∷ before) c behind e lt inside = let tail : word ++ more ≡ before ++ c ∷ behind = cc in cell_within limit word more before c behind tail (omega arith) inside.1

  -- of one file, the first token that is too deep is no earlier than another such
  no_earlier : (limit : ℕ) (f1 f2 : List T) (t1 t2 : T) (w : List (Cell T)) → FirstDeep IsFile limit f1 t1 w → FirstDeep IsFile limit f2 t2 w → length f2 ≤ length f1
  no_earlier limit f1 f2 t1 t2 w x y = go (cases_lt (length x.before) (length y.before))
    where
      go : (length x.before < length y.before) ⊎ (length y.before ≤ length x.before) → length f2 ≤ length f1
      go (inl lt) =
          let below : x.depth ≤ limit = cell_within limit y.before ((t2, y.depth) ∷ y.behind) x.before (t1, x.depth) x.behind (sym y.parts ∙ x.parts) lt y.shallow in
          let over : limit < x.depth = x.deep in
          absurd (omega (arith, below, over))
      go (inr le) =
          let l1 : length x.before ≡ length f1 = sym (length_bare x.before) ∙ ap length x.same in
          let l2 : length y.before ≡ length f2 = sym (length_bare y.before) ∙ ap length y.same in
          omega (arith, le, l1, l2)

  abbrev reach_of : {limit : ℕ} {ts : List T} {left : ℕ} → IsTooDeep IsFile limit ts left → List T
  reach_of x = x.front ++ x.token ∷ x.ahead

  -- a file that begins with all tokens on which both rest
  record Both (f g : List T) : Type 0 where
    word : List (Cell T)
    value : A
    more_f : List T
    more_g : List T
    is_file : IsFile word value
    begins_f : bare word ≡ f ++ more_f
    begins_g : bare word ≡ g ++ more_g

  both_of : (f rf g rg : List T) → f ++ rf ≡ g ++ rg → Begins IsFile f → Begins IsFile g → Both f g
  both_of f rf g rg e bf bg = elim (prefixes f rf g rg e) [
    | inl z ↦ record { word = bg.word; value = bg.value; more_f = z.0 ++ bg.more; more_g = bg.more; is_file = bg.is_file; begins_f = bg.tokens ∙ ap (λ (l : List T). l ++ bg.more) z.1 ∙ append_assoc f z.0 bg.more; begins_g = bg.tokens }
    | inr z ↦ record {
      word = bf.word;
      value = bf.value;
      more_f = bf.more;
      more_g = (z.0 ∷ z.1) ++ bf.more;
      is_file = bf.is_file;
      begins_f = bf.tokens;
      begins_g = bf.tokens ∙ ap (λ (l : List T). l ++ bf.more) z.3 ∙ append_assoc g (z.0 ∷ z.1) bf.more;
    }
  ]

  left_of : (ts front : List T) (t : T) (more : List T) (left : ℕ) → ts ≡ front ++ t ∷ more → left ≡ suc (length more) → length ts ≡ length front + left
  left_of ts front t more left e l = let n : length ts ≡ length front + suc (length more) = ap length e ∙ length-append front (t ∷ more) in omega (arith, n, l)

  pub one_depth : (limit : ℕ) (ts : List T) (a b : ℕ) → IsTooDeep IsFile limit ts a → IsTooDeep IsFile limit ts b → a ≡ b
  one_depth limit ts a b x y =
      let e : reach_of x ++ x.rest ≡ reach_of y ++ y.rest = append_assoc x.front (x.token ∷ x.ahead) x.rest ∙ sym x.tokens ∙ y.tokens ∙ sym (append_assoc y.front (y.token ∷ y.ahead) y.rest) in
      let w = both_of (reach_of x) x.rest (reach_of y) y.rest e x.begins y.begins in
      let dx = x.deep w.word w.value w.more_f w.is_file w.begins_f in
      let dy = y.deep w.word w.value w.more_g w.is_file w.begins_g in
      let one = no_earlier limit x.front y.front x.token y.token w.word dx dy in
      let two = no_earlier limit y.front x.front y.token x.token w.word dy dx in
      let la = left_of ts x.front x.token (x.ahead ++ x.rest) a x.tokens x.is_left in
      let lb = left_of ts y.front y.token (y.ahead ++ y.rest) b y.tokens y.is_left in
      omega (arith, one, two, la, lb)

  -- ---- tokens with a tree are not refused

  pub no_place : (limit : ℕ) (ts : List T) (a : A) (left : ℕ) → Parses IsFile limit ts a → IsSyntaxPlace IsFile limit ts left → ⊥
  no_place limit ts a left x p = go p.rest p.tokens p.stuck
    where
      go : (rest : List T) → ts ≡ bare p.word ++ rest → EndsAt IsFile (bare p.word) rest → ⊥
      go [] e stuck = stuck x.word a x.is_file (sym x.tokens ∙ e ∙ append-nil (bare p.word))
      go (t ∷ rest) e stuck = stuck (record { word = x.word; more = rest; tokens = sym x.tokens ∙ e ∙ sym (append_assoc (bare p.word) (t ∷ []) rest); value = a; is_file = x.is_file })

  pub not_deep : (limit : ℕ) (ts : List T) (a : A) (left : ℕ) → Parses IsFile limit ts a → IsTooDeep IsFile limit ts left → ⊥
  not_deep limit ts a left x y =
      let d = y.deep x.word a y.rest x.is_file (sym x.tokens ∙ y.tokens ∙ sym (append_assoc y.front (y.token ∷ y.ahead) y.rest)) in
      let c : Cell T = (y.token, d.depth) in
      let len : length x.word ≡ length d.before + suc (length d.behind) = ap length d.parts ∙ length-append d.before (c ∷ d.behind) in
      let below : d.depth ≤ limit = cell_within limit x.word [] d.before c d.behind (append-nil x.word ∙ d.parts) (omega (arith, len)) x.within in
      let over : limit < d.depth = d.deep in
      omega (arith, below, over)
