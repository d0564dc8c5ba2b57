-- The laws of what items share: names, words that may stand or not, and lists.
use Rattle.std.proofs.Common.{◌≡◌, ℕ, ◌≤◌, ◌++◌, Bool, true, false, List, [], ◌∷◌, refl}
use Rattle.grammar_laws.specs.Languages.{Lang}
use Rattle.grammar_laws.specs.Readers.{Parser}
use Rattle.vera_ast.specs.declared.codes.TheConstants as code
use Rattle.vera_ast.specs.declared.token.Token.{Token}
use Rattle.parse_cursor.specs.Tokens.{kind_of}
use Rattle.parse_cursor.specs.Lists as g
use Rattle.parse_cursor.specs.ListReading as r
use Rattle.parse_cursor.proofs.Samples.{is_code}
use Rattle.parse_cursor.proofs.TokenLaws as token
use Rattle.grammar_laws.proofs.Law.{Heights, Law}
use Rattle.grammar_laws.proofs.Leaf as leaf
use Rattle.grammar_laws.proofs.Bind.{bind}
use Rattle.grammar_laws.proofs.Choice.{choose}
use Rattle.grammar_laws.proofs.Many.{many}
use Rattle.grammar_laws.proofs.Sets.{disjoint}

disjoint_none : (f : List ℕ) → disjoint f [] ≡ true
disjoint_none [] = refl
disjoint_none (x ∷ f) = disjoint_none f

module _ {Tall : Heights} {limit : ℕ} (d : ℕ) (fits : (h : ℕ) → Tall.tall h → d ≤ limit) where
  pub title : Law kind_of Tall limit d false true (code.NAME ∷ []) [] [] r.title (λ h. g.title d)
  unfolding r.title g.title
  title = bind _ _ d (token.name d fits) (λ t. leaf.pure _ d) refl refl

  pub flag : (c : ℕ) → is_code c ≡ true → Law kind_of Tall limit d true true (c ∷ []) (c ∷ []) [] (r.flag c) (λ h. g.flag c d)
  unfolding r.flag g.flag
  flag c e = choose (c ∷ []) _ _ d (bind _ _ d (token.word d fits c e) (λ t. leaf.pure _ d) refl refl) (leaf.pure _ d) refl refl refl

  pub after : {A : Type 0} (c : ℕ) {o : Bool} {f c1 g1 : List ℕ} {p : Parser Token A} (l : ℕ → Lang Token A) → is_code c ≡ true → Law kind_of Tall limit d false o f c1 g1 p (λ h. l h d)
      → Law kind_of Tall limit d false true (c ∷ []) c1 g1 (r.after c p) (λ h. g.after c (l h) d)
  unfolding r.after g.after
  after c {o} {f} {c1} l e P = bind _ _ d (token.word d fits c e) (λ t. P) (disjoint_none f) (disjoint_none f)

  pub listed : {A : Type 0} (c : ℕ) {o : Bool} {f c1 g1 : List ℕ} {p : Parser Token A} (l : ℕ → Lang Token A) → is_code c ≡ true → Law kind_of Tall limit d false o f c1 g1 p (λ h. l h d)
      → disjoint (c ∷ []) c1 ≡ true → disjoint (c ∷ []) g1 ≡ true
      → Law kind_of Tall limit d false o f (c1 ++ ((c1 ++ c ∷ []) ++ [])) (g1 ++ (g1 ++ [])) (r.listed c p) (λ h. g.listed c (l h) d)
  unfolding r.listed g.listed
  listed c l e P free goes = bind _ _ d P (λ first. bind _ _ d (many (c ∷ []) _ d (after c l e P) refl refl free goes) (λ more. leaf.pure _ d) refl refl) free refl
