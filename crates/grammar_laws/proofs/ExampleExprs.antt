-- The productions of the small grammar's expressions.
use Rattle.std.proofs.Common.{ℕ, ◌≤◌, Bool, true, false, List, [], ◌∷◌, ◌++◌, refl}
use Rattle.grammar_laws.specs.Languages.{Lang}
use Rattle.grammar_laws.specs.Readers.{Parser}
use Rattle.grammar_laws.specs.ExampleGrammar as g
use Rattle.grammar_laws.specs.ExampleGrammar.{Token, code, Tree}
use Rattle.grammar_laws.specs.ExampleReading as r
use Rattle.grammar_laws.specs.ExampleReading.{first_post, first_expr}
use Rattle.grammar_laws.proofs.Law.{Heights, Law}
use Rattle.grammar_laws.proofs.Leaf as leaf
use Rattle.grammar_laws.proofs.Bind.{bind}
use Rattle.grammar_laws.proofs.Choice.{choose}
use Rattle.grammar_laws.proofs.Many.{many}
use Rattle.grammar_laws.proofs.Settle.{grow}
use Rattle.grammar_laws.proofs.Leaf.{pure_shape, pure_least, word_shape}
use Rattle.grammar_laws.proofs.TwoKinds.{OpensWith}
use Rattle.grammar_laws.proofs.Seconds.{Next, next_none, next_word, next_choice, next_bind, Alone, word_alone, choice_alone_left, bind_alone, bind_opens_next}

abbrev pub clash_post : List ℕ
clash_post = 9 ∷ 7 ∷ []

abbrev pub clash_expr : List ℕ
clash_expr = 9 ∷ 7 ∷ 15 ∷ 14 ∷ []

-- a token of each kind
abbrev pub a_token : ℕ → Token
a_token c = record { kind = c; value = 0 }

module _ (Tall : Heights) (limit d : ℕ) (fits : (h : ℕ) → Tall.tall h → d ≤ limit) (oe ou : Bool) (pe pu : Parser Token Tree) (le lu : ℕ → Lang Token Tree)
    (E : Law code Tall limit d false oe first_expr clash_expr [] pe (λ h. le h d)) (U : Law code Tall limit d false ou first_expr clash_post [] pu (λ h. lu h d)) where
  pub word : (c : ℕ) → Law code Tall limit d false true (c ∷ []) [] [] (r.word c) (λ h. g.word c d)
  word c = leaf.word c d (a_token c) refl fits

  named : Law code Tall limit d false true (0 ∷ []) [] [] (r.named pe pu) (λ h. g.named (le h) (lu h) d)
  unfolding r.named g.named
  named = bind _ _ d (word 0) (λ t. leaf.pure _ d) refl refl

  number : Law code Tall limit d false true (1 ∷ []) [] [] (r.number pe pu) (λ h. g.number (le h) (lu h) d)
  unfolding r.number g.number
  number = bind _ _ d (word 1) (λ t. leaf.pure _ d) refl refl

  group : Law code Tall limit d false true (7 ∷ []) [] [] (r.group pe pu) (λ h. g.group (le h) (lu h) d)
  unfolding r.group g.group
  group = bind _ _ d (word 7) (λ t. bind _ _ d E (λ x. bind _ _ d (word 8) (λ u. leaf.pure _ d) refl refl) refl refl) refl refl

  pub prim : Law code Tall limit d false true first_post [] [] (r.prim pe pu) (λ h. g.prim (le h) (lu h) d)
  unfolding r.prim g.prim
  prim = choose (0 ∷ []) _ _ d named (choose (1 ∷ []) _ _ d number group refl refl refl) refl refl refl

  pub suffix : Law code Tall limit d false true clash_post [] [] (r.suffix pe pu) (λ h. g.suffix (le h) (lu h) d)
  unfolding r.suffix g.suffix
  suffix =
      choose (9 ∷ []) _ _ d
      (bind _ _ d (word 9) (λ t. bind _ _ d E (λ x. bind _ _ d (word 10) (λ u. leaf.pure _ d) refl refl) refl refl) refl refl)
      (bind _ _ d (word 7) (λ t. bind _ _ d
      (choose first_expr _ _ d
      (bind _ _ d E (λ x. bind _ _ d (many (12 ∷ []) _ d (bind _ _ d (word 12) (λ t. E) refl refl) refl refl refl refl) (λ more. leaf.pure _ d) refl refl) refl refl)
      (leaf.pure _ d) refl refl refl)
      (λ x. bind _ _ d (word 8) (λ u. leaf.pure _ d) refl refl) refl refl) refl refl)
      refl refl refl

  pub suffixed : (x : Tree) → Law code Tall limit d true true clash_post clash_post [] (r.suffixed pe pu x) (λ h. g.suffixed (le h) (lu h) x d)
  unfolding r.suffixed g.suffixed
  suffixed x = bind _ _ d (many clash_post _ d suffix refl refl refl refl) (λ more. leaf.pure _ d) refl refl

  pub post : Law code Tall limit d false true first_post clash_post [] (r.post pe pu) (λ h. g.post (le h) (lu h) d)
  unfolding r.post g.post
  post = bind _ _ d prim suffixed refl refl

  pub operand : Law code Tall limit d false true first_expr clash_post [] (r.operand pe pu) (λ h. g.operand (le h) (lu h) d)
  unfolding r.operand g.operand
  operand = grow clash_post [] refl refl (
      choose (16 ∷ []) _ _ d (bind _ _ d (word 16) (λ t. bind _ _ d U (λ x. leaf.pure _ d) refl refl) refl refl) post refl refl refl)

  sum : Law code Tall limit d false ou first_expr (clash_post ++ 15 ∷ []) [] (r.sum pe pu) (λ h. g.sum (le h) (lu h) d)
  unfolding r.sum g.sum
  sum = grow (clash_post ++ 15 ∷ []) [] refl refl (
      bind _ _ d U (λ x. bind _ _ d (many (15 ∷ []) _ d (bind _ _ d (word 15) (λ t. U) refl refl) refl refl refl refl) (λ more. leaf.pure _ d) refl refl) refl refl)

  pub compare : Law code Tall limit d false ou first_expr clash_expr [] (r.compare pe pu) (λ h. g.compare (le h) (lu h) d)
  unfolding r.compare g.compare
  compare = grow clash_expr [] refl refl (
      bind _ _ d sum (λ x. bind _ _ d (many (14 ∷ []) _ d (bind _ _ d (word 14) (λ t. sum) refl refl) refl refl refl refl) (λ more. leaf.pure _ d) refl refl) refl refl)

  -- ---- a name with which a postfix expression begins

  next_prim : (h : ℕ) → Next code 0 true [] (g.prim (le h) (lu h) d)
  unfolding g.prim g.named
  next_prim h =
      next_choice code 0 true false [] [] _ _ d (next_bind code 0 d true true [] (0 ∷ []) [] [] [] _ _ d (word_shape code 0 d) (λ t. pure_shape _ d) (next_word code 0 0 d))
      (next_choice code 0 false false [] [] _ _ d (next_none code 0 d false (1 ∷ []) [] _ (number.shape h) refl) (next_none code 0 d false (7 ∷ []) [] _ (group.shape h) refl))

  pub next_post : (h : ℕ) → Next code 0 true (9 ∷ 7 ∷ []) (g.post (le h) (lu h) d)
  unfolding g.post
  next_post h = next_bind code 0 d true true [] first_post [] (9 ∷ 7 ∷ []) [] _ _ d (prim.shape h) (λ x. (suffixed x).shape h) (next_prim h)

  alone_prim : (h : ℕ) → Alone code 0 (λ k. Unit {0}) (g.prim (le h) (lu h) d)
  unfolding g.prim g.named
  alone_prim h = choice_alone_left code 0 _ _ _ d (bind_alone code 0 _ _ _ d (word_alone code 0 d _ tt) (λ t. pure_least _ d))

  pub alone_post : (h : ℕ) → Tall.some h → Alone code 0 (λ k. Unit {0}) (g.post (le h) (lu h) d)
  unfolding g.post
  alone_post h some = bind_alone code 0 _ _ _ d (alone_prim h) (λ x. (suffixed x).least h some)

  pub opens_post : (h : ℕ) → Tall.some h → OpensWith code 0 (9 ∷ 7 ∷ []) (λ k. Unit {0}) (g.post (le h) (lu h) d)
  unfolding g.post
  opens_post h some = bind_opens_next code 0 d false first_post [] (9 ∷ 7 ∷ []) _ _ _ d (prim.shape h) (alone_prim h) (λ x. (suffixed x).opens h some refl) refl
