-- A postfix expression that begins with a name: what comes second, and which words there are.
use Rattle.std.proofs.Common.{ℕ, ◌≤◌, Bool, true, false, List, [], ◌∷◌, ◌++◌, refl}
use Rattle.vera_ast.specs.declared.codes.TheConstants as code
use Rattle.vera_ast.specs.declared.token.Token.{Token}
use Rattle.vera_ast.specs.declared.tree.expressions.Expr.{Expr}
use Rattle.grammar_laws.specs.Languages.{Lang}
use Rattle.grammar_laws.specs.Readers.{Parser}
use Rattle.parse_cursor.specs.Tokens as t
use Rattle.parse_cursor.specs.Tokens.{kind_of}
use Rattle.parse_exprs.specs.Expressions as g
use Rattle.parse_exprs.specs.Sets.{name_words, call_words, mode_words, first_post, first_expr, first_suffix}
use Rattle.parse_cursor.proofs.TokenLaws as token
use Rattle.parse_exprs.proofs.ExpressionLaws as laws
use Rattle.parse_exprs.proofs.ExpressionLaws.{clash_post, clash_expr}
use Rattle.grammar_laws.proofs.Law.{Heights, Law}
use Rattle.grammar_laws.proofs.Leaf.{pure_shape, pure_least}
use Rattle.grammar_laws.proofs.TwoKinds.{OpensWith}
use Rattle.grammar_laws.proofs.Seconds.{Next, next_none, next_word, next_choice, next_bind, Alone, word_alone, choice_alone_left, choice_alone_right, bind_alone, bind_opens_next}

-- one of these words alone
next_one_of : (c : ℕ) (cs : List ℕ) (d : ℕ) → Next kind_of code.NAME true [] (t.one_of (c ∷ cs) d)
unfolding t.one_of
next_one_of c [] d = next_word kind_of code.NAME c d
next_one_of c (k ∷ cs) d = next_choice kind_of code.NAME true true [] [] _ _ d (next_word kind_of code.NAME c d) (next_one_of k cs d)

alone_name : (cs : List ℕ) (d : ℕ) → Alone kind_of code.NAME (λ k. Unit {0}) (t.one_of (code.NAME ∷ cs) d)
unfolding t.one_of
alone_name [] d = word_alone kind_of code.NAME d _ tt
alone_name (k ∷ cs) d = choice_alone_left kind_of code.NAME _ _ _ d (word_alone kind_of code.NAME d _ tt)

module _ (Tall : Heights) (limit d : ℕ) (fits : (h : ℕ) → Tall.tall h → d ≤ limit) (oe ou : Bool) (pe pu : Parser Token Expr) (le lu : ℕ → Lang Token Expr)
    (E : Law kind_of Tall limit d false oe first_expr clash_expr [] pe (λ h. le h d)) (U : Law kind_of Tall limit d false ou first_expr clash_post [] pu (λ h. lu h d)) where
  next_named : (h : ℕ) → Next kind_of code.NAME true [] (g.named (le h) (lu h) d)
  unfolding g.named t.name_of
  next_named h =
      next_bind kind_of code.NAME d true true [] name_words [] [] [] _ _ d ((token.name_of {Tall = Tall} {limit = limit} d fits code.NAME (call_words ++ mode_words) refl refl).shape h) (λ t. pure_shape _ d)
      (next_bind kind_of code.NAME d true true [] name_words [] [] [] _ _ d ((token.one_of {Tall = Tall} {limit = limit} d fits code.NAME (call_words ++ mode_words) refl refl).shape h) (λ t. pure_shape _ d) (next_one_of code.NAME (call_words ++ mode_words) d))

  next_start : (h : ℕ) → Next kind_of code.NAME true [] (g.start (le h) (lu h) d)
  unfolding g.start
  next_start h =
      next_choice kind_of code.NAME false true [] [] _ _ d (next_none kind_of code.NAME d false (code.NUMBER ∷ []) [] _ ((laws.literal Tall limit d fits oe ou pe pu le lu E U).shape h) refl)
      (next_choice kind_of code.NAME false true [] [] _ _ d (next_none kind_of code.NAME d false (code.STRING_LITERAL ∷ []) [] _ ((laws.text Tall limit d fits oe ou pe pu le lu E U).shape h) refl)
      (next_choice kind_of code.NAME true false [] [] _ _ d (next_named h) (next_none kind_of code.NAME d false (code.NULL ∷ code.THIS ∷ code.SUPER ∷ code.NEW ∷ code.LEFT_PARENTHESIS ∷ []) [] _ ((laws.others Tall limit d fits oe ou pe pu le lu E U).shape h) refl)))

  pub next_post : (h : ℕ) → Next kind_of code.NAME true first_suffix (g.post (le h) (lu h) d)
  unfolding g.post
  next_post h = next_bind kind_of code.NAME d true true [] first_post [] first_suffix [] _ _ d ((laws.start Tall limit d fits oe ou pe pu le lu E U).shape h) (λ x. (laws.suffixed Tall limit d fits oe ou pe pu le lu E U x).shape h) (next_start h)

  alone_start : (h : ℕ) → Alone kind_of code.NAME (λ k. Unit {0}) (g.start (le h) (lu h) d)
  unfolding g.start g.named t.name_of
  alone_start h =
      choice_alone_right kind_of code.NAME _ _ _ d (choice_alone_right kind_of code.NAME _ _ _ d (choice_alone_left kind_of code.NAME _ _ _ d
      (bind_alone kind_of code.NAME _ _ _ d (bind_alone kind_of code.NAME _ _ _ d (alone_name (call_words ++ mode_words) d) (λ t. pure_least _ d)) (λ t. pure_least _ d))))

  pub alone_post : (h : ℕ) → Tall.some h → Alone kind_of code.NAME (λ k. Unit {0}) (g.post (le h) (lu h) d)
  unfolding g.post
  alone_post h some = bind_alone kind_of code.NAME _ _ _ d (alone_start h) (λ x. (laws.suffixed Tall limit d fits oe ou pe pu le lu E U x).least h some)

  pub opens_post : (h : ℕ) → Tall.some h → OpensWith kind_of code.NAME first_suffix (λ k. Unit {0}) (g.post (le h) (lu h) d)
  unfolding g.post
  opens_post h some =
      bind_opens_next kind_of code.NAME d false first_post [] first_suffix _ _ _ d ((laws.start Tall limit d fits oe ou pe pu le lu E U).shape h) (alone_start h)
      (λ x. (laws.suffixed Tall limit d fits oe ou pe pu le lu E U x).opens h some refl) refl
