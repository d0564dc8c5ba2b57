-- The laws of coverage groups.
use Rattle.std.proofs.Common.{ℕ, ◌≤◌, Bool, true, false, [], ◌∷◌, refl}
use Rattle.grammar_laws.specs.Languages.{Lang}
use Rattle.grammar_laws.specs.Readers.{Parser}
use Rattle.vera_ast.specs.declared.codes.TheConstants as code
use Rattle.vera_ast.specs.declared.token.Token.{Token}
use Rattle.vera_ast.specs.declared.tree.expressions.Expr.{Expr}
use Rattle.vera_ast.specs.declared.tree.statements.Edge.{Edge}
use Rattle.parse_cursor.specs.Tokens.{kind_of}
use Rattle.parse_exprs.specs.Sets.{first_expr}
use Rattle.parse_cursor.specs.Lists as names
use Rattle.parse_cursor.specs.ListReading as lists
use Rattle.vera_parse.specs.Coverage as g
use Rattle.vera_parse.specs.CoverageReading as r
use Rattle.grammar_laws.proofs.Law.{Heights, Law}
use Rattle.grammar_laws.proofs.Leaf as leaf
use Rattle.grammar_laws.proofs.Bind.{bind}
use Rattle.grammar_laws.proofs.Choice.{choose}
use Rattle.grammar_laws.proofs.Many.{many}
use Rattle.grammar_laws.proofs.Settle.{grow}
use Rattle.parse_exprs.proofs.ExpressionLaws.{clash_expr}
use Rattle.parse_cursor.proofs.TokenLaws as token
use Rattle.parse_cursor.proofs.ListLaws as list

module _ {Tall : Heights} {limit : ℕ} (d : ℕ) (fits : (h : ℕ) → Tall.tall h → d ≤ limit) where
  state_word : Law kind_of Tall limit d false true (code.STATE ∷ code.BAD_STATE ∷ []) [] [] r.state_word (λ h. g.state_word d)
  unfolding r.state_word g.state_word
  state_word = token.sign d fits _ _ refl refl

  trans_word : Law kind_of Tall limit d false true (code.TRANS ∷ code.BAD_TRANS ∷ []) [] [] r.trans_word (λ h. g.trans_word d)
  unfolding r.trans_word g.trans_word
  trans_word = token.sign d fits _ _ refl refl

  sync_event : Law kind_of Tall limit d false true (code.SYNC ∷ []) [] [] r.sync_event (λ h. g.sync_event d)
  unfolding r.sync_event g.sync_event
  sync_event =
      bind _ _ d (token.word d fits code.SYNC refl) (λ line. bind _ _ d (token.word d fits code.LEFT_PARENTHESIS refl) (λ t. bind _ _ d (token.word d fits code.ANY_MODE refl) (λ t1.
      bind _ _ d (token.word d fits code.COMMA refl) (λ t2. bind _ _ d (list.title d fits) (λ name. bind _ _ d (token.word d fits code.RIGHT_PARENTHESIS refl) (λ t3. leaf.pure _ d)
      refl refl) refl refl) refl refl) refl refl) refl refl) refl refl

  module _ (oe : Bool) (pe : Parser Token Expr) (le : ℕ → Lang Token Expr) (E : Law kind_of Tall limit d false oe first_expr clash_expr [] pe (λ h. le h d)) where
    val : Law kind_of Tall limit d false oe first_expr (code.COLON ∷ clash_expr) [] (r.val pe) (λ h. g.val (le h) d)
    unfolding r.val g.val
    val = grow (code.COLON ∷ clash_expr) [] refl refl (
        bind _ _ d E (λ first. bind _ _ d
        (choose (code.COLON ∷ []) _ _ d (bind _ _ d (list.after d fits code.COLON le refl E) (λ x. leaf.pure _ d) refl refl) (leaf.pure _ d) refl refl refl)
        (λ last. leaf.pure _ d) refl refl) refl refl)

    state_bin : Law kind_of Tall limit d false true (code.STATE ∷ code.BAD_STATE ∷ []) [] [] (r.state_bin pe) (λ h. g.state_bin (le h) d)
    unfolding r.state_bin g.state_bin
    state_bin =
        bind _ _ d state_word (λ kind. bind _ _ d (list.title d fits) (λ name. bind _ _ d (token.word d fits code.LEFT_PARENTHESIS refl) (λ t.
        bind _ _ d (list.listed d fits code.COMMA _ refl val refl refl) (λ values.
        bind _ _ d (token.word d fits code.RIGHT_PARENTHESIS refl) (λ t1. bind _ _ d (token.word d fits code.SEMICOLON refl) (λ t2. leaf.pure _ d)
        refl refl) refl refl) refl refl) refl refl) refl refl) refl refl

    steps : Law kind_of Tall limit d false oe first_expr (code.ARROW ∷ code.COLON ∷ clash_expr) [] (r.steps pe) (λ h. g.steps (le h) d)
    unfolding r.steps g.steps
    steps = grow (code.ARROW ∷ code.COLON ∷ clash_expr) [] refl refl (
        bind _ _ d val (λ first. bind _ _ d (token.word d fits code.ARROW refl) (λ t.
        bind _ _ d (list.listed d fits code.ARROW _ refl val refl refl) (λ more. leaf.pure _ d) refl refl) refl refl) refl refl)

    trans_bin : Law kind_of Tall limit d false true (code.TRANS ∷ code.BAD_TRANS ∷ []) [] [] (r.trans_bin pe) (λ h. g.trans_bin (le h) d)
    unfolding r.trans_bin g.trans_bin
    trans_bin =
        bind _ _ d trans_word (λ kind. bind _ _ d (list.title d fits) (λ name. bind _ _ d (token.word d fits code.LEFT_PARENTHESIS refl) (λ t.
        bind _ _ d steps (λ values.
        bind _ _ d (token.word d fits code.RIGHT_PARENTHESIS refl) (λ t1. bind _ _ d (token.word d fits code.SEMICOLON refl) (λ t2. leaf.pure _ d)
        refl refl) refl refl) refl refl) refl refl) refl refl) refl refl

    bin : Law kind_of Tall limit d false true (code.STATE ∷ code.BAD_STATE ∷ code.TRANS ∷ code.BAD_TRANS ∷ []) [] [] (r.bin pe) (λ h. g.bin (le h) d)
    unfolding r.bin g.bin
    bin = choose (code.STATE ∷ code.BAD_STATE ∷ []) _ _ d state_bin trans_bin refl refl refl

    bins : Law kind_of Tall limit d false true (code.STATE ∷ code.BAD_STATE ∷ code.TRANS ∷ code.BAD_TRANS ∷ []) (code.STATE ∷ code.BAD_STATE ∷ code.TRANS ∷ code.BAD_TRANS ∷ []) []
        (lists.some (code.STATE ∷ code.BAD_STATE ∷ code.TRANS ∷ code.BAD_TRANS ∷ []) (r.bin pe)) (λ h. names.some (g.bin (le h)) d)
    unfolding lists.some names.some
    bins = bind _ _ d bin (λ first. bind _ _ d (many (code.STATE ∷ code.BAD_STATE ∷ code.TRANS ∷ code.BAD_TRANS ∷ []) _ d bin refl refl refl refl) (λ more. leaf.pure _ d) refl refl) refl refl

    samp : Law kind_of Tall limit d false true (code.SAMPLE ∷ []) [] [] (r.samp pe) (λ h. g.samp (le h) d)
    unfolding r.samp g.samp
    samp =
        bind _ _ d (token.word d fits code.SAMPLE refl) (λ line. bind _ _ d (list.title d fits) (λ name. bind _ _ d
        (choose (code.DOT ∷ []) _ _ d (bind _ _ d (list.after d fits code.DOT (λ h. names.title) refl (list.title d fits)) (λ x. leaf.pure _ d) refl refl) (leaf.pure _ d) refl refl refl)
        (λ signal. bind _ _ d (token.word d fits code.LEFT_BRACE refl) (λ t. bind _ _ d bins (λ all. bind _ _ d (token.word d fits code.RIGHT_BRACE refl) (λ t1. leaf.pure _ d)
        refl refl) refl refl) refl refl) refl refl) refl refl) refl refl

    samps : Law kind_of Tall limit d false true (code.SAMPLE ∷ []) (code.SAMPLE ∷ []) [] (lists.some (code.SAMPLE ∷ []) (r.samp pe)) (λ h. names.some (g.samp (le h)) d)
    unfolding lists.some names.some
    samps = bind _ _ d samp (λ first. bind _ _ d (many (code.SAMPLE ∷ []) _ d samp refl refl refl refl) (λ more. leaf.pure _ d) refl refl) refl refl

    module _ (pg : Parser Token Edge) (lg : ℕ → Lang Token Edge) (G : Law kind_of Tall limit d false true (code.AT ∷ []) [] [] pg (λ h. lg h d)) where
      event : Law kind_of Tall limit d false true (code.AT ∷ code.SYNC ∷ []) [] [] (r.event pe pg) (λ h. g.event (le h) (lg h) d)
      unfolding r.event g.event
      event = choose (code.AT ∷ []) _ _ d (bind _ _ d G (λ x. leaf.pure _ d) refl refl) sync_event refl refl refl

      pub group : Law kind_of Tall limit d false true (code.COVERAGE_GROUP ∷ []) [] [] (r.group pe pg) (λ h. g.group (le h) (lg h) d)
      unfolding r.group g.group
      group =
          bind _ _ d (token.word d fits code.COVERAGE_GROUP refl) (λ line. bind _ _ d (list.title d fits) (λ name. bind _ _ d (token.word d fits code.LEFT_BRACE refl) (λ t.
          bind _ _ d (token.word d fits code.SAMPLE_EVENT refl) (λ t1. bind _ _ d (token.word d fits code.EQUALS refl) (λ t2. bind _ _ d event (λ event.
          bind _ _ d (token.word d fits code.SEMICOLON refl) (λ t3. bind _ _ d samps (λ samples. bind _ _ d (token.word d fits code.RIGHT_BRACE refl) (λ t4. leaf.pure _ d)
          refl refl) refl refl) refl refl) refl refl) refl refl) refl refl) refl refl) refl refl) refl refl
