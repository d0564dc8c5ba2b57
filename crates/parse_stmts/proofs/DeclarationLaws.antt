-- The laws of types, declarations and parameters.
use Rattle.std.proofs.Common.{ℕ, ◌≤◌, Bool, true, false, [], ◌∷◌, refl}
use Rattle.vera_ast.specs.declared.codes.TheConstants as code
use Rattle.vera_ast.specs.declared.token.Token.{Token}
use Rattle.vera_ast.specs.declared.tree.expressions.Expr.{Expr}
use Rattle.vera_ast.specs.declared.tree.declarations.DataType.{DataType}
use Rattle.grammar_laws.specs.Languages.{Lang}
use Rattle.grammar_laws.specs.Readers.{Parser}
use Rattle.parse_cursor.specs.Tokens as t
use Rattle.parse_cursor.specs.Tokens.{kind_of}
use Rattle.parse_stmts.specs.Declarations as g
use Rattle.parse_stmts.specs.DeclarationReading as r
use Rattle.parse_exprs.specs.Sets.{first_expr, first_type, first_param}
use Rattle.parse_cursor.proofs.TokenLaws as token
use Rattle.parse_exprs.proofs.ExpressionLaws.{clash_expr}
use Rattle.grammar_laws.proofs.Law.{Heights, Law}
use Rattle.grammar_laws.proofs.Leaf as leaf
use Rattle.grammar_laws.proofs.Leaf.{pure_shape, pure_least, word_shape}
use Rattle.grammar_laws.proofs.Bind.{bind}
use Rattle.grammar_laws.proofs.Choice.{choose}
use Rattle.grammar_laws.proofs.Many.{many}
use Rattle.grammar_laws.proofs.Settle.{grow}
use Rattle.grammar_laws.proofs.TwoKinds.{Second, OpensWith}
use Rattle.grammar_laws.proofs.Seconds.{Next, next_second, next_none, next_word, next_choice, next_bind, Alone, word_alone, choice_alone_right, bind_alone, bind_opens_next}

module _ (Tall : Heights) (limit d : ℕ) (fits : (h : ℕ) → Tall.tall h → d ≤ limit) (oe : Bool) (pe : Parser Token Expr) (le : ℕ → Lang Token Expr)
    (E : Law kind_of Tall limit d false oe first_expr clash_expr [] pe (λ h. le h d)) where
  pub range : Law kind_of Tall limit d false true (code.LEFT_BRACKET ∷ []) [] [] (r.range pe) (λ h. g.range (le h) d)
  unfolding r.range g.range
  range =
      bind _ _ d (token.word d fits code.LEFT_BRACKET refl) (λ line. bind _ _ d E (λ high. bind _ _ d (token.word d fits code.COLON refl) (λ u.
      bind _ _ d E (λ low. bind _ _ d (token.word d fits code.RIGHT_BRACKET refl) (λ v. leaf.pure _ d) refl refl) refl refl) refl refl) refl refl) refl refl

  integer : Law kind_of Tall limit d false true (code.INTEGER ∷ []) [] [] (r.integer pe) (λ h. g.integer (le h) d)
  unfolding r.integer g.integer
  integer = bind _ _ d (token.word d fits code.INTEGER refl) (λ line. leaf.pure _ d) refl refl

  bit : Law kind_of Tall limit d false true (code.BIT ∷ []) (code.LEFT_BRACKET ∷ []) [] (r.bit pe) (λ h. g.bit (le h) d)
  unfolding r.bit g.bit
  bit = bind _ _ d (token.word d fits code.BIT refl) (λ line. bind _ _ d
      (choose (code.LEFT_BRACKET ∷ []) _ _ d (bind _ _ d range (λ x. leaf.pure _ d) refl refl) (leaf.pure _ d) refl refl refl)
      (λ x. leaf.pure _ d) refl refl) refl refl

  reg : Law kind_of Tall limit d false true (code.REG ∷ []) (code.LEFT_BRACKET ∷ []) [] (r.reg pe) (λ h. g.reg (le h) d)
  unfolding r.reg g.reg
  reg = bind _ _ d (token.word d fits code.REG refl) (λ line. bind _ _ d
      (choose (code.LEFT_BRACKET ∷ []) _ _ d (bind _ _ d range (λ x. leaf.pure _ d) refl refl) (leaf.pure _ d) refl refl refl)
      (λ x. leaf.pure _ d) refl refl) refl refl

  string_type : Law kind_of Tall limit d false true (code.STRING ∷ []) [] [] (r.string_type pe) (λ h. g.string_type (le h) d)
  unfolding r.string_type g.string_type
  string_type = bind _ _ d (token.word d fits code.STRING refl) (λ line. leaf.pure _ d) refl refl

  event : Law kind_of Tall limit d false true (code.EVENT ∷ []) [] [] (r.event pe) (λ h. g.event (le h) d)
  unfolding r.event g.event
  event = bind _ _ d (token.word d fits code.EVENT refl) (λ line. leaf.pure _ d) refl refl

  named : Law kind_of Tall limit d false true (code.NAME ∷ []) [] [] (r.named pe) (λ h. g.named (le h) d)
  unfolding r.named g.named
  named = bind _ _ d (token.name d fits) (λ n. leaf.pure _ d) refl refl

  pub data_type : Law kind_of Tall limit d false true first_type (code.LEFT_BRACKET ∷ []) [] (r.data_type pe) (λ h. g.data_type (le h) d)
  unfolding r.data_type g.data_type
  data_type = grow (code.LEFT_BRACKET ∷ []) [] refl refl (
      choose (code.INTEGER ∷ []) _ _ d integer (choose (code.BIT ∷ []) _ _ d bit (choose (code.REG ∷ []) _ _ d reg
      (choose (code.STRING ∷ []) _ _ d string_type (choose (code.EVENT ∷ []) _ _ d event named
      refl refl refl) refl refl refl) refl refl refl) refl refl refl) refl refl refl)

  size : Law kind_of Tall limit d false true (code.LEFT_BRACKET ∷ []) [] [] (r.size pe) (λ h. g.size (le h) d)
  unfolding r.size g.size
  size = bind _ _ d (token.word d fits code.LEFT_BRACKET refl) (λ u. bind _ _ d E (λ x. bind _ _ d (token.word d fits code.RIGHT_BRACKET refl) (λ v. leaf.pure _ d) refl refl) refl refl) refl refl

  initial : Law kind_of Tall limit d false true (code.EQUALS ∷ []) clash_expr [] (r.initial pe) (λ h. g.initial (le h) d)
  unfolding r.initial g.initial
  initial = bind _ _ d (token.word d fits code.EQUALS refl) (λ u. E) refl refl

  pub variable : Law kind_of Tall limit d false true (code.NAME ∷ []) (code.LEFT_BRACKET ∷ code.EQUALS ∷ clash_expr) [] (r.variable pe) (λ h. g.variable (le h) d)
  unfolding r.variable g.variable
  variable = grow (code.LEFT_BRACKET ∷ code.EQUALS ∷ clash_expr) [] refl refl (
      bind _ _ d (token.name d fits) (λ n. bind _ _ d
      (choose (code.LEFT_BRACKET ∷ []) _ _ d (bind _ _ d size (λ x. leaf.pure _ d) refl refl) (leaf.pure _ d) refl refl refl)
      (λ count. bind _ _ d
      (choose (code.EQUALS ∷ []) _ _ d (bind _ _ d initial (λ x. leaf.pure _ d) refl refl) (leaf.pure _ d) refl refl refl)
      (λ value. leaf.pure _ d) refl refl) refl refl) refl refl)

  further_variable : Law kind_of Tall limit d false true (code.COMMA ∷ []) (code.LEFT_BRACKET ∷ code.EQUALS ∷ clash_expr) [] (r.further_variable pe) (λ h. g.further_variable (le h) d)
  unfolding r.further_variable g.further_variable
  further_variable = bind _ _ d (token.word d fits code.COMMA refl) (λ u. variable) refl refl

  variables : Law kind_of Tall limit d false true (code.NAME ∷ []) (code.COMMA ∷ code.LEFT_BRACKET ∷ code.EQUALS ∷ clash_expr) [] (r.variables pe) (λ h. g.variables (le h) d)
  unfolding r.variables g.variables
  variables = grow (code.COMMA ∷ code.LEFT_BRACKET ∷ code.EQUALS ∷ clash_expr) [] refl refl (
      bind _ _ d variable (λ first. bind _ _ d (many (code.COMMA ∷ []) _ d further_variable refl refl refl refl) (λ more. leaf.pure _ d) refl refl) refl refl)

  pub declared : (x : DataType) → Law kind_of Tall limit d false true (code.NAME ∷ []) [] [] (r.declared pe x) (λ h. g.declared (le h) x d)
  unfolding r.declared g.declared
  declared x = bind _ _ d variables (λ all. bind _ _ d (token.word d fits code.SEMICOLON refl) (λ u. leaf.pure _ d) refl refl) refl refl

  pub decl : Law kind_of Tall limit d false true first_type [] [] (r.decl pe) (λ h. g.decl (le h) d)
  unfolding r.decl g.decl
  decl = bind _ _ d data_type declared refl refl

  var_mark : Law kind_of Tall limit d false true (code.VAR ∷ []) [] [] (r.var_mark pe) (λ h. g.var_mark (le h) d)
  unfolding r.var_mark g.var_mark
  var_mark = token.word d fits code.VAR refl

  pub param : Law kind_of Tall limit d false true first_param [] [] (r.param pe) (λ h. g.param (le h) d)
  unfolding r.param g.param
  param =
      bind _ _ d (choose (code.VAR ∷ []) _ _ d (bind _ _ d var_mark (λ line. leaf.pure _ d) refl refl) (leaf.pure _ d) refl refl refl)
      (λ mark. bind _ _ d data_type (λ x. bind _ _ d (token.name d fits) (λ n. leaf.pure _ d) refl refl) refl refl) refl refl

  further_param : Law kind_of Tall limit d false true (code.COMMA ∷ []) [] [] (r.further_param pe) (λ h. g.further_param (le h) d)
  unfolding r.further_param g.further_param
  further_param = bind _ _ d (token.word d fits code.COMMA refl) (λ u. param) refl refl

  pub params : Law kind_of Tall limit d false true first_param (code.COMMA ∷ []) [] (r.params pe) (λ h. g.params (le h) d)
  unfolding r.params g.params
  params = bind _ _ d param (λ first. bind _ _ d (many (code.COMMA ∷ []) _ d further_param refl refl refl refl) (λ more. leaf.pure _ d) refl refl) refl refl

  -- ---- a declaration that begins with a name

  next_named : (h : ℕ) → Next kind_of code.NAME true [] (g.named (le h) d)
  unfolding g.named t.name
  next_named h =
      next_bind kind_of code.NAME d true true [] (code.NAME ∷ []) [] [] [] _ _ d ((token.name {Tall = Tall} {limit = limit} d fits).shape h) (λ n. pure_shape _ d)
      (next_bind kind_of code.NAME d true true [] (code.NAME ∷ []) [] [] [] _ _ d (word_shape kind_of code.NAME d) (λ n. pure_shape _ d) (next_word kind_of code.NAME code.NAME d))

  next_type : (h : ℕ) → Next kind_of code.NAME true [] (g.data_type (le h) d)
  unfolding g.data_type
  next_type h =
      next_choice kind_of code.NAME false true [] [] _ _ d (next_none kind_of code.NAME d false (code.INTEGER ∷ []) [] _ (integer.shape h) refl)
      (next_choice kind_of code.NAME false true [] [] _ _ d (next_none kind_of code.NAME d false (code.BIT ∷ []) [] _ (bit.shape h) refl)
      (next_choice kind_of code.NAME false true [] [] _ _ d (next_none kind_of code.NAME d false (code.REG ∷ []) [] _ (reg.shape h) refl)
      (next_choice kind_of code.NAME false true [] [] _ _ d (next_none kind_of code.NAME d false (code.STRING ∷ []) [] _ (string_type.shape h) refl)
      (next_choice kind_of code.NAME false true [] [] _ _ d (next_none kind_of code.NAME d false (code.EVENT ∷ []) [] _ (event.shape h) refl) (next_named h)))))

  pub second_decl : (h : ℕ) → Second kind_of code.NAME (code.NAME ∷ []) (g.decl (le h) d)
  unfolding g.decl
  second_decl h = next_second kind_of code.NAME (code.NAME ∷ []) _
      (next_bind kind_of code.NAME d true false [] first_type [] (code.NAME ∷ []) [] _ _ d (data_type.shape h) (λ x. (declared x).shape h) (next_type h))

  alone_type : (h : ℕ) → Tall.tall h → Alone kind_of code.NAME (λ k. k ≤ limit) (g.data_type (le h) d)
  unfolding g.data_type g.named t.name
  alone_type h tall =
      choice_alone_right kind_of code.NAME _ _ _ d (choice_alone_right kind_of code.NAME _ _ _ d (choice_alone_right kind_of code.NAME _ _ _ d (choice_alone_right kind_of code.NAME _ _ _ d (choice_alone_right kind_of code.NAME _ _ _ d
      (bind_alone kind_of code.NAME _ _ _ d (bind_alone kind_of code.NAME _ _ _ d (word_alone kind_of code.NAME d (λ k. k ≤ limit) (fits h tall)) (λ n. pure_least _ d)) (λ n. pure_least _ d))))))

  pub opens_decl : (h : ℕ) → Tall.tall h → OpensWith kind_of code.NAME (code.NAME ∷ []) (λ k. k ≤ limit) (g.decl (le h) d)
  unfolding g.decl
  opens_decl h tall = bind_opens_next kind_of code.NAME d false first_type [] (code.NAME ∷ []) (λ k. k ≤ limit) _ _ d (data_type.shape h) (alone_type h tall) (λ x. (declared x).opens h (Tall.is_some h tall) refl) refl
