-- The laws of items and of the file.
use Rattle.std.proofs.Common.{ℕ, ◌≤◌, Bool, true, false, List, [], ◌∷◌, refl}
use Rattle.grammar_laws.specs.Languages.{Lang}
use Rattle.grammar_laws.specs.Readers.{Parser}
use Rattle.vera_ast.specs.declared.codes.TheConstants as code
use Rattle.vera_ast.specs.declared.token.Token.{Token}
use Rattle.vera_ast.specs.declared.tree.coverage.CoverageGroup.{CoverageGroup}
use Rattle.vera_ast.specs.declared.tree.declarations.DataType.{DataType}
use Rattle.vera_ast.specs.declared.tree.declarations.Decl.{Decl}
use Rattle.vera_ast.specs.declared.tree.interfaces.Interface.{Interface}
use Rattle.vera_ast.specs.declared.tree.items.Parameter.{Parameter}
use Rattle.vera_ast.specs.declared.tree.statements.Block.{Block}
use Rattle.parse_cursor.specs.Tokens.{kind_of}
use Rattle.parse_exprs.specs.Sets.{first_type, first_param}
use Rattle.parse_cursor.specs.Lists as names
use Rattle.vera_parse.specs.Items as g
use Rattle.vera_parse.specs.ItemReading as r
use Rattle.vera_parse.specs.ItemReading.{first_member, first_item}
use Rattle.grammar_laws.proofs.Law.{Heights, Law}
use Rattle.grammar_laws.proofs.Leaf as leaf
use Rattle.grammar_laws.proofs.Bind.{bind}
use Rattle.grammar_laws.proofs.Choice.{choose}
use Rattle.grammar_laws.proofs.Many.{many}
use Rattle.grammar_laws.proofs.Settle.{restate}
use Rattle.parse_cursor.proofs.TokenLaws as token
use Rattle.parse_cursor.proofs.ListLaws as list
use Rattle.vera_parse.proofs.Virtual as virtual

module _ {Tall : Heights} {limit : ℕ} (d : ℕ) (fits : (h : ℕ) → Tall.tall h → d ≤ limit) where
  enumeration : Law kind_of Tall limit d false true (code.ENUM ∷ []) [] [] r.enumeration (λ h. g.enumeration d)
  unfolding r.enumeration g.enumeration
  enumeration =
      bind _ _ d (token.word d fits code.ENUM refl) (λ line. bind _ _ d (list.title d fits) (λ name. bind _ _ d (token.word d fits code.EQUALS refl) (λ t.
      bind _ _ d (list.listed d fits code.COMMA (λ h. names.title) refl (list.title d fits) refl refl) (λ values. bind _ _ d (token.word d fits code.SEMICOLON refl) (λ t1. leaf.pure _ d)
      refl refl) refl refl) refl refl) refl refl) refl refl

  task_name : Law kind_of Tall limit d false true (code.NAME ∷ code.NEW ∷ []) [] [] r.task_name (λ h. g.task_name d)
  unfolding r.task_name g.task_name
  task_name = choose (code.NAME ∷ []) _ _ d (bind _ _ d (list.title d fits) (λ n. leaf.pure _ d) refl refl) (bind _ _ d (token.word d fits code.NEW refl) (λ t. leaf.pure _ d) refl refl) refl refl refl

  module _ (pt : Parser Token DataType) (pp : Parser Token (List Parameter)) (pd : Parser Token Decl) (pb : Parser Token Block) (lt : ℕ → Lang Token DataType) (lp : ℕ → Lang Token (List Parameter)) (ld : ℕ → Lang Token Decl) (lb : ℕ → Lang Token Block)
      (T : Law kind_of Tall limit d false true first_type (code.LEFT_BRACKET ∷ []) [] pt (λ h. lt h d)) (P : Law kind_of Tall limit d false true first_param (code.COMMA ∷ []) [] pp (λ h. lp h d))
      (D : Law kind_of Tall limit d false true first_type [] [] pd (λ h. ld h d)) (B : Law kind_of Tall limit d false true (code.LEFT_BRACE ∷ []) [] [] pb (λ h. lb h d)) where
    parameters : Law kind_of Tall limit d false true (code.LEFT_PARENTHESIS ∷ []) [] [] (r.parameters pp) (λ h. g.parameters (lp h) d)
    unfolding r.parameters g.parameters
    parameters =
        bind _ _ d (token.word d fits code.LEFT_PARENTHESIS refl) (λ t. bind _ _ d (choose first_param _ _ d P (leaf.pure _ d) refl refl refl)
        (λ all. bind _ _ d (token.word d fits code.RIGHT_PARENTHESIS refl) (λ t1. leaf.pure _ d) refl refl) refl refl) refl refl

    task_head : Law kind_of Tall limit d false true (code.NAME ∷ code.NEW ∷ []) [] [] (r.task_head pp) (λ h. g.task_head (lp h) d)
    unfolding r.task_head g.task_head
    task_head = bind _ _ d task_name (λ name. bind _ _ d parameters (λ parameters. leaf.pure _ d) refl refl) refl refl

    task : Law kind_of Tall limit d false true (code.TASK ∷ []) [] [] (r.task pp pb) (λ h. g.task (lp h) (lb h) d)
    unfolding r.task g.task
    task = bind _ _ d (token.word d fits code.TASK refl) (λ line. bind _ _ d task_head (λ head. bind _ _ d B (λ block. leaf.pure _ d) refl refl) refl refl) refl refl

    signature : Law kind_of Tall limit d false true first_type [] [] (r.signature pt pp) (λ h. g.signature (lt h) (lp h) d)
    unfolding r.signature g.signature
    signature = bind _ _ d T (λ result. bind _ _ d (list.title d fits) (λ name. bind _ _ d parameters (λ parameters. leaf.pure _ d) refl refl) refl refl) refl refl

    func : Law kind_of Tall limit d false true (code.FUNCTION ∷ []) [] [] (r.func pt pp pb) (λ h. g.func (lt h) (lp h) (lb h) d)
    unfolding r.func g.func
    func = bind _ _ d (token.word d fits code.FUNCTION refl) (λ line. bind _ _ d signature (λ head. bind _ _ d B (λ block. leaf.pure _ d) refl refl) refl refl) refl refl

    prog : Law kind_of Tall limit d false true (code.PROGRAM ∷ []) [] [] (r.prog pb) (λ h. g.prog (lb h) d)
    unfolding r.prog g.prog
    prog = bind _ _ d (token.word d fits code.PROGRAM refl) (λ line. bind _ _ d (list.title d fits) (λ name. bind _ _ d B (λ block. leaf.pure _ d) refl refl) refl refl) refl refl

    method : (b : Bool) → Law kind_of Tall limit d false true (code.TASK ∷ code.FUNCTION ∷ []) [] [] (r.method pt pp pb b) (λ h. virtual.method (lt h) (lp h) (ld h) (lb h) b d)
    unfolding r.method
    method b = choose (code.TASK ∷ []) _ _ d (bind _ _ d task (λ x. leaf.pure _ d) refl refl) (bind _ _ d func (λ x. leaf.pure _ d) refl refl) refl refl refl

    class_member : Law kind_of Tall limit d false true first_member [] [] (r.class_member pt pp pd pb) (λ h. g.class_member (lt h) (lp h) (ld h) (lb h) d)
    unfolding r.class_member
    class_member = restate (λ h w r a x. virtual.members_back (lt h) (lp h) (ld h) (lb h) d w r a x) (λ h w r a x. virtual.members_to (lt h) (lp h) (ld h) (lb h) d w r a x) (
        choose (code.VIRTUAL ∷ []) _ _ d (bind _ _ d (token.word d fits code.VIRTUAL refl) (λ line. method true) refl refl)
        (choose (code.TASK ∷ code.FUNCTION ∷ []) _ _ d (method false) (bind _ _ d D (λ x. leaf.pure _ d) refl refl) refl refl refl) refl refl refl)

    class_body : Law kind_of Tall limit d false true (code.LEFT_BRACE ∷ []) [] [] (r.class_body pt pp pd pb) (λ h. g.class_body (lt h) (lp h) (ld h) (lb h) d)
    unfolding r.class_body g.class_body
    class_body =
        bind _ _ d (token.word d fits code.LEFT_BRACE refl) (λ t. bind _ _ d (many first_member _ d class_member refl refl refl refl) (λ all.
        bind _ _ d (token.word d fits code.RIGHT_BRACE refl) (λ t1. leaf.pure _ d) refl refl) refl refl) refl refl

    class : Law kind_of Tall limit d false true (code.CLASS ∷ []) [] [] (r.class pt pp pd pb) (λ h. g.class (lt h) (lp h) (ld h) (lb h) d)
    unfolding r.class g.class
    class =
        bind _ _ d (token.word d fits code.CLASS refl) (λ line. bind _ _ d (list.title d fits) (λ name. bind _ _ d
        (choose (code.EXTENDS ∷ []) _ _ d (bind _ _ d (list.after d fits code.EXTENDS (λ h. names.title) refl (list.title d fits)) (λ x. leaf.pure _ d) refl refl) (leaf.pure _ d) refl refl refl)
        (λ parent. bind _ _ d class_body (λ members. leaf.pure _ d) refl refl) refl refl) refl refl) refl refl

    module _ (pi : Parser Token Interface) (pg : Parser Token CoverageGroup) (li : ℕ → Lang Token Interface) (lg : ℕ → Lang Token CoverageGroup)
        (I : Law kind_of Tall limit d false true (code.INTERFACE ∷ []) [] [] pi (λ h. li h d)) (G : Law kind_of Tall limit d false true (code.COVERAGE_GROUP ∷ []) [] [] pg (λ h. lg h d)) where
      any_item : Law kind_of Tall limit d false true first_item [] [] (r.any_item pi pg pt pp pd pb) (λ h. g.any_item (li h) (lg h) (lt h) (lp h) (ld h) (lb h) d)
      unfolding r.any_item r.design_item r.routine_item g.any_item
      any_item =
          choose (code.ENUM ∷ []) _ _ d (bind _ _ d enumeration (λ x. leaf.pure _ d) refl refl)
          (choose (code.CLASS ∷ []) _ _ d (bind _ _ d class (λ x. leaf.pure _ d) refl refl)
          (choose (code.INTERFACE ∷ []) _ _ d (bind _ _ d I (λ x. leaf.pure _ d) refl refl)
          (choose (code.COVERAGE_GROUP ∷ []) _ _ d (bind _ _ d G (λ x. leaf.pure _ d) refl refl)
          (choose (code.TASK ∷ []) _ _ d (bind _ _ d task (λ x. leaf.pure _ d) refl refl)
          (choose (code.FUNCTION ∷ []) _ _ d (bind _ _ d func (λ x. leaf.pure _ d) refl refl)
          (bind _ _ d prog (λ x. leaf.pure _ d) refl refl)
          refl refl refl) refl refl refl) refl refl refl) refl refl refl) refl refl refl) refl refl refl

      pub items : Law kind_of Tall limit d true true first_item first_item [] (r.items pi pg pt pp pd pb) (λ h. g.items (li h) (lg h) (lt h) (lp h) (ld h) (lb h) d)
      unfolding r.items g.items
      items = bind _ _ d (many first_item _ d any_item refl refl refl refl) (λ all. leaf.pure _ d) refl refl
