-- The laws of the productions of expressions.
use Rattle.std.proofs.Common.{◌≡◌, ℕ, ◌≤◌, Bool, true, false, List, [], ◌∷◌, ◌++◌, refl}
use Rattle.std.specs.Prelude.{◌&&◌}
use Rattle.vera_ast.specs.declared.codes.TheConstants as code
use Rattle.vera_ast.specs.declared.token.Token.{Token}
use Rattle.vera_ast.specs.declared.tree.expressions.Expr.{Expr}
use Rattle.vera_ast.specs.declared.tree.expressions.Primary.{Primary}
use Rattle.vera_ast.specs.declared.tree.expressions.ChainOperator.{ChainOperator}
use Rattle.vera_ast.specs.declared.tree.expressions.ChainOperator.TheVariants as chain
use Rattle.vera_ast.specs.declared.tree.expressions.UnaryOperator.TheVariants as prefix
use Rattle.grammar_laws.specs.Languages.{Lang, choice}
use Rattle.grammar_laws.specs.Readers.{Parser}
use Rattle.parse_cursor.specs.Tokens.{kind_of}
use Rattle.parse_cursor.specs.TokenReading.{either, codes_of}
use Rattle.parse_exprs.specs.Expressions as g
use Rattle.parse_exprs.specs.ExpressionReading as r
use Rattle.parse_exprs.specs.Operators as signs
use Rattle.parse_exprs.specs.Sets.{name_words, call_words, mode_words, first_post, first_free, first_unary, first_expr, first_suffix}
use Rattle.parse_cursor.proofs.Samples.{are_codes}
use Rattle.parse_cursor.proofs.TokenLaws as token
use Rattle.parse_cursor.proofs.TokenLaws.{distinct}
use Rattle.grammar_laws.proofs.Sets.{disjoint}
use Rattle.grammar_laws.proofs.Law.{Heights, Law}
use Rattle.grammar_laws.proofs.Leaf as leaf
use Rattle.grammar_laws.proofs.Bind.{bind}
use Rattle.grammar_laws.proofs.Choice.{choose}
use Rattle.grammar_laws.proofs.Many.{many}
use Rattle.grammar_laws.proofs.Settle.{grow, restate, subset}
use Rattle.grammar_laws.proofs.Regroup.{share_to, share_back, share_two_to, share_two_back, swap}

-- what may not follow, as it would go on

abbrev pub clash_post : List ℕ
clash_post = first_suffix

abbrev pub clash_product : List ℕ
clash_product = clash_post ++ codes_of signs.product_signs

abbrev pub clash_sum : List ℕ
clash_sum = clash_product ++ codes_of signs.sum_signs

abbrev pub clash_shift : List ℕ
clash_shift = clash_sum ++ codes_of signs.shift_signs

abbrev pub clash_order : List ℕ
clash_order = clash_shift ++ codes_of signs.order_signs

abbrev pub clash_equality : List ℕ
clash_equality = clash_order ++ codes_of signs.equality_signs

abbrev pub clash_and : List ℕ
clash_and = clash_equality ++ codes_of signs.and_signs

abbrev pub clash_xor : List ℕ
clash_xor = clash_and ++ codes_of signs.xor_signs

abbrev pub clash_or : List ℕ
clash_or = clash_xor ++ codes_of signs.or_signs

abbrev pub clash_logical_and : List ℕ
clash_logical_and = clash_or ++ codes_of signs.logical_and_signs

abbrev pub clash_logical_or : List ℕ
clash_logical_or = clash_logical_and ++ codes_of signs.logical_or_signs

abbrev pub clash_expr : List ℕ
clash_expr = clash_logical_or ++ code.QUESTION ∷ []

disjoint_nil : (xs : List ℕ) → disjoint xs [] ≡ true
disjoint_nil [] = refl
disjoint_nil (x ∷ xs) = disjoint_nil xs

-- one level of operators
module _ {Tall : Heights} {limit : ℕ} (d : ℕ) (fits : (h : ℕ) → Tall.tall h → d ≤ limit) (x : ℕ × ChainOperator) (xs : List (ℕ × ChainOperator)) (are : are_codes (codes_of (x ∷ xs)) ≡ true) (differ : distinct (codes_of (x ∷ xs)) ≡ true)
    {o : Bool} {c : List ℕ} {p : Parser Token Expr} (l : ℕ → Lang Token Expr) (P : Law kind_of Tall limit d false o first_expr c [] p (λ h. l h d)) where
  link : Law kind_of Tall limit d false true (codes_of (x ∷ xs)) (c ++ []) [] (r.link (x ∷ xs) p) (λ h. g.link (x ∷ xs) (l h) d)
  unfolding r.link g.link
  link = bind _ _ d (token.sign d fits x xs are differ) (λ s. bind _ _ d P (λ y. leaf.pure _ d) refl refl) refl refl

  pub level : (c2 : List ℕ) → disjoint (codes_of (x ∷ xs) ++ []) c ≡ true → disjoint (codes_of (x ∷ xs)) (c ++ []) ≡ true → subset (c ++ (((c ++ []) ++ codes_of (x ∷ xs)) ++ [])) c2 ≡ true
      → Law kind_of Tall limit d false o first_expr c2 [] (r.level (x ∷ xs) p) (λ h. g.level (x ∷ xs) (l h) d)
  unfolding r.level g.level
  level c2 apart1 apart2 within = grow c2 [] within refl (
      bind _ _ d P (λ first. bind _ _ d (many (codes_of (x ∷ xs)) _ d link refl refl apart2 (disjoint_nil (codes_of (x ∷ xs)))) (λ links. leaf.pure _ d) refl refl) apart1 refl)

module _ (Tall : Heights) (limit d : ℕ) (fits : (h : ℕ) → Tall.tall h → d ≤ limit) (oe ou : Bool) (pe pu : Parser Token Expr) (le lu : ℕ → Lang Token Expr)
    (E : Law kind_of Tall limit d false oe first_expr clash_expr [] pe (λ h. le h d)) (U : Law kind_of Tall limit d false ou first_expr clash_post [] pu (λ h. lu h d)) where
  -- ---- primary expressions

  pub literal : Law kind_of Tall limit d false true (code.NUMBER ∷ []) [] [] (r.literal pe pu) (λ h. g.literal (le h) (lu h) d)
  unfolding r.literal g.literal
  literal = bind _ _ d (token.number d fits) (λ n. leaf.pure _ d) refl refl

  pub text : Law kind_of Tall limit d false true (code.STRING_LITERAL ∷ []) [] [] (r.text pe pu) (λ h. g.text (le h) (lu h) d)
  unfolding r.text g.text
  text = bind _ _ d (token.string d fits) (λ s. leaf.pure _ d) refl refl

  named : Law kind_of Tall limit d false true name_words [] [] (r.named pe pu) (λ h. g.named (le h) (lu h) d)
  unfolding r.named g.named
  named = bind _ _ d (token.name_of d fits code.NAME (call_words ++ mode_words) refl refl) (λ t. leaf.pure _ d) refl refl

  null : Law kind_of Tall limit d false true (code.NULL ∷ []) [] [] (r.null pe pu) (λ h. g.null (le h) (lu h) d)
  unfolding r.null g.null
  null = bind _ _ d (token.word d fits code.NULL refl) (λ line. leaf.pure _ d) refl refl

  this : Law kind_of Tall limit d false true (code.THIS ∷ []) [] [] (r.this pe pu) (λ h. g.this (le h) (lu h) d)
  unfolding r.this g.this
  this = bind _ _ d (token.word d fits code.THIS refl) (λ line. leaf.pure _ d) refl refl

  parent : Law kind_of Tall limit d false true (code.SUPER ∷ []) [] [] (r.parent pe pu) (λ h. g.parent (le h) (lu h) d)
  unfolding r.parent g.parent
  parent = bind _ _ d (token.word d fits code.SUPER refl) (λ line. leaf.pure _ d) refl refl

  fresh : Law kind_of Tall limit d false true (code.NEW ∷ []) [] [] (r.fresh pe pu) (λ h. g.fresh (le h) (lu h) d)
  unfolding r.fresh g.fresh
  fresh = bind _ _ d (token.word d fits code.NEW refl) (λ line. leaf.pure _ d) refl refl

  group : Law kind_of Tall limit d false true (code.LEFT_PARENTHESIS ∷ []) [] [] (r.group pe pu) (λ h. g.group (le h) (lu h) d)
  unfolding r.group g.group
  group = bind _ _ d (token.word d fits code.LEFT_PARENTHESIS refl) (λ line. bind _ _ d E (λ x. bind _ _ d (token.word d fits code.RIGHT_PARENTHESIS refl) (λ u. leaf.pure _ d) refl refl) refl refl) refl refl

  -- the alternatives behind a name
  pub others : Law kind_of Tall limit d false true (code.NULL ∷ code.THIS ∷ code.SUPER ∷ code.NEW ∷ code.LEFT_PARENTHESIS ∷ []) [] []
      (either (code.NULL ∷ []) (r.null pe pu) (either (code.THIS ∷ []) (r.this pe pu) (either (code.SUPER ∷ []) (r.parent pe pu) (either (code.NEW ∷ []) (r.fresh pe pu) (r.group pe pu)))))
      (λ h. choice (g.null (le h) (lu h)) (choice (g.this (le h) (lu h)) (choice (g.parent (le h) (lu h)) (choice (g.fresh (le h) (lu h)) (g.group (le h) (lu h))))) d)
  others =
      choose (code.NULL ∷ []) _ _ d null (choose (code.THIS ∷ []) _ _ d this (choose (code.SUPER ∷ []) _ _ d parent (choose (code.NEW ∷ []) _ _ d fresh group
      refl refl refl) refl refl refl) refl refl refl) refl refl refl

  pub start : Law kind_of Tall limit d false true first_post [] [] (r.start pe pu) (λ h. g.start (le h) (lu h) d)
  unfolding r.start g.start
  start =
      choose (code.NUMBER ∷ []) _ _ d literal (choose (code.STRING_LITERAL ∷ []) _ _ d text (choose name_words _ _ d named others
      refl refl refl) refl refl refl) refl refl refl

  pub further : Law kind_of Tall limit d false true (code.COMMA ∷ []) clash_expr [] (r.further pe pu) (λ h. g.further (le h) (lu h) d)
  unfolding r.further g.further
  further = bind _ _ d (token.word d fits code.COMMA refl) (λ t. E) refl refl

  pub exprs : Law kind_of Tall limit d false oe first_expr (clash_expr ++ code.COMMA ∷ []) [] (r.exprs pe pu) (λ h. g.exprs (le h) (lu h) d)
  unfolding r.exprs g.exprs
  exprs = grow (clash_expr ++ code.COMMA ∷ []) [] refl refl (
      bind _ _ d E (λ x. bind _ _ d (many (code.COMMA ∷ []) _ d further refl refl refl refl) (λ more. leaf.pure _ d) refl refl) refl refl)

  concatenated : (line : ℕ) (x : Expr) → Law kind_of Tall limit d false true (code.COMMA ∷ code.RIGHT_BRACE ∷ []) [] [] (r.concatenated pe pu line x) (λ h. g.concatenated (le h) (lu h) line x d)
  unfolding r.concatenated g.concatenated
  concatenated line x = bind _ _ d (many (code.COMMA ∷ []) _ d further refl refl refl refl) (λ more. bind _ _ d (token.word d fits code.RIGHT_BRACE refl) (λ t. leaf.pure _ d) refl refl) refl refl

  replicated : (line : ℕ) (x : Expr) → Law kind_of Tall limit d false true (code.LEFT_BRACE ∷ []) [] [] (r.replicated pe pu line x) (λ h. g.replicated (le h) (lu h) line x d)
  unfolding r.replicated g.replicated
  replicated line x =
      bind _ _ d (token.word d fits code.LEFT_BRACE refl) (λ t. bind _ _ d exprs (λ parts. bind _ _ d (token.word d fits code.RIGHT_BRACE refl) (λ t1.
      bind _ _ d (token.word d fits code.RIGHT_BRACE refl) (λ t2. leaf.pure _ d) refl refl) refl refl) refl refl) refl refl

  braces : Law kind_of Tall limit d false true (code.LEFT_BRACE ∷ []) [] [] (r.braces pe pu) (λ h. g.braces (le h) (lu h) d)
  unfolding r.braces g.braces g.concatenation g.replication
  braces =
      restate (λ h w r a x. swap _ _ d w r a (share_two_to _ _ _ _ d w r a x)) (λ h w r a x. share_two_back _ _ _ _ d w r a (swap _ _ d w r a x)) (
      bind _ _ d (token.word d fits code.LEFT_BRACE refl) (λ line. bind _ _ d E (λ x. choose (code.LEFT_BRACE ∷ []) _ _ d (replicated line x) (concatenated line x) refl refl refl) refl refl) refl refl)

  pub prim : Law kind_of Tall limit d false true first_free [] [] (r.prim pe pu) (λ h. g.prim (le h) (lu h) d)
  unfolding r.prim g.prim
  prim = choose first_post _ _ d start braces refl refl refl

  -- ---- postfix expressions

  member : Law kind_of Tall limit d false true (code.NAME ∷ []) [] [] (r.member pe pu) (λ h. g.member (le h) (lu h) d)
  unfolding r.member g.member
  member = bind _ _ d (token.name d fits) (λ n. leaf.pure _ d) refl refl

  made : Law kind_of Tall limit d false true (code.NEW ∷ []) [] [] (r.made pe pu) (λ h. g.made (le h) (lu h) d)
  unfolding r.made g.made
  made = bind _ _ d (token.word d fits code.NEW refl) (λ line. leaf.pure _ d) refl refl

  dotted : Law kind_of Tall limit d false true (code.DOT ∷ []) [] [] (r.dotted pe pu) (λ h. g.dotted (le h) (lu h) d)
  unfolding r.dotted g.dotted
  dotted = restate (λ h w r a x. share_to _ _ _ d w r a x) (λ h w r a x. share_back _ _ _ d w r a x) (
      bind _ _ d (token.word d fits code.DOT refl) (λ t. choose (code.NAME ∷ []) _ _ d member made refl refl refl) refl refl)

  low_bit : Law kind_of Tall limit d false true (code.COLON ∷ []) clash_expr [] (r.low_bit pe pu) (λ h. g.low_bit (le h) (lu h) d)
  unfolding r.low_bit g.low_bit
  low_bit = bind _ _ d (token.word d fits code.COLON refl) (λ t. E) refl refl

  bits : Law kind_of Tall limit d false true (code.LEFT_BRACKET ∷ []) [] [] (r.bits pe pu) (λ h. g.bits (le h) (lu h) d)
  unfolding r.bits g.bits
  bits =
      bind _ _ d (token.word d fits code.LEFT_BRACKET refl) (λ t. bind _ _ d E (λ x. bind _ _ d
      (choose (code.COLON ∷ []) _ _ d (bind _ _ d low_bit (λ y. leaf.pure _ d) refl refl) (leaf.pure _ d) refl refl refl)
      (λ low. bind _ _ d (token.word d fits code.RIGHT_BRACKET refl) (λ u. leaf.pure _ d) refl refl) refl refl) refl refl) refl refl

  arguments : Law kind_of Tall limit d true (oe && true) first_expr (first_expr ++ (clash_expr ++ code.COMMA ∷ [])) [] (r.arguments pe pu) (λ h. g.arguments (le h) (lu h) d)
  unfolding r.arguments g.arguments
  arguments = grow (first_expr ++ (clash_expr ++ code.COMMA ∷ [])) [] refl refl (choose first_expr _ _ d exprs (leaf.pure _ d) refl refl refl)

  call : Law kind_of Tall limit d false true (code.LEFT_PARENTHESIS ∷ []) [] [] (r.call pe pu) (λ h. g.call (le h) (lu h) d)
  unfolding r.call g.call
  call = bind _ _ d (token.word d fits code.LEFT_PARENTHESIS refl) (λ t. bind _ _ d arguments (λ all. bind _ _ d (token.word d fits code.RIGHT_PARENTHESIS refl) (λ u. leaf.pure _ d) refl refl) refl refl) refl refl

  pub suffix : Law kind_of Tall limit d false true first_suffix [] [] (r.suffix pe pu) (λ h. g.suffix (le h) (lu h) d)
  unfolding r.suffix g.suffix
  suffix = choose (code.DOT ∷ []) _ _ d dotted (choose (code.LEFT_BRACKET ∷ []) _ _ d bits call refl refl refl) refl refl refl

  pub suffixed : (p : Primary) → Law kind_of Tall limit d true true first_suffix clash_post [] (r.suffixed pe pu p) (λ h. g.suffixed (le h) (lu h) p d)
  unfolding r.suffixed g.suffixed
  suffixed p = bind _ _ d (many first_suffix _ d suffix refl refl refl refl) (λ more. leaf.pure _ d) refl refl

  pub free : Law kind_of Tall limit d false true first_free clash_post [] (r.free pe pu) (λ h. g.free (le h) (lu h) d)
  unfolding r.free g.free
  free = bind _ _ d prim suffixed refl refl

  pub post : Law kind_of Tall limit d false true first_post clash_post [] (r.post pe pu) (λ h. g.post (le h) (lu h) d)
  unfolding r.post g.post
  post = bind _ _ d start suffixed refl refl

  -- ---- operators

  unary_sign : Law kind_of Tall limit d false true first_unary [] [] (r.unary_sign pe pu) (λ h. g.unary_sign (le h) (lu h) d)
  unfolding r.unary_sign g.unary_sign
  unary_sign = token.sign d fits (code.NOT, prefix.LogicalNot) _ refl refl

  prefixed : Law kind_of Tall limit d false true first_unary clash_post [] (r.prefixed pe pu) (λ h. g.prefixed (le h) (lu h) d)
  unfolding r.prefixed g.prefixed
  prefixed = bind _ _ d unary_sign (λ s. bind _ _ d U (λ x. leaf.pure _ d) refl refl) refl refl

  pub operand : Law kind_of Tall limit d false true first_expr clash_post [] (r.operand pe pu) (λ h. g.operand (le h) (lu h) d)
  unfolding r.operand g.operand
  operand = grow clash_post [] refl refl (choose first_unary _ _ d prefixed (bind _ _ d free (λ p. leaf.pure _ d) refl refl) refl refl refl)

  product : Law kind_of Tall limit d false ou first_expr clash_product [] (r.product pe pu) (λ h. g.product (le h) (lu h) d)
  unfolding r.product g.product
  product = level d fits (code.STAR, chain.Multiply) _ refl refl lu U clash_product refl refl refl

  sum : Law kind_of Tall limit d false ou first_expr clash_sum [] (r.sum pe pu) (λ h. g.sum (le h) (lu h) d)
  unfolding r.sum g.sum
  sum = level d fits (code.PLUS, chain.Add) _ refl refl (λ h. g.product (le h) (lu h)) product clash_sum refl refl refl

  shift : Law kind_of Tall limit d false ou first_expr clash_shift [] (r.shift pe pu) (λ h. g.shift (le h) (lu h) d)
  unfolding r.shift g.shift
  shift = level d fits (code.SHIFT_LEFT, chain.ShiftLeft) _ refl refl (λ h. g.sum (le h) (lu h)) sum clash_shift refl refl refl

  order : Law kind_of Tall limit d false ou first_expr clash_order [] (r.order pe pu) (λ h. g.order (le h) (lu h) d)
  unfolding r.order g.order
  order = level d fits (code.LESS, chain.Less) _ refl refl (λ h. g.shift (le h) (lu h)) shift clash_order refl refl refl

  equality : Law kind_of Tall limit d false ou first_expr clash_equality [] (r.equality pe pu) (λ h. g.equality (le h) (lu h) d)
  unfolding r.equality g.equality
  equality = level d fits (code.EQUAL, chain.Equal) _ refl refl (λ h. g.order (le h) (lu h)) order clash_equality refl refl refl

  bit_and : Law kind_of Tall limit d false ou first_expr clash_and [] (r.bit_and pe pu) (λ h. g.bit_and (le h) (lu h) d)
  unfolding r.bit_and g.bit_and
  bit_and = level d fits (code.AND, chain.And) _ refl refl (λ h. g.equality (le h) (lu h)) equality clash_and refl refl refl

  bit_xor : Law kind_of Tall limit d false ou first_expr clash_xor [] (r.bit_xor pe pu) (λ h. g.bit_xor (le h) (lu h) d)
  unfolding r.bit_xor g.bit_xor
  bit_xor = level d fits (code.XOR, chain.Xor) _ refl refl (λ h. g.bit_and (le h) (lu h)) bit_and clash_xor refl refl refl

  bit_or : Law kind_of Tall limit d false ou first_expr clash_or [] (r.bit_or pe pu) (λ h. g.bit_or (le h) (lu h) d)
  unfolding r.bit_or g.bit_or
  bit_or = level d fits (code.OR, chain.Or) _ refl refl (λ h. g.bit_xor (le h) (lu h)) bit_xor clash_or refl refl refl

  logical_and : Law kind_of Tall limit d false ou first_expr clash_logical_and [] (r.logical_and pe pu) (λ h. g.logical_and (le h) (lu h) d)
  unfolding r.logical_and g.logical_and
  logical_and = level d fits (code.AND_AND, chain.LogicalAnd) _ refl refl (λ h. g.bit_or (le h) (lu h)) bit_or clash_logical_and refl refl refl

  logical_or : Law kind_of Tall limit d false ou first_expr clash_logical_or [] (r.logical_or pe pu) (λ h. g.logical_or (le h) (lu h) d)
  unfolding r.logical_or g.logical_or
  logical_or = level d fits (code.OR_OR, chain.LogicalOr) _ refl refl (λ h. g.logical_and (le h) (lu h)) logical_and clash_logical_or refl refl refl

  branches : Law kind_of Tall limit d false true (code.QUESTION ∷ []) clash_expr [] (r.branches pe pu) (λ h. g.branches (le h) (lu h) d)
  unfolding r.branches g.branches
  branches = grow clash_expr [] refl refl (
      bind _ _ d (token.word d fits code.QUESTION refl) (λ t. bind _ _ d E (λ x. bind _ _ d (token.word d fits code.COLON refl) (λ u. bind _ _ d E (λ y. leaf.pure _ d) refl refl) refl refl) refl refl) refl refl)

  pub whole : Law kind_of Tall limit d false ou first_expr clash_expr [] (r.whole pe pu) (λ h. g.whole (le h) (lu h) d)
  unfolding r.whole g.whole
  whole = grow clash_expr [] refl refl (
      bind _ _ d logical_or (λ c. bind _ _ d
      (choose (code.QUESTION ∷ []) _ _ d (bind _ _ d branches (λ b. leaf.pure _ d) refl refl) (leaf.pure _ d) refl refl refl)
      (λ two. leaf.pure _ d) refl refl) refl refl)
