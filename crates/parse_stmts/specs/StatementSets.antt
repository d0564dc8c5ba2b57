-- The codes with which the productions of statements begin, in the order in which they are tried.
use Rattle.std.specs.Prelude.{ℕ, List, [], ◌∷◌, ◌++◌}
use Rattle.vera_ast.specs.declared.codes.TheConstants as code
use Rattle.parse_exprs.specs.Sets.{first_expr, first_post, first_suffix}

-- a change of a step
abbrev pub first_change : List ℕ
first_change = code.EQUALS ∷ code.PLUS_EQUALS ∷ code.MINUS_EQUALS ∷ code.PLUS_PLUS ∷ code.MINUS_MINUS ∷ []

abbrev pub first_plain_delay : List ℕ
first_plain_delay = code.NUMBER ∷ code.NAME ∷ []

-- between a drive's signal and its value
abbrev pub drive_signs : List ℕ
drive_signs = code.EQUALS ∷ code.LESS_EQUAL ∷ []

-- a statement that begins with a postfix expression, `soft`, or one of the signs of a window
abbrev pub first_simple : List ℕ
first_simple = first_post ++ code.SOFT ∷ code.AT ∷ code.AT_AT ∷ code.AT_AT_AT ∷ []

abbrev pub loop_words : List ℕ
loop_words = code.WHILE ∷ code.REPEAT ∷ code.FOR ∷ []

abbrev pub jump_words : List ℕ
jump_words = code.BREAK ∷ code.CONTINUE ∷ code.RETURN ∷ code.TERMINATE ∷ []

abbrev pub first_stmt : List ℕ
first_stmt =
    code.LEFT_BRACE ∷ code.SEMICOLON ∷ code.VOID ∷ code.IF ∷ code.WHILE ∷ code.REPEAT ∷ code.FOR ∷ code.CASE ∷ code.BREAK ∷ code.CONTINUE ∷ code.RETURN ∷ code.TERMINATE ∷ code.FORK ∷
    first_simple

abbrev pub first_arm : List ℕ
first_arm = first_expr ++ code.DEFAULT ∷ []

-- what may follow a name with which a statement begins: it goes on, or one of these comes
abbrev pub after_name : List ℕ
after_name = first_suffix ++ (first_change ++ code.SEMICOLON ∷ code.LESS_EQUAL ∷ code.EQUAL ∷ code.NOT_EQUAL ∷ [])

-- what may not follow a statement: a `join` would go on with it
abbrev pub join_words : List ℕ
join_words = code.ALL ∷ code.ANY ∷ code.NONE ∷ []
