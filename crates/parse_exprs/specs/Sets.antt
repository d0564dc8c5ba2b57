-- The codes with which productions begin, in the order in which the grammar lists them.
use Rattle.std.specs.Prelude.{ℕ, List, [], ◌∷◌, ◌++◌}
use Rattle.vera_ast.specs.declared.codes.TheConstants as code

-- the names of the built-in calls
abbrev pub call_words : List ℕ
call_words =
    code.SYNC ∷ code.PRINTF ∷ code.SPRINTF ∷ code.EXIT ∷ code.FLAG ∷ code.GET_CYCLE ∷ code.ALLOC ∷ code.SEMAPHORE_GET ∷ code.SEMAPHORE_PUT ∷ code.MAILBOX_PUT ∷ code.MAILBOX_GET ∷
    code.REGION_ENTER ∷ code.REGION_EXIT ∷ code.TRIGGER ∷ code.WAIT_CHILD ∷ code.WAIT_VAR ∷ code.CAST_ASSIGN ∷ []

-- their modes
abbrev pub mode_words : List ℕ
mode_words =
    code.WAIT ∷ code.NO_WAIT ∷ code.COPY_WAIT ∷ code.COPY_NO_WAIT ∷ code.SEMAPHORE ∷ code.MAILBOX ∷ code.REGION ∷ code.ALL_MODE ∷ code.ANY_MODE ∷ code.ORDER ∷ code.CHECK ∷
    code.ONE_SHOT ∷ code.ONE_BLAST ∷ code.HAND_SHAKE ∷ code.ON ∷ code.OFF ∷ []

-- what stands for a name at the front of a postfix expression
abbrev pub name_words : List ℕ
name_words = code.NAME ∷ (call_words ++ mode_words)

-- a postfix expression at the start of a statement
abbrev pub first_post : List ℕ
first_post = code.NUMBER ∷ code.STRING_LITERAL ∷ (name_words ++ code.NULL ∷ code.THIS ∷ code.SUPER ∷ code.NEW ∷ code.LEFT_PARENTHESIS ∷ [])

-- a postfix expression elsewhere
abbrev pub first_free : List ℕ
first_free = first_post ++ code.LEFT_BRACE ∷ []

-- the operators that stand before their operand
abbrev pub first_unary : List ℕ
first_unary = code.NOT ∷ code.TILDE ∷ code.MINUS ∷ code.PLUS ∷ code.AND ∷ code.OR ∷ code.XOR ∷ code.NAND ∷ code.NOR ∷ code.XNOR ∷ []

abbrev pub first_expr : List ℕ
first_expr = first_unary ++ first_free

abbrev pub first_suffix : List ℕ
first_suffix = code.DOT ∷ code.LEFT_BRACKET ∷ code.LEFT_PARENTHESIS ∷ []

-- a type that doesn't begin with a name
abbrev pub first_own_type : List ℕ
first_own_type = code.INTEGER ∷ code.BIT ∷ code.REG ∷ code.STRING ∷ code.EVENT ∷ []

abbrev pub first_type : List ℕ
first_type = first_own_type ++ code.NAME ∷ []

abbrev pub first_param : List ℕ
first_param = code.VAR ∷ first_type
