-- Each reserved word and each sign, with the name that its number has where the grammar speaks of it.
use Rattle.std.specs.Prelude.{◌≡◌, ℕ, List, [], ◌∷◌, map, Some, codes}
use Rattle.std.specs.List.{slice_get}
use Rattle.vera_ast.specs.Codes.{word_code, sign_code}
use Rattle.vera_ast.specs.Signs.{signs}
use Rattle.vera_ast.specs.declared.codes.TheConstants as code

abbrev pub named_words : List (List ℕ × ℕ)
named_words =
    (codes "enum", code.ENUM) ∷ (codes "class", code.CLASS) ∷ (codes "extends", code.EXTENDS) ∷
    (codes "virtual", code.VIRTUAL) ∷ (codes "task", code.TASK) ∷ (codes "new", code.NEW) ∷
    (codes "function", code.FUNCTION) ∷ (codes "var", code.VAR) ∷ (codes "integer", code.INTEGER) ∷
    (codes "bit", code.BIT) ∷ (codes "reg", code.REG) ∷ (codes "string", code.STRING) ∷
    (codes "event", code.EVENT) ∷ (codes "program", code.PROGRAM) ∷ (codes "interface", code.INTERFACE) ∷
    (codes "input", code.INPUT) ∷ (codes "output", code.OUTPUT) ∷ (codes "CLOCK", code.CLOCK) ∷
    (codes "PHOLD", code.PHOLD) ∷ (codes "PSAMPLE", code.PSAMPLE) ∷ (codes "NHOLD", code.NHOLD) ∷
    (codes "NSAMPLE", code.NSAMPLE) ∷ (codes "coverage_group", code.COVERAGE_GROUP) ∷
    (codes "sample_event", code.SAMPLE_EVENT) ∷ (codes "sync", code.SYNC) ∷ (codes "ANY", code.ANY_MODE) ∷
    (codes "sample", code.SAMPLE) ∷ (codes "state", code.STATE) ∷ (codes "bad_state", code.BAD_STATE) ∷
    (codes "trans", code.TRANS) ∷ (codes "bad_trans", code.BAD_TRANS) ∷ (codes "posedge", code.POSEDGE) ∷
    (codes "void", code.VOID) ∷ (codes "if", code.IF) ∷ (codes "else", code.ELSE) ∷
    (codes "while", code.WHILE) ∷ (codes "repeat", code.REPEAT) ∷ (codes "for", code.FOR) ∷
    (codes "case", code.CASE) ∷ (codes "break", code.BREAK) ∷ (codes "continue", code.CONTINUE) ∷
    (codes "return", code.RETURN) ∷ (codes "terminate", code.TERMINATE) ∷ (codes "fork", code.FORK) ∷
    (codes "join", code.JOIN) ∷ (codes "all", code.ALL) ∷ (codes "any", code.ANY) ∷ (codes "none", code.NONE) ∷
    (codes "soft", code.SOFT) ∷ (codes "default", code.DEFAULT) ∷ (codes "null", code.NULL) ∷
    (codes "this", code.THIS) ∷ (codes "super", code.SUPER) ∷ (codes "printf", code.PRINTF) ∷
    (codes "sprintf", code.SPRINTF) ∷ (codes "exit", code.EXIT) ∷ (codes "flag", code.FLAG) ∷
    (codes "get_cycle", code.GET_CYCLE) ∷ (codes "alloc", code.ALLOC) ∷
    (codes "semaphore_get", code.SEMAPHORE_GET) ∷ (codes "semaphore_put", code.SEMAPHORE_PUT) ∷
    (codes "mailbox_put", code.MAILBOX_PUT) ∷ (codes "mailbox_get", code.MAILBOX_GET) ∷
    (codes "region_enter", code.REGION_ENTER) ∷ (codes "region_exit", code.REGION_EXIT) ∷
    (codes "trigger", code.TRIGGER) ∷ (codes "wait_child", code.WAIT_CHILD) ∷
    (codes "wait_var", code.WAIT_VAR) ∷ (codes "cast_assign", code.CAST_ASSIGN) ∷ (codes "WAIT", code.WAIT) ∷
    (codes "NO_WAIT", code.NO_WAIT) ∷ (codes "COPY_WAIT", code.COPY_WAIT) ∷
    (codes "COPY_NO_WAIT", code.COPY_NO_WAIT) ∷ (codes "SEMAPHORE", code.SEMAPHORE) ∷
    (codes "MAILBOX", code.MAILBOX) ∷ (codes "REGION", code.REGION) ∷ (codes "ALL", code.ALL_MODE) ∷
    (codes "ORDER", code.ORDER) ∷ (codes "CHECK", code.CHECK) ∷ (codes "ONE_SHOT", code.ONE_SHOT) ∷
    (codes "ONE_BLAST", code.ONE_BLAST) ∷ (codes "HAND_SHAKE", code.HAND_SHAKE) ∷ (codes "ON", code.ON) ∷
    (codes "OFF", code.OFF) ∷ []

abbrev pub named_signs : List (List ℕ × ℕ)
named_signs =
    (codes "{", code.LEFT_BRACE) ∷ (codes "}", code.RIGHT_BRACE) ∷ (codes "(", code.LEFT_PARENTHESIS) ∷
    (codes ")", code.RIGHT_PARENTHESIS) ∷ (codes "[", code.LEFT_BRACKET) ∷ (codes "]", code.RIGHT_BRACKET) ∷
    (codes ";", code.SEMICOLON) ∷ (codes ",", code.COMMA) ∷ (codes ".", code.DOT) ∷ (codes ":", code.COLON) ∷
    (codes "?", code.QUESTION) ∷ (codes "#", code.HASH) ∷ (codes "@", code.AT) ∷ (codes "@@", code.AT_AT) ∷
    (codes "@@@", code.AT_AT_AT) ∷ (codes "=", code.EQUALS) ∷ (codes "<=", code.LESS_EQUAL) ∷
    (codes "==", code.EQUAL) ∷ (codes "!=", code.NOT_EQUAL) ∷ (codes "===", code.CASE_EQUAL) ∷
    (codes "!==", code.CASE_NOT_EQUAL) ∷ (codes "=?=", code.WILD_EQUAL) ∷ (codes "!?=", code.WILD_NOT_EQUAL) ∷
    (codes "<", code.LESS) ∷ (codes ">", code.GREATER) ∷ (codes ">=", code.GREATER_EQUAL) ∷
    (codes "<<", code.SHIFT_LEFT) ∷ (codes ">>", code.SHIFT_RIGHT) ∷ (codes "+", code.PLUS) ∷
    (codes "-", code.MINUS) ∷ (codes "*", code.STAR) ∷ (codes "/", code.SLASH) ∷ (codes "%", code.PERCENT) ∷
    (codes "!", code.NOT) ∷ (codes "~", code.TILDE) ∷ (codes "&", code.AND) ∷ (codes "|", code.OR) ∷
    (codes "^", code.XOR) ∷ (codes "~&", code.NAND) ∷ (codes "~|", code.NOR) ∷ (codes "~^", code.XNOR) ∷
    (codes "&&", code.AND_AND) ∷ (codes "||", code.OR_OR) ∷ (codes "+=", code.PLUS_EQUALS) ∷
    (codes "-=", code.MINUS_EQUALS) ∷ (codes "++", code.PLUS_PLUS) ∷ (codes "--", code.MINUS_MINUS) ∷
    (codes "->", code.ARROW) ∷ []

-- the number of each of these words is the one beside it
abbrev pub AreWords : List (List ℕ × ℕ) → Type 0
AreWords [] = Unit {0}
AreWords (p ∷ ps) = (word_code p.0 ≡ p.1) × AreWords ps

-- each of these signs stands in the table of signs at the number beside it, which is its own
abbrev pub AreSigns : List (List ℕ × ℕ) → Type 0
AreSigns [] = Unit {0}
AreSigns (p ∷ ps) = (slice_get signs p.1 ≡ Some p.0) × (sign_code p.1 ≡ p.1) × AreSigns ps

-- what the numbers of these are named for, in the same order
abbrev pub texts_of : List (List ℕ × ℕ) → List (List ℕ)
texts_of names = map (λ p. p.0) names
