-- Whole files of the small grammar.
use Rattle.std.proofs.Common.{◌≡◌, ℕ, true, List, [], ◌∷◌, Ok, Err, refl}
use Rattle.grammar_laws.specs.declared.fault.Fault.TheVariants.{Stop}
use Rattle.grammar_laws.specs.declared.fault.Why.TheVariants.{Syntax, Depth}
use Rattle.grammar_laws.specs.Words.{Cell, bare}
use Rattle.grammar_laws.specs.Readers as readers
use Rattle.grammar_laws.specs.Answers.{Derived, Parses, IsSyntaxPlace, IsTooDeep}
use Rattle.grammar_laws.specs.ExampleGrammar as g
use Rattle.grammar_laws.specs.ExampleGrammar.{Token, Tree, code}
use Rattle.grammar_laws.specs.ExampleReading as r
use Rattle.grammar_laws.specs.ExampleRows.{name, other, semicolon, opening, closing, paren, assign, block_of_one}
use Rattle.grammar_laws.proofs.Whole.{whole_ok, whole_only, whole_syntax, whole_deep, one_value}
use Rattle.grammar_laws.proofs.ExampleLevels.{heights, file_law, enough}

pub file_ok : (limit : ℕ) (ts : List Token) (tree : List Tree) (rest : List Token) → r.file limit ts ≡ Ok (tree, rest) → Parses (Derived g.file) limit ts tree
unfolding r.file
file_ok = whole_ok Token (List Tree) code heights true true (5 ∷ []) (5 ∷ []) [] r.blocks g.file file_law enough

pub file_only : (limit : ℕ) (ts : List Token) (tree : List Tree) → Parses (Derived g.file) limit ts tree → r.file limit ts ≡ Ok (tree, [])
unfolding r.file
file_only = whole_only Token (List Tree) code heights true true (5 ∷ []) (5 ∷ []) [] r.blocks g.file file_law enough

pub file_syntax : (limit left : ℕ) (ts : List Token) → r.file limit ts ≡ Err (Stop Syntax left) → IsSyntaxPlace (Derived g.file) limit ts left
unfolding r.file
file_syntax limit left ts = whole_syntax Token (List Tree) code heights true true (5 ∷ []) (5 ∷ []) [] r.blocks g.file file_law enough limit ts left

pub file_deep : (limit left : ℕ) (ts : List Token) → r.file limit ts ≡ Err (Stop Depth left) → IsTooDeep (Derived g.file) limit ts left
unfolding r.file
file_deep limit left ts = whole_deep Token (List Tree) code heights true true (5 ∷ []) (5 ∷ []) [] r.blocks g.file file_law enough limit ts left

pub one_tree : (w1 w2 : List (Cell Token)) (a b : List Tree) → Derived g.file w1 a → Derived g.file w2 b → bare w1 ≡ bare w2 → a ≡ b
one_tree = one_value Token (List Tree) code heights true true (5 ∷ []) (5 ∷ []) [] r.blocks g.file file_law enough

-- ---- rows

pub declaration : r.file 0 (opening ∷ name ∷ other ∷ []) ≡ Err (Stop Syntax 0)
unfolding r.file r.blocks r.block r.decl r.declared r.stmt r.expr readers.whole readers.finished readers.and_then readers.either readers.word readers.many_from readers.firsts_from readers.past_stray
declaration = refl

pub one_block : r.file 0 (opening ∷ name ∷ other ∷ semicolon ∷ closing ∷ []) ≡ Ok (block_of_one ∷ [], [])
unfolding r.file r.blocks r.block r.decl r.declared r.stmt r.expr readers.whole readers.finished readers.and_then readers.either readers.word readers.many_from readers.firsts_from readers.past_stray
one_block = refl

pub statement : r.file 0 (opening ∷ name ∷ assign ∷ []) ≡ Err (Stop Depth 2)
unfolding r.file r.blocks r.block r.decl r.declared r.stmt r.expr readers.whole readers.finished readers.and_then readers.either readers.word readers.many_from readers.firsts_from readers.past_stray
statement = refl

pub neither : r.file 0 (opening ∷ name ∷ paren ∷ []) ≡ Err (Stop Syntax 1)
unfolding r.file r.blocks r.block r.decl r.declared r.stmt r.expr readers.whole readers.finished readers.and_then readers.either readers.word readers.many_from readers.firsts_from readers.past_stray
neither = refl

pub at_the_end : r.file 0 (opening ∷ name ∷ []) ≡ Err (Stop Syntax 0)
unfolding r.file r.blocks r.block r.decl r.declared r.stmt r.expr readers.whole readers.finished readers.and_then readers.either readers.word readers.many_from readers.firsts_from readers.past_stray
at_the_end = refl

pub deeper : r.file 1 (opening ∷ name ∷ assign ∷ name ∷ []) ≡ Err (Stop Depth 1)
unfolding r.file r.blocks r.block r.decl r.declared r.stmt r.expr r.body r.post_stmt r.post r.prim r.named r.suffixed r.assigned readers.whole readers.finished readers.and_then readers.either readers.word readers.many_from readers.firsts_from readers.past_stray
deeper = refl
