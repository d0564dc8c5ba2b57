use Rattle.grammar_laws.specs.Words.{begins}
use Rattle.grammar_laws.specs.Readers.{many_from}
use Rattle.grammar_laws.specs.ExampleGrammar.{code}
use Rattle.grammar_laws.proofs.Loops as loops
use Rattle.grammar_laws.proofs.example.example_loop_goes_on.Goals as goal

pub returns-clause-begins : goal.returns-clause-begins
returns-clause-begins c = λ codes p ts. loops.begin (many_from code codes p) ts

pub returns-clause-goes_on : goal.returns-clause-goes_on
returns-clause-goes_on c = λ codes p found total n at ts a mid lt b h. loops.goes_on (begins code codes) p (many_from code codes p) (loops.many_over code codes p) (loops.many_turn code codes p) found total n at ts a mid lt b h

pub returns-clause-stops : goal.returns-clause-stops
returns-clause-stops c = λ codes p found total n at ts e lt b h. loops.stops (begins code codes) p (many_from code codes p) (loops.many_over code codes p) (loops.many_turn code codes p) found total n at ts e lt b h

pub returns-clause-ends : goal.returns-clause-ends
returns-clause-ends c = λ codes p found total n at ts b. loops.ends (begins code codes) p (many_from code codes p) (loops.many_over code codes p) (loops.many_turn code codes p) found total n at ts b

pub returns-clause-over : goal.returns-clause-over
returns-clause-over c = λ codes p found total n at ts le. loops.is_done (begins code codes) p (many_from code codes p) (loops.many_over code codes p) (loops.many_turn code codes p) found total n at ts le
