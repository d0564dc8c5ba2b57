-- Function values that read as a parser does. C is the type of what is left to read, as a cursor over a slice, and `left` the tokens in it, as
-- `λ (c : Cursor). c.rest.now`. A rule that calls a nesting rule through a function value requires
--     Nests {T = Token} left (reading.expr self.now.depth) self.now.depth (F.pre self.now.expr) (F.post self.now.expr)
-- and a loop over a closure ensures for each parser p
--     Follows {T = Token} left p (F.pre item) (F.post item) → Reads (many code codes.now p old_rest) result new_rest
-- which is proved by proofs/Loops.
use Rattle.std.specs.Prelude.{ℕ, List, Result}
use Rattle.std.specs.declared.alloc.Global.{Global}
use denote.Ref.{MutBor}
use Rattle.grammar_laws.specs.declared.fault.Fault.{Fault}
use Rattle.grammar_laws.specs.Readers.{Parser, Reads}

-- at this depth
pub record Nests {T A C : Type 0} (left : C → List T) (p : Parser T A) (depth : ℕ) (pre : Global → MutBor C → ℕ → Type 0)
    (post : Global → MutBor C → ℕ → Result A Fault → MutBor C → Type 0) : Type 0 where
  pub callable : (alloc : Global) (old : MutBor C) → pre alloc old depth
  pub reads : (alloc : Global) (old new : MutBor C) (r : Result A Fault) → post alloc old depth r new → Reads (p (left old.now)) r (left new.now)

-- once or more often
pub record Follows {T A C : Type 0} (left : C → List T) (p : Parser T A) (pre : MutBor C → Type 0) (post : MutBor C → Result A Fault → MutBor C → Type 0) : Type 0 where
  pub callable : (old : MutBor C) → pre old
  pub reads : (old new : MutBor C) (r : Result A Fault) → post old r new → Reads (p (left old.now)) r (left new.now)
