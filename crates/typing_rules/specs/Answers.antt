-- What the code answers, by what is defined: the result, the refusal, or want of memory.
use Rattle.std.specs.Prelude.{◌≡◌, ℕ, List, Vec, Result, Ok, Err}
use Rattle.std.specs.declared.alloc.Global.{Global}
use Rattle.vera_ast.specs.declared.refusal.FrontError.{FrontError}
use Rattle.vera_ast.specs.declared.refusal.FrontError.TheVariants.{Refused, NoMemory}
use Rattle.typing_rules.specs.Checked.{Checked}

-- the defined result or refusal, where memory isn't asked for
abbrev pub answered : {A : Type 0} → Checked A → Result A FrontError
answered (Ok a) = Ok a
answered (Err r) = Err (Refused r)

-- the defined result or refusal; or memory ran out
abbrev pub Answers : {A : Type 0} → Checked A → Result A FrontError → Type 0
Answers defined (Ok a) = defined ≡ Ok a
Answers defined (Err (Refused r)) = defined ≡ Err r
Answers defined (Err NoMemory) = Unit {0}

-- a vector as the list of its items
abbrev pub with_items : {A E : Type 0} → Result (Vec A Global) E → Result (List A) E
with_items (Ok all) = Ok all.items
with_items (Err e) = Err e
