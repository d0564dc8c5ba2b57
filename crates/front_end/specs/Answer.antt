-- What the code answers, by what is defined.
use Rattle.std.specs.Prelude.{ℕ, List, Result, Ok, Err}
use Rattle.vera_ast.specs.declared.refusal.FrontError.{FrontError}
use Rattle.vera_ast.specs.declared.refusal.FrontError.TheVariants.{Refused, NoMemory}
use Rattle.vera_ast.specs.declared.token.Token.{Token}
use Rattle.vera_ast.specs.declared.typed.file.TypedTree.{TypedTree}
use Rattle.front_end.specs.declared.purpose.Purpose.{Purpose}
use Rattle.front_end.specs.Sources.{IsSource, IsOfTokens}

-- the bytes' typed tree, or their refusal; or memory ran out
abbrev pub ReadsSource : Purpose → List ℕ → Result TypedTree FrontError → Type 0
ReadsSource purpose bytes (Ok tree) = IsSource purpose bytes (Ok tree)
ReadsSource purpose bytes (Err (Refused refusal)) = IsSource purpose bytes (Err refusal)
ReadsSource purpose bytes (Err NoMemory) = Unit {0}

-- the same of the tokens
abbrev pub ReadsTokens : Purpose → List Token → Result TypedTree FrontError → Type 0
ReadsTokens purpose tokens (Ok tree) = IsOfTokens purpose tokens (Ok tree)
ReadsTokens purpose tokens (Err (Refused refusal)) = IsOfTokens purpose tokens (Err refusal)
ReadsTokens purpose tokens (Err NoMemory) = Unit {0}
