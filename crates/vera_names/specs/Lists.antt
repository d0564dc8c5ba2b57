-- Lists that are made part by part.
use Rattle.std.specs.Prelude.{List, ◌++◌, Ok, Err}
use Rattle.typing_rules.specs.Checked.{Checked}

-- what is done, in front of what is left
abbrev pub behind : {B : Type 0} → List B → Checked (List B) → Checked (List B)
behind done (Ok more) = Ok (done ++ more)
behind done (Err r) = Err r
