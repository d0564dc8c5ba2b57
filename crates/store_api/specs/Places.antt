-- Places and contents.
use Rattle.std.specs.Prelude.{Bool, false, Option, None, ◌==◌}
use Rattle.store_api.specs.declared.loc.Loc.{Loc}
use Rattle.store_api.specs.declared.loc.Loc.TheVariants.{Global, Sample}
use Rattle.store_api.specs.declared.val.Val.{Val}

-- whether two places are one
abbrev pub loc_eq : Loc → Loc → Bool
loc_eq (Global a) (Global b) = a == b
loc_eq (Sample a) (Sample b) = a == b
loc_eq _ _ = false

-- What stands at each place. A place that was never written has no value.
abbrev pub Contents : Type 0
Contents = Loc → Option Val

-- contents in which nothing was written
abbrev pub nothing_written : Contents
nothing_written = λ l. None
