-- Values of variables and samples in lists, as contents.
use Rattle.std.specs.Prelude.{ℕ, List, Option, Some, None, slice_get, option_map, option_and_then}
use Rattle.four_state.specs.declared.bit.Bit.{Bit}
use Rattle.store_api.specs.declared.loc.Loc.{Loc}
use Rattle.store_api.specs.declared.loc.Loc.TheVariants.{Global, Sample}
use Rattle.store_api.specs.declared.val.Val.{Val}
use Rattle.store_api.specs.declared.val.Val.TheVariants.{Bits}
use Rattle.store_api.specs.Places.{Contents}
use Rattle.slice_core.specs.Walks.{put_at}
use Rattle.plain_run.specs.declared.evaluate.values.Values.{Values}

-- the value with number n, where there is one
abbrev pub value_at : List (Option (List Bit)) → ℕ → Option (List Bit)
value_at values n = option_and_then (λ v. v) (slice_get values n)

abbrev pub contents_of : Values → Contents
contents_of values (Global n) = option_map Bits (value_at values.variables.items n)
contents_of values (Sample n) = option_map Bits (value_at values.samples.items n)

-- what stands at a place, and the contents with bits at it, where the place is built
abbrev pub found_at : Contents → Option Loc → Option Val
found_at c None = None
found_at c (Some l) = c l

abbrev pub written : Option Loc → List Bit → Contents → Contents
written None bits c = c
written (Some l) bits c = put_at c l (Bits bits)
