-- What a table of roles says of a netlist's nets.
use Rattle.std.specs.Prelude.{◌≡◌, ℕ, Bool, false, List, All, slice_index_or, slice_get, Option, Some, None}
use Rattle.std.specs.Bool.{Decides}
use Rattle.vera_ast.specs.declared.tree.interfaces.Direction.{Direction}
use Rattle.vera_ast.specs.declared.tree.interfaces.Direction.TheVariants.{Input, Output}
use Rattle.blif_read.specs.Netlists.{Parts}
use Rattle.run_rules.specs.Links.{IsDrivable, IsSampled}
use Rattle.signal_link.specs.declared.roles.Roles.{Roles}

-- exactly the nets that may be driven have a mark
pub record AreDrivable (p : Parts) (marks : List Bool) : Type 0 where
  pub marked : (net : ℕ) → Decides (slice_index_or marks net false) (IsDrivable p net)

-- exactly the nets that may be sampled have a mark
pub record AreSampled (p : Parts) (marks : List Bool) : Type 0 where
  pub marked : (net : ℕ) → Decides (slice_index_or marks net false) (IsSampled p net)

-- the name of the netlist's clock
abbrev pub IsClockName : Parts → Option (List ℕ) → Type 0
IsClockName p None = p.clock ≡ None
IsClockName p (Some name) = (net : ℕ) × (p.clock ≡ Some net) × (slice_get p.nets net ≡ Some name)

pub record AreRoles (p : Parts) (r : Roles) : Type 0 where
  pub drivable : AreDrivable p r.drivable.items
  pub sampled : AreSampled p r.sampled.items
  pub clock : IsClockName p r.clock_name

-- each of the nets may be used in this direction
abbrev pub UsedAs : Parts → Direction → List ℕ → Type 0
UsedAs p Output nets = All (IsDrivable p) nets
UsedAs p Input nets = All (IsSampled p) nets
