-- A netlist that stands for none.
use Rattle.std.specs.Prelude.{◌≡◌, [], None}
use Rattle.blif_read.specs.Netlists.{Parts}

-- no net at all
pub record HasNoNets (p : Parts) : Type 0 where
  pub nets : p.nets ≡ []
  pub inputs : p.inputs ≡ []
  pub outputs : p.outputs ≡ []
  pub clock : p.clock ≡ None
