-- What an answer of the making of a device says.
use Rattle.std.specs.Prelude.{ℕ, Result, Ok, Err}
use Rattle.blif_read.specs.Netlists.{Parts}
use Rattle.blif_device.specs.declared.device.DeviceError.{DeviceError}
use Rattle.blif_device.specs.declared.device.DeviceError.TheVariants.{Loop, NoMemory}
use Rattle.blif_device.specs.Settled.{HasOneSettled}
use Rattle.blif_device.specs.Rings.{IsOnRing, IsFirstOnRing}
use Rattle.blif_device.specs.Devices.{State, IsNew}

-- a device: no net lies on a ring, and there is exactly one settled valuation whatever is driven and held
pub record IsDevice (n : Parts) (s : State) : Type 0 where
  pub device : IsNew n s
  pub no_ring : (net : ℕ) → IsOnRing n.covers net → ⊥
  pub law : HasOneSettled n

-- the device, or the first net that lies on a ring; want of memory says nothing
abbrev pub IsMaking : Parts → Result State DeviceError → Type 0
IsMaking n (Ok s) = IsDevice n s
IsMaking n (Err (Loop net)) = IsFirstOnRing n.covers net
IsMaking n (Err NoMemory) = Unit {0}
