-- What a device keeps, and what its callers see of it.
use Rattle.std.specs.Prelude.{◌≡◌, true, length}
use Rattle.blif_read.specs.Reading.{parts_of}
use Rattle.blif_device.specs.declared.device.Device.TheInside.{Inside}
use Rattle.blif_device.specs.Devices.{State, TellsSettled}
use Rattle.blif_device.specs.Sources.{IsTable, table_reads}
use Rattle.blif_device.specs.Orders.{IsOrder}

abbrev pub state_of : Inside → State
state_of d = record { netlist = parts_of d.netlist; driven = d.driven.items; held = d.held.items; values = d.values.items; settled = d.settled }

pub record IsSound (d : Inside) : Type 0 where
  pub table : IsTable (parts_of d.netlist) d.sources.items
  pub order : IsOrder (table_reads d.netlist.covers d.sources.items) (length d.sources.items) d.order.items
  pub driven_size : length d.driven.items ≡ length d.netlist.nets
  pub held_size : length d.held.items ≡ length d.netlist.latches
  pub values_size : length d.values.items ≡ length d.netlist.nets
  pub tells : d.settled ≡ true → TellsSettled (state_of d)
