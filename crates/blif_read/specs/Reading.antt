-- What an answer of the reader says.
use Rattle.std.specs.Prelude.{◌≡◌, ℕ, List, Result, Ok, Err}
use Rattle.blif_read.specs.declared.directives.Block.{Block}
use Rattle.blif_read.specs.declared.netlist.Netlist.{Netlist}
use Rattle.blif_read.specs.declared.reading.NetError.{NetError}
use Rattle.blif_read.specs.declared.reading.NetError.TheVariants.{Refused, NoMemory}
use Rattle.blif_read.specs.declared.refusals.Refusal.{Refusal}
use Rattle.blif_read.specs.Directives.{Name}
use Rattle.blif_read.specs.Netlists.{Parts, parts}
use Rattle.blif_read.specs.Valid.{IsValid}
use Rattle.blif_read.specs.Checking.{NetsBelow}
use Rattle.blif_read.specs.Refusals.{most_nets}

-- a netlist as plain data
abbrev pub parts_of : Netlist → Parts
parts_of n = record { nets = n.nets; inputs = n.inputs; outputs = n.outputs; clock = n.clock; covers = n.covers; latches = n.latches }

-- the answer is the netlist or the refusal that the meaning tells; want of memory says nothing
abbrev pub IsReading : Result Netlist NetError → Result Parts Refusal → Type 0
IsReading (Ok n) meaning = meaning ≡ Ok (parts_of n)
IsReading (Err (Refused code line)) meaning = meaning ≡ Err (record { code = code; line = line })
IsReading (Err NoMemory) meaning = Unit {0}

-- directives that make a netlist
pub record MakesNetlist (known : List Name) (blocks : List (Block ℕ)) : Type 0 where
  pub below : NetsBelow most_nets blocks
  pub valid : IsValid (parts known blocks)
