-- One drive joins what its signal was last driven with, and one sample the others.
use Rattle.std.specs.Prelude.{ℕ, ◌==◌, List, Option, Some, None, if◌then◌else◌}
use Rattle.four_state.specs.declared.bit.Bit.{Bit}
use Rattle.store_api.specs.declared.loc.Loc.TheVariants.{Sample}
use Rattle.store_api.specs.declared.val.Val.TheVariants.{Bits}
use Rattle.store_api.specs.Places.{Contents}
use Rattle.slice_core.specs.Walks.{put_at}
use Rattle.blif_device.specs.Valuations.{Valuation}
use Rattle.run_rules.specs.declared.drive.Drive.{Drive}
use Rattle.run_rules.specs.Drives.{meet}
use Rattle.run_rules.specs.Nets.{bits_of}
use Rattle.signal_link.specs.declared.linking.SignalNets.{SignalNets}
use Rattle.plain_run.specs.declared.outside.LastDrive.{LastDrive}

-- the drive's bits, which meet those of the last drive where both are of one cycle
abbrev pub joined : Option LastDrive → Drive → List Bit
joined None d = d.bits
joined (Some l) d = if l.cycle == d.cycle then meet l.bits d.bits else d.bits

-- the contents with a sample of these nets, where they are an input signal's
abbrev pub sample_taken : Valuation → SignalNets → ℕ → Contents → Contents
sample_taken value s n before = if s.output then before else put_at before (Sample n) (Bits (bits_of value s.nets))
