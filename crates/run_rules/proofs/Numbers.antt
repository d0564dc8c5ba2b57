-- Each status has a number of its own.
use Rattle.std.proofs.Common.{◌≡◌, refl, arith}
use Rattle.run_rules.specs.declared.status.Status.{Status}
use Rattle.run_rules.specs.declared.status.Status.TheVariants.{Passed, Words, Source, Netlist, Link, Fault, Spent, ReadFault, WriteFault, NoMemory, TooLong}
use Rattle.run_rules.specs.Statuses.{number_of}

pub number_of-own : (one other : Status) → number_of one ≡ number_of other → one ≡ other
number_of-own Passed Passed h = refl
number_of-own Words Words h = refl
number_of-own Source Source h = refl
number_of-own Netlist Netlist h = refl
number_of-own Link Link h = refl
number_of-own Fault Fault h = refl
number_of-own Spent Spent h = refl
number_of-own ReadFault ReadFault h = refl
number_of-own WriteFault WriteFault h = refl
number_of-own NoMemory NoMemory h = refl
number_of-own TooLong TooLong h = refl
number_of-own _ _ h = absurd (omega arith)
