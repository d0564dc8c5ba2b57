-- The numbers of statuses.
use Rattle.std.specs.Prelude.{ℕ}
use Rattle.run_rules.specs.declared.status.Status.{Status}
use Rattle.run_rules.specs.declared.status.Status.TheVariants.{Passed, Words, Source, Netlist, Link, Fault, Spent, ReadFault, WriteFault, NoMemory, TooLong}

abbrev pub number_of : Status → ℕ
number_of Passed = 0
number_of Words = 2
number_of Source = 3
number_of Netlist = 4
number_of Link = 5
number_of Fault = 6
number_of Spent = 7
number_of ReadFault = 8
number_of WriteFault = 9
number_of NoMemory = 10
number_of TooLong = 12
