-- The numbers with which the program ends.
use Rattle.std.specs.Prelude.{ℕ}
use Rattle.plc_top.specs.declared.status.Status.{Status}
use Rattle.plc_top.specs.declared.status.Status.TheVariants.{Done, Refused, Usage, ReadFault, WriteFault, NoMemory}

abbrev pub number : Status → ℕ
number Done = 0
number Refused = 1
number Usage = 2
number ReadFault = 3
number WriteFault = 4
number NoMemory = 5
