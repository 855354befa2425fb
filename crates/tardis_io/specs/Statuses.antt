-- The numbers of the statuses.
use Rattle.std.specs.Prelude.{ℕ}
use Rattle.tardis_io.specs.declared.statuses.Status.{Status}
use Rattle.tardis_io.specs.declared.statuses.Status.TheVariants.{Ok, Usage, ReadFault, WriteFault, Cut, LongFrame, NoMemory, GateFault, DialFault, Spent}
use Rattle.tardis_io.specs.declared.statuses.Status.TheVariants.{DiskFault, BadExport, NoState}

-- the number with which a process ends
abbrev pub status_number : Status → ℕ
status_number Ok = 0
status_number Usage = 1
status_number ReadFault = 2
status_number WriteFault = 3
status_number Cut = 4
status_number (LongFrame len) = 5
status_number NoMemory = 6
status_number GateFault = 7
status_number DialFault = 8
status_number Spent = 9
status_number DiskFault = 10
status_number BadExport = 11
status_number (NoState state) = 12
