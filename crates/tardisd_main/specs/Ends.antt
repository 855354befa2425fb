-- How a server ends, and with which number.
use Rattle.std.specs.Prelude.{ℕ}
use Rattle.hub.specs.declared.serves.End.{End}
use Rattle.hub.specs.declared.serves.End.TheVariants.{Stopped, Unsettled, Spent as AllTurns}
use Rattle.tardisd_main.specs.declared.endings.GateFault.TheVariants.{Lost}
use Rattle.tardisd_main.specs.declared.endings.FileFault.{FileFault}
use Rattle.tardisd_main.specs.declared.endings.FileFault.TheVariants.{InUse, Refused, Disk, NotALog, OtherVersion, BadFront, OtherSite, OtherLimits, Damaged, Unfit}
use Rattle.tardisd_main.specs.declared.endings.DaemonEnd.{DaemonEnd}
use Rattle.tardisd_main.specs.declared.endings.DaemonEnd.TheVariants.{Told, Checked, Usage, WriteFailed, NoMemory, Gate, File, Spent}

-- 10 where the file or its disk can't be used, 13 where what stands in it isn't the log that is wanted
abbrev pub file_number : FileFault → ℕ
file_number InUse = 10
file_number Refused = 10
file_number Disk = 10
file_number NotALog = 13
file_number (OtherVersion version) = 13
file_number BadFront = 13
file_number (OtherSite place) = 13
file_number (OtherLimits states sessions) = 13
file_number (Damaged place) = 13
file_number (Unfit place) = 13

-- as those of `tardis`
abbrev pub end_number : DaemonEnd → ℕ
end_number Told = 0
end_number (Checked check) = 0
end_number Usage = 1
end_number WriteFailed = 3
end_number NoMemory = 6
end_number (Gate fault) = 7
end_number Spent = 9
end_number (File fault) = file_number fault

-- how a server ends whose connections ended so
abbrev pub end_by : End → DaemonEnd
end_by Stopped = Gate Lost
end_by AllTurns = Spent
end_by Unsettled = File Disk
