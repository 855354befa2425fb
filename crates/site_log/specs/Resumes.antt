-- A log that goes on.
use Rattle.std.specs.Prelude.{false}
use Rattle.site_log.specs.declared.resumes.LogEnd.{LogEnd}
use Rattle.site_log.specs.Files.{OpenFile}

-- the file of a log on a disk that ends so
abbrev pub file_at : {K : Type 0} → K → LogEnd → OpenFile K
file_at disk end = record { disk = disk; front = end.front; number = end.number; place = end.place; room = end.room; failed = false }
