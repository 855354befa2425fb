-- What stands first in a file.
use Rattle.std.specs.Prelude.{ℕ, List, Result, Ok, Err}
use Rattle.log_groups.specs.declared.readers.FirstItem.TheVariants.{NotALog as FirstNotALog, OtherVersion as FirstOtherVersion, BadFront as FirstBadFront}
use Rattle.log_groups.specs.Steps.{IsFirst}
use Rattle.site_log.specs.declared.ends.OpenEnd.{OpenEnd}
use Rattle.site_log.specs.declared.ends.OpenEnd.TheVariants.{NotALog, OtherVersion, BadFront, NoMemory}
use Rattle.site_log.specs.declared.firsts.FirstFound.{FirstFound}
use Rattle.site_log.specs.declared.firsts.FirstFound.TheVariants.{New, Log}
use Rattle.site_log.specs.News.{IsNew}
use Rattle.site_log.specs.Reads.{HasFront}

-- what the bytes of a file are told to be by what stands first in them: a new file, a log of this front, or neither, and why
abbrev pub TellsFirst : List ℕ → Result FirstFound OpenEnd → Type 0
TellsFirst bytes (Ok New) = IsNew bytes
TellsFirst bytes (Ok (Log front)) = HasFront bytes front
TellsFirst bytes (Err NotALog) = IsFirst bytes FirstNotALog × (IsNew bytes → ⊥)
TellsFirst bytes (Err (OtherVersion version)) = IsFirst bytes (FirstOtherVersion version)
TellsFirst bytes (Err BadFront) = IsFirst bytes FirstBadFront
TellsFirst bytes (Err NoMemory) = Unit {0}
TellsFirst bytes (Err _) = ⊥
