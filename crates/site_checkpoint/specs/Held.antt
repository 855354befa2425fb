-- What holds of a checkpoint's memory at all times.
use Rattle.site_checkpoint.specs.declared.Checkpoint.TheInside.{Inside}
use Rattle.site_checkpoint.specs.Loaded.{Loaded}
use Rattle.site_checkpoint.specs.Stands.{StandsForTold}

-- what the memory is seen as
abbrev pub seen : Inside → Loaded
seen a = record { store = a.store; root = a.root }

-- it stands for something that was told
abbrev pub IsHeld : Inside → Type 0
IsHeld a = StandsForTold (seen a)
