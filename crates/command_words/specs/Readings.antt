-- What is read of words.
use Rattle.std.specs.Prelude.{◌≡◌, Option, Some, None, Result, Ok, Err}
use Rattle.command_words.specs.declared.commands.Command.{Command}
use Rattle.command_words.specs.declared.commands.WordsFault.{WordsFault}
use Rattle.command_words.specs.declared.commands.WordsFault.TheVariants.{Usage, NoMemory}
use Rattle.command_words.specs.Forms.{Form, AsRun, AsShell, AsAudit, AsWorld, AsServe, AsLoad, AsAuto, AsDurable, AsExport, AsImport}
use Rattle.command_words.specs.Commands.{form_of}
use Rattle.command_words.specs.Places.{HasPlace}

-- a form whose texts are copied, which takes memory
abbrev pub IsCopied : Form → Type 0
IsCopied (AsRun place) = ⊥
IsCopied (AsShell place) = ⊥
IsCopied (AsAudit place) = ⊥
IsCopied (AsWorld sites) = ⊥
IsCopied (AsServe serving) = Unit {0}
IsCopied (AsLoad start steps) = ⊥
IsCopied (AsAuto place rules) = Unit {0}
IsCopied (AsDurable place path) = Unit {0}
IsCopied (AsExport place state) = ⊥
IsCopied AsImport = ⊥

-- a command with its place, where the words have its form; else why there is none
abbrev pub IsReading : Option Form → Result Command WordsFault → Type 0
IsReading said (Ok command) = (said ≡ Some (form_of command)) × HasPlace command
IsReading said (Err Usage) = said ≡ None
IsReading said (Err NoMemory) = (form : Form) × ((said ≡ Some form) × IsCopied form)
