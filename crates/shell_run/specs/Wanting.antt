-- When there may be no memory for reading a line.
use Rattle.std.specs.Prelude.{◌≡◌, ℕ, false, List, Some}
use Rattle.tardis_base.specs.Plain.{Event}
use Rattle.shell_run.specs.Answers.{event_of_line, is_read_without_memory}

-- the line asks something that isn't read without memory
pub record WantsMemory (line : List ℕ) : Type 0 where
  pub event : Event
  pub asked : event_of_line line ≡ Some event
  pub wants : is_read_without_memory event.1 ≡ false
