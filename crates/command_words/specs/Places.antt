-- Which places there are.
use Rattle.std.specs.Prelude.{ℕ, ◌≤◌}
use Rattle.tardis_base.specs.declared.records.Limits.{Limits}
use Rattle.tardis_base.specs.Sizes.{most_sites, usual_kept, usual_pairs, usual_sessions, longest_trail}
use Rattle.command_words.specs.declared.commands.Place.{Place}
use Rattle.command_words.specs.declared.commands.Command.{Command}
use Rattle.command_words.specs.declared.commands.Command.TheVariants.{Run, Shell, Audit, World, Serve, Load, Auto, Durable, Export, Import}

-- a site of 1 to 16 sites
pub record IsPlace (place : Place) : Type 0 where
  pub some : 1 ≤ place.sites
  pub most : place.sites ≤ most_sites
  pub first : 1 ≤ place.site
  pub last : place.site ≤ place.sites

-- the command's place is one
abbrev pub HasPlace : Command → Type 0
HasPlace (Run place) = IsPlace place
HasPlace (Shell place) = IsPlace place
HasPlace (Audit place) = IsPlace place
HasPlace (World sites) = (1 ≤ sites) × (sites ≤ most_sites)
HasPlace (Serve plan) = IsPlace plan.place
HasPlace (Load start steps) = Unit {0}
HasPlace (Auto place rules) = IsPlace place
HasPlace (Durable place path) = IsPlace place
HasPlace (Export place state) = IsPlace place
HasPlace Import = Unit {0}

-- the limits of a site that a program runs, by how many sites there are
abbrev pub program_limits : ℕ → Limits
program_limits sites = record { sites = sites; max_kept = usual_kept; max_path = usual_pairs; max_sessions = usual_sessions; max_trail = longest_trail }
