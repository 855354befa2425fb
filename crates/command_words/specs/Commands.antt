-- What a command says, without its texts as values of the program.
use Rattle.std.specs.Prelude.{map}
use Rattle.std.specs.String.{string_bytes}
use Rattle.command_words.specs.declared.commands.Command.{Command}
use Rattle.command_words.specs.declared.commands.Command.TheVariants.{Run, Shell, Audit, World, Serve, Load, Auto, Durable, Export, Import}
use Rattle.command_words.specs.declared.commands.ServePlan.{ServePlan}
use Rattle.command_words.specs.Forms.{Form, AsRun, AsShell, AsAudit, AsWorld, AsServe, AsLoad, AsAuto, AsDurable, AsExport, AsImport, Serving}

abbrev pub serving_of : ServePlan → Serving
serving_of p = record {
  place = p.place;
  listen = string_bytes p.listen;
  links = p.links;
  peers = map (λ w. string_bytes w) p.peers.items;
  rounds = p.rounds;
  tidy = p.tidy;
}

-- the form of a command
abbrev pub form_of : Command → Form
form_of (Run place) = AsRun place
form_of (Shell place) = AsShell place
form_of (Audit place) = AsAudit place
form_of (World sites) = AsWorld sites
form_of (Serve plan) = AsServe (serving_of plan)
form_of (Load start steps) = AsLoad start steps
form_of (Auto place rules) = AsAuto place rules
form_of (Durable place path) = AsDurable place (string_bytes path)
form_of (Export place state) = AsExport place state
form_of Import = AsImport
