use Rattle.std.proofs.Common.{rules, sym}
use Rattle.command_words.proofs.reading.read_command.Goals as goal

pub returns-in-None : goal.returns-in-None
returns-in-None c = sym (c.in-None.ensures.form (search rules) (search rules) (search rules))
