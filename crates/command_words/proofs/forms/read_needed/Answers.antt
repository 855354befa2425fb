use Rattle.std.proofs.Common.{map}
use Rattle.std.specs.String.{string_bytes}
use Rattle.command_words.specs.Settings.{settings, values}
use Rattle.command_words.proofs.Givens.{needed_twice}
use Rattle.command_words.proofs.forms.read_needed.Goals as goal

pub returns-in-Twice-clause-number : goal.returns-in-Twice-clause-number
returns-in-Twice-clause-number c = needed_twice c.args.least c.args.most (values c.args.name.now (settings (map (λ w. string_bytes w) c.args.words.now)))
    c.in-Twice.ensures
