use Rattle.std.proofs.Common.{map}
use Rattle.std.specs.String.{string_bytes}
use Rattle.command_words.specs.Settings.{settings, values}
use Rattle.daemon_words.proofs.Givens.{number_or_none_twice}
use Rattle.daemon_words.proofs.values.read_number_or_none.Goals as goal

pub returns-in-Twice : goal.returns-in-Twice
returns-in-Twice c = number_or_none_twice c.args.least c.args.most (values c.args.name.now (settings (map (λ w. string_bytes w) c.args.words.now)))
    c.in-Twice.ensures
