use Rattle.std.proofs.Common.{map, codes}
use Rattle.std.specs.String.{string_bytes}
use Rattle.command_words.specs.Settings.{settings, values}
use Rattle.daemon_words.proofs.Givens.{flag_twice}
use Rattle.daemon_words.proofs.collecting.read_keep_history.Goals as goal

pub returns-in-Twice : goal.returns-in-Twice
returns-in-Twice c = flag_twice (values (codes "--keep-history") (settings (map (λ w. string_bytes w) c.args.words.now))) c.in-Twice.ensures
