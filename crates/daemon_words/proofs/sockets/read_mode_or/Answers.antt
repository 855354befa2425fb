use Rattle.std.proofs.Common.{map, codes}
use Rattle.std.specs.String.{string_bytes}
use Rattle.command_words.specs.Settings.{settings, values}
use Rattle.daemon_words.proofs.Givens.{mode_twice}
use Rattle.daemon_words.proofs.sockets.read_mode_or.Goals as goal

pub returns-in-Twice-clause-mode : goal.returns-in-Twice-clause-mode
returns-in-Twice-clause-mode c = mode_twice 384 (values (codes "--mode") (settings (map (λ w. string_bytes w) c.args.words.now))) c.in-Twice.ensures
