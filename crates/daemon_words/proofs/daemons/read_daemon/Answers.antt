use Rattle.std.proofs.Common.{map, sym}
use Rattle.std.specs.String.{string_bytes}
use Rattle.command_words.specs.Settings.{settings}
use Rattle.daemon_words.specs.Daemons.{daemon_by}
use Rattle.daemon_words.proofs.daemons.read_daemon.Goals as goal

pub returns-in-Err-clause-memory : goal.returns-in-Err-clause-memory
returns-in-Err-clause-memory c = λ is. (daemon_by (settings (map (λ w. string_bytes w) c.args.words.now)) c.in-Some.asked, sym c.in-Some.ensures.form)
