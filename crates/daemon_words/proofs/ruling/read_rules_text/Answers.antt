use Rattle.std.proofs.Common.{map, codes}
use Rattle.std.specs.String.{string_bytes}
use Rattle.command_words.specs.Settings.{settings, values}
use Rattle.daemon_words.proofs.Givens.{rules_or_none_twice}
use Rattle.daemon_words.proofs.ruling.read_rules_text.Goals as goal

pub returns-in-Twice : goal.returns-in-Twice
returns-in-Twice c = rules_or_none_twice (values (codes "--rules") (settings (map (λ w. string_bytes w) c.args.words.now))) c.in-Twice.ensures
