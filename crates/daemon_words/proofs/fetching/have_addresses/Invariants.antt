use Rattle.std.proofs.Common.{◌≡◌, length, map, codes}
use Rattle.std.specs.List.{list_all}
use Rattle.std.specs.String.{string_bytes}
use Rattle.command_words.specs.Settings.{settings, values}
use Rattle.daemon_words.specs.Doors.{has_address}
use Rattle.daemon_words.proofs.fetching.have_addresses.Given as goal

abbrev pub invariant-loop-first : goal.invariant-loop-first
invariant-loop-first l =
    list_all has_address (values (codes "--peer") (settings (map (λ w. string_bytes w) l.left)))
    ≡ list_all has_address (values (codes "--peer") (settings (map (λ w. string_bytes w) l.words)))

abbrev pub decreases-loop-first : goal.decreases-loop-first
decreases-loop-first l = length l.left
