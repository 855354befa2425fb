use Rattle.std.proofs.Common.{◌≡◌, length, map}
use Rattle.std.specs.Prelude.{filter}
use Rattle.std.specs.List.{list_all}
use Rattle.std.specs.String.{string_bytes}
use Rattle.command_words.specs.Settings.{settings}
use Rattle.daemon_words.specs.Doors.{is_door, has_address}
use Rattle.daemon_words.proofs.doors.have_addresses.Given as goal

abbrev pub invariant-loop-first : goal.invariant-loop-first
invariant-loop-first l =
    list_all (λ s. has_address s.1) (filter is_door (settings (map (λ w. string_bytes w) l.left)))
    ≡ list_all (λ s. has_address s.1) (filter is_door (settings (map (λ w. string_bytes w) l.words)))

abbrev pub decreases-loop-first : goal.decreases-loop-first
decreases-loop-first l = length l.left
