use Rattle.std.proofs.Common.{◌≡◌, ◌++◌, length, map}
use Rattle.std.specs.Prelude.{filter_map}
use Rattle.std.specs.String.{string_bytes}
use Rattle.command_words.specs.Settings.{settings}
use Rattle.daemon_words.specs.Doors.{door_of, door_at}
use Rattle.daemon_words.proofs.doors.doors_of.Given as goal

abbrev pub invariant-loop-first : goal.invariant-loop-first
invariant-loop-first l =
    map door_at l.plans.items ++ filter_map door_of (settings (map (λ w. string_bytes w) l.left))
    ≡ filter_map door_of (settings (map (λ w. string_bytes w) l.words))

abbrev pub decreases-loop-first : goal.decreases-loop-first
decreases-loop-first l = length l.left
