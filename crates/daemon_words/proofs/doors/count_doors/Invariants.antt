use Rattle.std.proofs.Common.{◌≡◌, ◌+◌, ◌≤◌, length, map}
use Rattle.std.specs.Prelude.{filter}
use Rattle.std.specs.String.{string_bytes}
use Rattle.command_words.specs.Settings.{settings}
use Rattle.daemon_words.specs.Doors.{is_door}
use Rattle.daemon_words.proofs.doors.count_doors.Given as goal

abbrev pub invariant-loop-first : goal.invariant-loop-first
invariant-loop-first l =
    (l.count + length (filter is_door (settings (map (λ w. string_bytes w) l.left))) ≡ length (filter is_door (settings (map (λ w. string_bytes w) l.words))))
    × (l.count + length l.left ≤ length l.words)

abbrev pub decreases-loop-first : goal.decreases-loop-first
decreases-loop-first l = length l.left
