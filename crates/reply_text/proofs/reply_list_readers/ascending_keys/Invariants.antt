use Rattle.std.proofs.Common.{ℕ, List, ◌≤◌, length, take}
use Rattle.std.specs.Prelude.{IfSome, option_map}
use Rattle.tardis_base.specs.Keys.{are_ascending_keys}
use Rattle.wire_item.proofs.Progress.{Progress}
use Rattle.shell_text.specs.RequestTexts.{key_text}
use Rattle.reply_text.proofs.reply_list_readers.ascending_keys.Given as goal

abbrev pub invariant-loop-place : goal.invariant-loop-place
invariant-loop-place l =
    IfSome l.last (λ n. n ≤ length l.last_room)
    × Progress (λ (k : List ℕ). k) are_ascending_keys key_text l.words l._place l.left (option_map (λ n. take n l.last_room) l.last) l.keys
