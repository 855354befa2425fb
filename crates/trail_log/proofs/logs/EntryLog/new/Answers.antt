use Rattle.std.proofs.Common.{◌≡◌, ◌≤◌, [], List, ℕ, sym, subst, arith}
use Rattle.std.specs.List.{concat}
use Rattle.trail_log.specs.Frames.{entries_of, IsTrail, room_behind}
use Rattle.trail_log.proofs.Entries.{no_entries, no_trail}
use Rattle.trail_log.proofs.logs.EntryLog.new.Goals as goal

pub invariant_of-result : goal.invariant_of-result
invariant_of-result c = subst (λ (cs : List (List ℕ)). IsTrail (concat cs) × (0 ≤ room_behind cs)) (sym c.new.ensures.items) (no_trail, omega arith)

pub returns : goal.returns
returns c = subst (λ (cs : List (List ℕ)). entries_of (concat cs) ≡ []) (sym c.new.ensures.items) no_entries
