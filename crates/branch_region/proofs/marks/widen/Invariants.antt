use Rattle.std.proofs.Common.{◌≡◌, ℕ, ◌<◌, ◌≤◌, ◌||◌, false, length, get_or}
use Rattle.branch_region.proofs.marks.widen.Given as goal

abbrev pub invariant-loop-place : goal.invariant-loop-place
invariant-loop-place l = record {
  count : length l.marks.items ≡ length l.fn.marks.items;
  done : (i : ℕ) → i < l.place → get_or l.marks.items i false ≡ (get_or l.fn.marks.items i false || get_or l.others i false);
  left : (i : ℕ) → l.place ≤ i → get_or l.marks.items i false ≡ get_or l.fn.marks.items i false;
}
