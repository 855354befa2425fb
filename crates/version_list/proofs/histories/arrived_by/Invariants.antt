use Rattle.std.proofs.Common.{◌≡◌, ◌≤◌, ◌-◌, false, nat_le, IsTrue, length, take, drop}
use Rattle.std.specs.List.{list_any, list_all}
use Rattle.version_list.specs.declared.histories.Version.{Version}
use Rattle.version_list.proofs.histories.arrived_by.Given as goal

abbrev pub invariant-loop-low : goal.invariant-loop-low
invariant-loop-low g l = record {
  order : l.low ≤ l.high;
  bound : l.high ≤ length l.versions;
  behind : list_any (λ (v : Version). g.A.Above.is_above l.dag v.slot l.fn.at) (drop l.high l.versions) ≡ false;
  early : IsTrue (list_all (λ (v : Version). nat_le (g.A.Above.arrival_of l.dag v.slot) (g.A.Above.arrival_of l.dag l.fn.at)) (take l.low l.versions));
  late : list_any (λ (v : Version). nat_le (g.A.Above.arrival_of l.dag v.slot) (g.A.Above.arrival_of l.dag l.fn.at)) (drop l.high l.versions) ≡ false;
}

abbrev pub decreases-loop-low : goal.decreases-loop-low
decreases-loop-low g l = l.high - l.low
