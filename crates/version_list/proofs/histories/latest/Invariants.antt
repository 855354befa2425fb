use Rattle.std.proofs.Common.{◌≡◌, false, drop}
use Rattle.std.specs.List.{list_any}
use Rattle.version_list.specs.declared.histories.Version.{Version}
use Rattle.version_list.proofs.histories.latest.Given as goal

abbrev pub invariant-loop-place : goal.invariant-loop-place
invariant-loop-place g l = list_any (λ (v : Version). g.A.Above.is_above l.dag v.slot l.at) (drop l.place l.versions) ≡ false
