use Rattle.std.proofs.Common.{◌≡◌, ◌≤◌, ◌++◌, length}
use Rattle.conflict_keys.proofs.pages.first_of.Given as goal

abbrev pub invariant-loop-key : goal.invariant-loop-key
invariant-loop-key l = record {
  all : l.first ++ l.key-iterator ≡ l.keys.keys;
  few : length l.first ≤ 256;
}
