use Rattle.std.proofs.Common.{◌≡◌, filter, drop}
use Rattle.rule_list.specs.Rules.{begins, longest, rule_for}
use Rattle.rule_list.proofs.Bests.{with_best}
use Rattle.rule_list.proofs.choosing.rule_for.Given as goal

abbrev pub invariant-loop-entry : goal.invariant-loop-entry
invariant-loop-entry l = with_best l.best (longest (filter (begins l.fn.key) (drop l.entry-index l.entry-items))) ≡ rule_for l.fn.rules l.fn.key
