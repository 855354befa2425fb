use Rattle.std.proofs.Common.{◌≡◌, ◌≤◌, length, map, take}
use Rattle.site_questions.proofs.pages.first_keys.Given as goal

abbrev pub invariant-loop-key : goal.invariant-loop-key
invariant-loop-key l = record {
  counted : length l.first ≡ l.key-index;
  few : l.key-index ≤ 256;
  front : l.first ≡ map (λ k. k.now) (take l.key-index l.keys);
}
