use Rattle.std.proofs.Common.{◌≡◌, ◌+◌, ℕ, List, [], ◌++◌, length, take, drop, subst}
use Rattle.memory_io.proofs.Fronts.{moved_under}
use Rattle.memory_io.proofs.steady.SteadySourceSource.take.Goals as goal

pub returns-clause-bytes : goal.returns-clause-bytes
returns-clause-bytes c =
    let n : ℕ = c.move_front-count.result in
    let m = moved_under c.self.inside.bytes.items c.deref.result.now c.self.inside.taken c.args.buf.now c.move_front-count.new.to n
    (length c.args.buf.now) c.deref.ensures.value c.move_front-count.ensures.count c.move_front-count.ensures.front c.requires c.requires in
    subst (λ (v : List ℕ). (v ≡ take n c.move_front-count.new.to ++ drop (c.self.inside.taken + n) c.self.inside.bytes.items) × (n ≡ 0 → v ≡ []))
    c.self.view_is m
