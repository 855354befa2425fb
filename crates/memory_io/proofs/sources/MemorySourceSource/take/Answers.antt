use Rattle.std.proofs.Common.{◌≡◌, ◌<◌, ◌+◌, ℕ, [], ◌++◌, take, drop, subst, arith}
use Rattle.memory_io.specs.Memory.{Input}
use Rattle.memory_io.proofs.Fronts.{moved_under}
use Rattle.memory_io.proofs.sources.MemorySourceSource.take.Goals as goal

pub returns-clause-bytes : goal.returns-clause-bytes
returns-clause-bytes c =
    let n : ℕ = c.move_front-count.result in
    let some : 0 < c.self.inside.piece = omega (arith, c.self.invariant.1) in
    let m = moved_under c.self.inside.bytes.items c.deref.result.now c.self.inside.taken c.args.buf.now c.move_front-count.new.to n c.self.inside.piece
    c.deref.ensures.value c.move_front-count.ensures.count c.move_front-count.ensures.front some c.requires in
    subst (λ (v : Input). (v.left ≡ take n c.move_front-count.new.to ++ drop (c.self.inside.taken + n) c.self.inside.bytes.items) × (n ≡ 0 → v.left ≡ []))
    c.self.view_is m
