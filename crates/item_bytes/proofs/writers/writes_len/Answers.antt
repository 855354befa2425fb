use Rattle.std.proofs.Common.{arith}
use Rattle.item_bytes.proofs.writers.writes_len.Goals as goal

pub overflow_add-total : goal.overflow_add-total
overflow_add-total c = omega (arith, c.loop-pair.invariant.bound)
