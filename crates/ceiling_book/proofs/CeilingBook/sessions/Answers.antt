use Rattle.std.proofs.Common.{arith}
use Rattle.ceiling_book.proofs.CeilingBook.sessions.Goals as goal

pub overflow_cast-result : goal.overflow_cast-result
overflow_cast-result c =
    let few = c.self.invariant.few in
    let within = c.self.invariant.within in
    let len = c.len.ensures.len in
    omega arith
