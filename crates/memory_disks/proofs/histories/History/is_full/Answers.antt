use Rattle.std.proofs.Common.{arith}
use Rattle.memory_disks.proofs.Calls.{length_with}
use Rattle.memory_disks.proofs.histories.History.is_full.Goals as goal

pub returns-then-len-self-clause-room : goal.returns-then-len-self-clause-room
returns-then-len-self-clause-room c = λ _. let n = length_with c.self.inside.calls.items c.self.inside.written.items in rw (← c.self.view_is) (omega arith)

pub returns-clause-full : goal.returns-clause-full
returns-clause-full c = λ _. let n = length_with c.self.inside.calls.items c.self.inside.written.items in rw (← c.self.view_is) (omega arith)
