use Rattle.std.proofs.Common.{inl, arith}
use Rattle.memory_disks.proofs.Calls.{length_with}
use Rattle.memory_disks.proofs.histories.History.has_room.Goals as goal

pub returns-then-len-self-clause-full : goal.returns-then-len-self-clause-full
returns-then-len-self-clause-full c = λ _. let n = length_with c.self.inside.calls.items c.self.inside.written.items in
    rw (← c.self.view_is) (inl (omega arith))

pub returns-clause-fits : goal.returns-clause-fits
returns-clause-fits c = λ _. let n = length_with c.self.inside.calls.items c.self.inside.written.items in rw (← c.self.view_is) (omega arith, omega arith)
