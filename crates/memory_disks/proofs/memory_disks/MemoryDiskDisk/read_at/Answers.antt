use Rattle.std.proofs.Common.{[], inl, length, take, drop, ap, ◌∙◌, arith}
use Rattle.memory_disks.specs.declared.histories.Kept.TheVariants.{Looked}
use Rattle.memory_disks.proofs.Calls.{may_note, looked_reads, looked_crash, elapses_more, elapses_noted}
use Rattle.memory_disks.proofs.memory_disks.MemoryDiskDisk.read_at.Goals as goal

pub read-requires : goal.read-requires
read-requires c = let same = looked_reads c.args.self.now.history c.note.new.self (inl c.note.ensures) in omega (arith, ap length same, c.requires)

pub returns-in-Ok-clause-bytes : goal.returns-in-Ok-clause-bytes
returns-in-Ok-clause-bytes c = c.read.ensures ∙ ap (λ z. take (length c.args.buf.now) (drop c.args.place z))
    (looked_reads c.args.self.now.history c.note.new.self (inl c.note.ensures))

pub returns-in-Ok-clause-reads : goal.returns-in-Ok-clause-reads
returns-in-Ok-clause-reads c = looked_reads c.args.self.now.history c.note.new.self (inl c.note.ensures)

pub returns-in-Ok-clause-crash : goal.returns-in-Ok-clause-crash
returns-in-Ok-clause-crash c = looked_crash c.args.self.now.history c.note.new.self (inl c.note.ensures)

pub returns-in-Ok-clause-time : goal.returns-in-Ok-clause-time
returns-in-Ok-clause-time c = elapses_more c.args.self.now.history c.note.new.self Looked [] c.note.ensures

pub returns-in-Err-clause-reads : goal.returns-in-Err-clause-reads
returns-in-Err-clause-reads c = looked_reads c.args.self.now.history c.note_fault.new.history (may_note Looked c.args.self.now.history c.note_fault.new.history c.note_fault.ensures)

pub returns-in-Err-clause-crash : goal.returns-in-Err-clause-crash
returns-in-Err-clause-crash c = looked_crash c.args.self.now.history c.note_fault.new.history (may_note Looked c.args.self.now.history c.note_fault.new.history c.note_fault.ensures)

pub returns-in-Err-clause-time : goal.returns-in-Err-clause-time
returns-in-Err-clause-time c = elapses_noted c.args.self.now.history c.note_fault.new.history Looked (may_note Looked c.args.self.now.history c.note_fault.new.history c.note_fault.ensures)
