use Rattle.std.proofs.Common.{[]}
use Rattle.memory_disks.specs.declared.histories.Kept.TheVariants.{Looked, Synced}
use Rattle.memory_disks.proofs.Calls.{may_note, synced, synced_reads, synced_crash, looked_reads, looked_crash, elapses_more, elapses_noted}
use Rattle.memory_disks.proofs.memory_disks.MemoryDiskDisk.sync.Goals as goal

pub returns-in-Ok-clause-durable : goal.returns-in-Ok-clause-durable
returns-in-Ok-clause-durable c = synced c.args.self.now.history c.note.new.self c.note.ensures

pub returns-in-Ok-clause-reads : goal.returns-in-Ok-clause-reads
returns-in-Ok-clause-reads c = synced_reads c.args.self.now.history c.note.new.self c.note.ensures

pub returns-in-Ok-clause-crash : goal.returns-in-Ok-clause-crash
returns-in-Ok-clause-crash c = synced_crash c.args.self.now.history c.note.new.self c.note.ensures

pub returns-in-Ok-clause-time : goal.returns-in-Ok-clause-time
returns-in-Ok-clause-time c = elapses_more c.args.self.now.history c.note.new.self Synced [] c.note.ensures

pub returns-in-Err-clause-reads : goal.returns-in-Err-clause-reads
returns-in-Err-clause-reads c = looked_reads c.args.self.now.history c.note_fault.new.history (may_note Looked c.args.self.now.history c.note_fault.new.history c.note_fault.ensures)

pub returns-in-Err-clause-crash : goal.returns-in-Err-clause-crash
returns-in-Err-clause-crash c = looked_crash c.args.self.now.history c.note_fault.new.history (may_note Looked c.args.self.now.history c.note_fault.new.history c.note_fault.ensures)

pub returns-in-Err-clause-time : goal.returns-in-Err-clause-time
returns-in-Err-clause-time c = elapses_noted c.args.self.now.history c.note_fault.new.history Looked (may_note Looked c.args.self.now.history c.note_fault.new.history c.note_fault.ensures)
