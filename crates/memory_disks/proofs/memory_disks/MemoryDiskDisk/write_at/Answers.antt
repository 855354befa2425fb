use Rattle.std.proofs.Common.{length}
use Rattle.memory_disks.specs.declared.histories.Kept.TheVariants.{Wrote, Tore}
use Rattle.memory_disks.proofs.Calls.{may_note, wrote_reads, wrote_crash, tore_crash, elapses_more, elapses_noted}
use Rattle.memory_disks.proofs.memory_disks.MemoryDiskDisk.write_at.Goals as goal

pub returns-in-Ok-clause-written : goal.returns-in-Ok-clause-written
returns-in-Ok-clause-written c = wrote_reads c.args.self.now.history c.write.new.self c.args.place (length c.args.bytes.now) c.args.bytes.now
    c.write.ensures

pub returns-in-Ok-clause-crash : goal.returns-in-Ok-clause-crash
returns-in-Ok-clause-crash c = wrote_crash c.args.self.now.history c.write.new.self c.args.place (length c.args.bytes.now) c.args.bytes.now c.write.ensures

pub returns-in-Ok-clause-time : goal.returns-in-Ok-clause-time
returns-in-Ok-clause-time c = elapses_more c.args.self.now.history c.write.new.self (Wrote c.args.place (length c.args.bytes.now)) c.args.bytes.now
    c.write.ensures

pub returns-in-Err-clause-crash : goal.returns-in-Err-clause-crash
returns-in-Err-clause-crash c = tore_crash c.args.self.now.history c.note_fault.new.history c.args.place (length c.args.bytes.now) (may_note (Tore c.args.place (length c.args.bytes.now)) c.args.self.now.history c.note_fault.new.history c.note_fault.ensures)

pub returns-in-Err-clause-time : goal.returns-in-Err-clause-time
returns-in-Err-clause-time c = elapses_noted c.args.self.now.history c.note_fault.new.history (Tore c.args.place (length c.args.bytes.now))
    (may_note (Tore c.args.place (length c.args.bytes.now)) c.args.self.now.history c.note_fault.new.history c.note_fault.ensures)
