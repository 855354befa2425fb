use Rattle.std.proofs.Common.{length}
use Rattle.memory_disks.specs.declared.histories.Kept.TheVariants.{WroteBytewise, ToreBytewise}
use Rattle.memory_disks.proofs.Calls.{may_note_bytes, wrote_bytewise_reads, wrote_bytewise_crash, tore_bytewise_crash, elapses_more, elapses_noted_bytes}
use Rattle.memory_disks.proofs.memory_disks.MemoryDiskBytewiseDisk.write_bytewise.Goals as goal

pub returns-in-Ok-clause-written : goal.returns-in-Ok-clause-written
returns-in-Ok-clause-written c = wrote_bytewise_reads c.args.self.now.history c.write.new.self c.args.place (length c.args.bytes.now) c.args.bytes.now
    c.requires.begin c.write.ensures

pub returns-in-Ok-clause-crash : goal.returns-in-Ok-clause-crash
returns-in-Ok-clause-crash c = wrote_bytewise_crash c.args.self.now.history c.write.new.self c.args.place (length c.args.bytes.now) c.args.bytes.now
    c.write.ensures

pub returns-in-Ok-clause-time : goal.returns-in-Ok-clause-time
returns-in-Ok-clause-time c = elapses_more c.args.self.now.history c.write.new.self (WroteBytewise c.args.place (length c.args.bytes.now)) c.args.bytes.now
    c.write.ensures

pub returns-in-Err-clause-crash : goal.returns-in-Err-clause-crash
returns-in-Err-clause-crash c = tore_bytewise_crash c.args.self.now.history c.note_torn.new.history c.args.place (length c.args.bytes.now) c.args.bytes.now
    (may_note_bytes (ToreBytewise c.args.place (length c.args.bytes.now)) c.args.bytes.now c.args.self.now.history c.note_torn.new.history c.note_torn.ensures)

pub returns-in-Err-clause-time : goal.returns-in-Err-clause-time
returns-in-Err-clause-time c = elapses_noted_bytes c.args.self.now.history c.note_torn.new.history (ToreBytewise c.args.place (length c.args.bytes.now))
    c.args.bytes.now
    (may_note_bytes (ToreBytewise c.args.place (length c.args.bytes.now)) c.args.bytes.now c.args.self.now.history c.note_torn.new.history c.note_torn.ensures)
