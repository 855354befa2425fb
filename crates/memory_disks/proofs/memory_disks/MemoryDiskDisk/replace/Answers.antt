use Rattle.std.proofs.Common.{[], inl, length}
use Rattle.memory_disks.specs.declared.histories.Kept.TheVariants.{Looked, Replaced, MayReplace}
use Rattle.memory_disks.proofs.Calls.{may_note_bytes, looked_reads, looked_crash, replaced_reads, replaced_only, replaced_crash, not_replaced_crash, may_replace_crash, elapses_more, elapses_noted_bytes}
use Rattle.memory_disks.proofs.memory_disks.MemoryDiskDisk.replace.Goals as goal

pub returns-then-has_room-clause-replaced : goal.returns-then-has_room-clause-replaced
returns-then-has_room-clause-replaced c = λ _. (replaced_reads c.args.self.now.history c.replace.new.self (length c.args.bytes.now) c.args.bytes.now c.replace.ensures, replaced_only c.args.self.now.history c.replace.new.self (length c.args.bytes.now) c.args.bytes.now c.replace.ensures)

pub returns-then-has_room-clause-crash : goal.returns-then-has_room-clause-crash
returns-then-has_room-clause-crash c = replaced_crash c.args.self.now.history c.replace.new.self (length c.args.bytes.now) c.args.bytes.now c.replace.ensures

pub returns-then-has_room-clause-time : goal.returns-then-has_room-clause-time
returns-then-has_room-clause-time c = elapses_more c.args.self.now.history c.replace.new.self (Replaced (length c.args.bytes.now)) c.args.bytes.now c.replace.ensures

pub returns-else-has_room-clause-same : goal.returns-else-has_room-clause-same
returns-else-has_room-clause-same c = λ _. (looked_reads c.args.self.now.history c.note.new.self (inl c.note.ensures), looked_crash c.args.self.now.history c.note.new.self (inl c.note.ensures))

pub returns-else-has_room-clause-crash : goal.returns-else-has_room-clause-crash
returns-else-has_room-clause-crash c = not_replaced_crash c.args.self.now.history c.note.new.self c.args.bytes.now c.note.ensures

pub returns-else-has_room-clause-time : goal.returns-else-has_room-clause-time
returns-else-has_room-clause-time c = elapses_more c.args.self.now.history c.note.new.self Looked [] c.note.ensures

pub returns-in-Err-clause-crash : goal.returns-in-Err-clause-crash
returns-in-Err-clause-crash c = may_replace_crash c.args.self.now.history c.note_torn.new.history (length c.args.bytes.now) c.args.bytes.now
    (may_note_bytes (MayReplace (length c.args.bytes.now)) c.args.bytes.now c.args.self.now.history c.note_torn.new.history c.note_torn.ensures)

pub returns-in-Err-clause-time : goal.returns-in-Err-clause-time
returns-in-Err-clause-time c = elapses_noted_bytes c.args.self.now.history c.note_torn.new.history (MayReplace (length c.args.bytes.now)) c.args.bytes.now
    (may_note_bytes (MayReplace (length c.args.bytes.now)) c.args.bytes.now c.args.self.now.history c.note_torn.new.history c.note_torn.ensures)
