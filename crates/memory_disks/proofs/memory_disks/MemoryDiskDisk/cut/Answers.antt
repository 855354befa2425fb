use Rattle.std.proofs.Common.{[]}
use Rattle.memory_disks.specs.declared.histories.Kept.TheVariants.{CutTo, MayCut}
use Rattle.memory_disks.proofs.Calls.{may_note, cut_reads, cut_crash, may_cut_crash, elapses_more, elapses_noted}
use Rattle.memory_disks.proofs.memory_disks.MemoryDiskDisk.cut.Goals as goal

pub returns-in-Ok-clause-shorter : goal.returns-in-Ok-clause-shorter
returns-in-Ok-clause-shorter c = cut_reads c.args.self.now.history c.cut.new.self c.args.len c.cut.ensures

pub returns-in-Ok-clause-crash : goal.returns-in-Ok-clause-crash
returns-in-Ok-clause-crash c = cut_crash c.args.self.now.history c.cut.new.self c.args.len c.cut.ensures

pub returns-in-Ok-clause-time : goal.returns-in-Ok-clause-time
returns-in-Ok-clause-time c = elapses_more c.args.self.now.history c.cut.new.self (CutTo c.args.len) [] c.cut.ensures

pub returns-in-Err-clause-crash : goal.returns-in-Err-clause-crash
returns-in-Err-clause-crash c = may_cut_crash c.args.self.now.history c.note_fault.new.history c.args.len (may_note (MayCut c.args.len) c.args.self.now.history c.note_fault.new.history c.note_fault.ensures)

pub returns-in-Err-clause-time : goal.returns-in-Err-clause-time
returns-in-Err-clause-time c = elapses_noted c.args.self.now.history c.note_fault.new.history (MayCut c.args.len) (may_note (MayCut c.args.len) c.args.self.now.history c.note_fault.new.history c.note_fault.ensures)
