use Rattle.std.proofs.Common.{◌≡◌, Some, None, subst}
use Rattle.wire_item.specs.Readings.{u64_front}
use Rattle.wire_item.proofs.Takings.{taken, untaken}
use Rattle.branch_export.proofs.Judged.{judged-short, judged-wrong, judged-read}
use Rattle.branch_export.proofs.judging.is_export.Goals as goal

pub returns-in-Some-ascending_entries : goal.returns-in-Some-ascending_entries
returns-in-Some-ascending_entries c =
    let number = subst (λ b. u64_front b ≡ Some (c.in-Some.count, c.u64.new.self)) c.new-reader.ensures
    (taken u64_front c.new-reader.result c.u64.new.self c.in-Some.count c.in-Some.ensures) in
    let read = c.in-Some-ascending_entries.ensures in
    judged-read c.args.bytes.now c.in-Some.count c.u64.new.self read.0 c.ascending_entries.new.reader c.is_done.result number read.1 c.is_done.ensures

pub returns-in-None-ascending_entries : goal.returns-in-None-ascending_entries
returns-in-None-ascending_entries c =
    let number = subst (λ b. u64_front b ≡ Some (c.in-Some.count, c.u64.new.self)) c.new-reader.ensures
    (taken u64_front c.new-reader.result c.u64.new.self c.in-Some.count c.in-Some.ensures) in
    judged-wrong c.args.bytes.now c.in-Some.count c.u64.new.self number c.in-None-ascending_entries.ensures

pub returns-in-None : goal.returns-in-None
returns-in-None c = judged-short c.args.bytes.now (subst (λ b. u64_front b ≡ None) c.new-reader.ensures
    (untaken u64_front c.new-reader.result c.u64.new.self c.in-None.ensures))
