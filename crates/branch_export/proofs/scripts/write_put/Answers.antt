use Rattle.std.proofs.Common.{◌+◌, length, arith}
use Rattle.branch_export.proofs.Scripting.{put-written}
use Rattle.branch_export.proofs.scripts.write_put.Goals as goal

pub returns : goal.returns
returns c =
    put-written c.args.out.now c.write_u32.new.out c.push.new.self c.write_entry.new.out c.args.key.now c.args.value.now
    (4 + length c.args.key.now + 2 + length c.args.value.now)
    (omega arith) c.write_u32.ensures c.push.ensures c.write_entry.ensures
