use Rattle.std.proofs.Common.{inl}
use Rattle.tardisd_main.proofs.Checking.{tells_spoiled}
use Rattle.tardisd_main.proofs.checks.check_bytes.Goals as goal

pub returns-in-Err : goal.returns-in-Err
returns-in-Err c = tells_spoiled c.args.bytes.now c.in-Err.end c.end_of.result c.end_of.ensures (inl c.in-Err.ensures)
