use Rattle.std.proofs.Common.{inl, subst, List, ℕ}
use Rattle.tardisd_main.specs.Checks.{TellsBytes}
use Rattle.tardisd_main.proofs.Checking.{unread}
use Rattle.tardisd_main.proofs.checks.check_disk.Goals as goal

pub returns-in-Ok : goal.returns-in-Ok
returns-in-Ok g c =
    record {
      read = c.read_all.ensures.read;
      told = inl (
        c.in-Ok.bytes.items,
        (c.in-Ok.ensures.bytes, subst (λ (b : List ℕ). TellsBytes b c.check_bytes.result) c.as_slice.ensures.value c.check_bytes.ensures),
      );
    }

pub returns-in-Err : goal.returns-in-Err
returns-in-Err g c = unread g.K.Disk c.args.disk c.read_all.new.disk c.in-Err.end c.end_of.result c.read_all.ensures.read c.in-Err.ensures.end c.end_of.ensures
