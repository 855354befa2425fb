use Rattle.std.proofs.Common.{drop, subst}
use Rattle.log_groups.specs.Steps.{IsFirst}
use Rattle.site_log.proofs.Wanting.{begins_with}
use Rattle.site_log.proofs.firsts.first_of.Goals as goal

pub returns-in-Ok-Front : goal.returns-in-Ok-Front
returns-in-Ok-Front c =
    let b = begins_with c.args.bytes.now c.in-Ok-Front.front c.in-Ok-Front.field-0-1
    (subst (IsFirst c.args.bytes.now) c.in-Ok-Front.field-0-is c.in-Ok-Front.ensures.first) in
    (b.is_front, (drop c.in-Ok-Front.field-0-1 c.args.bytes.now, b.begins))
