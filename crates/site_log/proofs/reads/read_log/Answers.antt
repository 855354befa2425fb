use Rattle.std.proofs.Common.{drop, subst}
use Rattle.log_groups.specs.Steps.{IsFirst}
use Rattle.site_log.proofs.Wanting.{begins_with, refuses_result}
use Rattle.site_log.proofs.reads.read_log.Goals as goal

pub returns-in-Ok-Front-clause-refused : goal.returns-in-Ok-Front-clause-refused
returns-in-Ok-Front-clause-refused g c =
    let b = begins_with c.args.bytes.now c.in-Ok-Front.front c.in-Ok-Front.size
    (subst (IsFirst c.args.bytes.now) c.in-Ok-Front.field-0-is c.in-Ok-Front.ensures.first) in
    refuses_result g.M.Resting c.args.machine.now c.args.bytes.now c.in-Ok-Front.front c.args.wanted.now
    (b.is_front, (drop c.in-Ok-Front.size c.args.bytes.now, b.begins)) c.take_wanted.result c.take_wanted.ensures.refused

pub take_wanted-requires : goal.take_wanted-requires
take_wanted-requires g c =
    let b = begins_with c.args.bytes.now c.in-Ok-Front.front c.in-Ok-Front.size
    (subst (IsFirst c.args.bytes.now) c.in-Ok-Front.field-0-is c.in-Ok-Front.ensures.first) in
    record { front = b.is_front; at = b.at; begins = b.begins; within = b.within }
