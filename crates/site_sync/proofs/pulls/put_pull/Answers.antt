use Rattle.std.proofs.Common.{sym, subst}
use Rattle.wire_talk.specs.Spelled.{SpellsReply}
use Rattle.site_sync.proofs.Told.{no_fault}
use Rattle.site_sync.proofs.pulls.put_pull.Goals as goal

pub unreachable-requires : goal.unreachable-requires
unreachable-requires c =
    let are = c.requires.told.1 in
    let spelled : SpellsReply c.bytes.result.now are.told = subst (λ b. SpellsReply b are.told) (sym c.bytes.ensures.same) are.spelled in
    no_fault c.bytes.result.now are.told c.requires.told.0 c.read_reply.result c.in-Err.field-0
    ((c.talk_has_one_spelling.ensures.reply.some c.bytes.result.now are.told).1 spelled) are.states c.read_reply.ensures.malformed
    c.read_reply.ensures.sure c.in-Err.is
