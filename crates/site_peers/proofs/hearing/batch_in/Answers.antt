use Rattle.std.proofs.Common.{Err, ap, refl}
use Rattle.tardis_base.specs.declared.replies.Reply.TheVariants.{Batch as BatchIs}
use Rattle.wire_talk.specs.ReplyReadings.{reply_of}
use Rattle.site_peers.proofs.Telling.{takes_memory}
use Rattle.site_peers.proofs.hearing.batch_in.Goals as goal

pub returns-in-Err-Malformed-clause-answer : goal.returns-in-Err-Malformed-clause-answer
returns-in-Err-Malformed-clause-answer c = λ batch spelled. (c.talk_has_one_spelling.ensures.reply.none c.args.body.now).0
    (c.in-Err-Malformed.ensures.malformed.0 (ap (λ e. Err e) c.in-Err-Malformed.field-0-is)) (BatchIs batch) spelled

pub returns-clause-answer : goal.returns-clause-answer
returns-clause-answer c =
    let is = c.in-Err-NoMemory.field-0-is in
    takes_memory c.talk_has_one_spelling.ensures.reply c.args.body.now (reply_of c.args.body.now) refl
    (λ none. let other = c.in-Err-NoMemory.ensures.malformed.1 none in absurd (cc))
    (λ reply read free. c.in-Err-NoMemory.ensures.sure reply read free (ap (λ e. Err e) is))
