use Rattle.std.proofs.Common.{subst}
use Rattle.wire_item.specs.Takings.{Makes}
use Rattle.wire_item.proofs.Wholes.{answers}
use Rattle.wire_talk.specs.RequestReadings.{request_front}
use Rattle.wire_talk.proofs.Requests.{reads-request}
use Rattle.talk_bytes.proofs.request_readers.read_request.Goals as goal

pub returns-clause-spelled : goal.returns-clause-spelled
returns-clause-spelled c =
    let made = subst (λ b. Makes request_front b c.request-taken.result c.request-taken.new.reader) c.new-reader.ensures c.request-taken.ensures.read in
    (answers reads-request c.args.bytes.now c.request-taken.result c.request-taken.new.reader c.is_done.result made c.is_done.ensures c.whole.result
    c.whole.ensures).spelled

pub returns-clause-malformed : goal.returns-clause-malformed
returns-clause-malformed c =
    let made = subst (λ b. Makes request_front b c.request-taken.result c.request-taken.new.reader) c.new-reader.ensures c.request-taken.ensures.read in
    (answers reads-request c.args.bytes.now c.request-taken.result c.request-taken.new.reader c.is_done.result made c.is_done.ensures c.whole.result
    c.whole.ensures).malformed
