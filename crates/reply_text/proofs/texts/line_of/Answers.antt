use Rattle.std.proofs.Common.{◌≡◌, [], ◌++◌, Some, IfOk, ap, sym, subst, ◌∙◌, append-nil}
use Rattle.std.specs.Option.{option_map_or}
use Rattle.wire_item.proofs.Laws.{whole-read}
use Rattle.wire_talk.specs.RequestReadings.{request_front, request_of}
use Rattle.wire_talk.specs.Spellings.{request_spelling}
use Rattle.wire_talk.proofs.Requests.{reads-request}
use Rattle.shell_text.specs.RequestLines.{request_line}
use Rattle.shell_text.specs.Spelled.{malformed_line, request_line_of}
use Rattle.reply_text.proofs.texts.line_of.Goals as goal

pub returns : goal.returns
returns c =
    let r = c.args.request.now in
    let is : request_of (request_spelling r) ≡ Some r =
    whole-read request_front (request_spelling r) r (ap request_front (sym (append-nil (request_spelling r))) ∙ reads-request.back r [] c.requires.valid) in
    let bytes : c.bytes.result.now ≡ request_spelling r = c.bytes.ensures.same ∙ c.write_request.ensures
    ∙ ap (λ z. z ++ request_spelling r) c.in_ok-spelling.ensures in
    let line : c.put_request_line.new.out ≡ request_line (c.args.actor, c.args.request.now) = c.put_request_line.ensures
    ∙ ap (λ z. request_line_of c.args.actor z) bytes ∙ ap (λ o. option_map_or (λ r. request_line (c.args.actor, r)) o (malformed_line c.args.actor)) is in
    subst (λ z. IfOk c.text_of.result (λ text. text ≡ z)) line c.text_of.ensures
