use Rattle.std.proofs.Common.{◌≡◌, [], ◌++◌, Some, IfOk, ap, sym, subst, ◌∙◌, append-nil}
use Rattle.std.specs.Option.{option_map_or}
use Rattle.wire_item.proofs.Laws.{whole-read}
use Rattle.wire_talk.specs.ReplyReadings.{reply_front, reply_of}
use Rattle.wire_talk.specs.Spellings.{reply_spelling}
use Rattle.wire_talk.proofs.Replies.{reads-reply}
use Rattle.shell_text.specs.ReplyLines.{reply_line}
use Rattle.shell_text.specs.Spelled.{reply_line_of}
use Rattle.reply_text.proofs.texts.reply_line.Goals as goal

pub returns : goal.returns
returns c =
    let r = c.args.reply.now in
    let is : reply_of (reply_spelling r) ≡ Some r =
    whole-read reply_front (reply_spelling r) r (ap reply_front (sym (append-nil (reply_spelling r))) ∙ reads-reply.back r [] c.requires.valid) in
    let bytes : c.bytes.result.now ≡ reply_spelling r = c.bytes.ensures.same ∙ c.write_reply.ensures
    ∙ ap (λ z. z ++ reply_spelling r) c.in_ok-spelling.ensures in
    let line : c.put_reply_line.new.out ≡ reply_line c.args.reply.now = c.put_reply_line.ensures ∙ ap (λ z. reply_line_of z) bytes
    ∙ ap (λ o. option_map_or reply_line o []) is in
    subst (λ z. IfOk c.text_of.result (λ text. text ≡ z)) line c.text_of.ensures
