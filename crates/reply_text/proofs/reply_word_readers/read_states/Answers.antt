use Rattle.std.proofs.Common.{sym, subst}
use Rattle.tardis_base.specs.declared.replies.Reply.TheVariants.{States}
use Rattle.text_words.specs.Texts.{rest_of}
use Rattle.wire_talk.specs.Valid.{are_first_ids}
use Rattle.reply_text.specs.Answers.{IsReply}
use Rattle.shell_text.specs.ReplyTexts.{id_text, u32_text}
use Rattle.reply_text.proofs.ReplyReads.{tested-beside}
use Rattle.reply_text.proofs.reply_word_readers.read_states.Goals as goal

pub returns-in-Some : goal.returns-in-Some
returns-in-Some c =
    subst (λ o. IsReply o c.read_first_ids.result)
    (sym (tested-beside States are_first_ids u32_text (rest_of id_text) c.args.words.now c.in-Some.total c.in-Some.left (sym c.in-Some.ensures)))
    c.read_first_ids.ensures
