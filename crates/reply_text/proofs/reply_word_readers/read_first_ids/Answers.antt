use Rattle.std.proofs.Common.{refl}
use Rattle.tardis_base.specs.declared.replies.Reply.TheVariants.{States}
use Rattle.text_words.specs.Texts.{rest_of}
use Rattle.wire_item.specs.Fronts.{only_if}
use Rattle.wire_talk.specs.Valid.{are_first_ids}
use Rattle.shell_text.specs.ReplyTexts.{id_text}
use Rattle.wire_talk.specs.Memory.{reply_takes_no_memory}
use Rattle.shell_text.proofs.LineReads.{kept-ok, kept-err}
use Rattle.reply_text.proofs.reply_word_readers.read_first_ids.Goals as goal

pub returns-in-Ok : goal.returns-in-Ok
returns-in-Ok c =
    let front = only_if (are_first_ids c.args.total) (rest_of id_text) in
    kept-ok (λ xs. States c.args.total xs) front c.args.words.now c.in-Ok.first (c.in-Ok.ensures front c.args.words.now c.first_ids.ensures)

pub returns-in-Err : goal.returns-in-Err
returns-in-Err c =
    let front = only_if (are_first_ids c.args.total) (rest_of id_text) in
    kept-err reply_takes_no_memory (λ xs. States c.args.total xs) front c.args.words.now c.in-Err.fault (λ _. refl) (c.in-Err.ensures front c.args.words.now c.first_ids.ensures)
