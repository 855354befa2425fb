use Rattle.std.proofs.Common.{refl}
use Rattle.tardis_base.specs.declared.replies.Reply.TheVariants.{Merging}
use Rattle.shell_text.specs.ReplyTexts.{parents_text}
use Rattle.wire_talk.specs.Memory.{reply_takes_no_memory}
use Rattle.shell_text.proofs.LineReads.{kept-ok, kept-err}
use Rattle.reply_text.proofs.reply_word_readers.read_merging.Goals as goal

pub returns-in-Ok : goal.returns-in-Ok
returns-in-Ok c =
    let front = parents_text in
    kept-ok (Merging) front c.args.words.now c.in-Ok.states (c.in-Ok.ensures front c.args.words.now c.parents.ensures)

pub returns-in-Err : goal.returns-in-Err
returns-in-Err c =
    let front = parents_text in
    kept-err reply_takes_no_memory (Merging) front c.args.words.now c.in-Err.fault (λ _. refl) (c.in-Err.ensures front c.args.words.now c.parents.ensures)
