use Rattle.std.proofs.Common.{refl}
use Rattle.tardis_base.specs.declared.replies.Refusal.TheVariants.{OpenConflict}
use Rattle.wire_talk.specs.Memory.{refusal_takes_no_memory}
use Rattle.shell_text.specs.RequestTexts.{key_text}
use Rattle.shell_text.proofs.LineReads.{kept-ok, kept-err}
use Rattle.reply_text.proofs.refusal_word_readers.read_open_conflict.Goals as goal

pub returns-in-Ok : goal.returns-in-Ok
returns-in-Ok c = kept-ok OpenConflict key_text c.args.words.now c.in-Ok.key c.in-Ok.ensures

pub returns-in-Err : goal.returns-in-Err
returns-in-Err c = kept-err refusal_takes_no_memory OpenConflict key_text c.args.words.now c.in-Err.fault (λ _. refl) c.in-Err.ensures
