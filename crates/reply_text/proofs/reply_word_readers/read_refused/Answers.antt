use Rattle.reply_text.proofs.ReplyReads.{refusal-read, refusal-fault}
use Rattle.reply_text.proofs.reply_word_readers.read_refused.Goals as goal

pub returns-in-Ok : goal.returns-in-Ok
returns-in-Ok c = refusal-read c.args.words.now c.in-Ok.refusal c.in-Ok.ensures

pub returns-in-Err : goal.returns-in-Err
returns-in-Err c = refusal-fault c.args.words.now c.in-Err.fault c.in-Err.ensures
