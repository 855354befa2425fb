use Rattle.std.proofs.Common.{sym, refl}
use Rattle.shell_text.specs.ReplyTexts.{pair_text, u32_text}
use Rattle.reply_text.proofs.ReplyReads.{counted-read}
use Rattle.reply_text.proofs.reply_list_readers.path.Goals as goal

pub returns-in-Some : goal.returns-in-Some
returns-in-Some c =
    counted-read u32_text pair_text c.args.words.now c.in-Some.count c.in-Some.count c.in-Some.left c.pairs.result (sym c.in-Some.ensures) refl c.pairs.ensures
