use Rattle.std.proofs.Common.{sym, refl}
use Rattle.shell_text.specs.ReplyTexts.{id_text, u32_text}
use Rattle.reply_text.proofs.ReplyReads.{counted-read}
use Rattle.reply_text.proofs.reply_list_readers.children.Goals as goal

pub returns-in-Some : goal.returns-in-Some
returns-in-Some c =
    counted-read u32_text id_text c.args.words.now c.in-Some.count c.in-Some.count c.in-Some.left c.ids.result (sym c.in-Some.ensures) refl c.ids.ensures
