use Rattle.wire_item.specs.Fronts.{counted, made, times, whole}
use Rattle.tardis_base.specs.declared.replies.Reply.TheVariants.{Shown}
use Rattle.std.specs.Prelude.{option_map}
use Rattle.std.proofs.Common.{sym}
use Rattle.wire_talk.specs.Memory.{reply_takes_no_memory}
use Rattle.shell_text.specs.ReplyTexts.{pair_text, shown_text, u32_text}
use Rattle.shell_text.proofs.NamedReads.{answer-same}
use Rattle.reply_text.proofs.ReplyReads.{shown-whole}
use Rattle.reply_text.proofs.reply_word_readers.read_shown.Goals as goal

pub returns-in-Some-behind-2 : goal.returns-in-Some-behind-2
returns-in-Some-behind-2 c =
    let children = c.in-Some-children.ensures in
    let paths = counted u32_text (times pair_text) in
    let at = c.in-Some-behind-2.left in
    answer-same reply_takes_no_memory (option_map (λ ps. Shown c.in-Some.arrival children.0 ps) (whole paths at))
    (whole (made (λ p. Shown p.0 p.1.0 p.1.1) shown_text) c.args.words.now) c.shown.result
    (sym (shown-whole c.args.words.now c.in-Some.arrival c.in-Some.left c.in-Some-behind.left children.0 c.in-Some-children.left at
    c.in-Some.ensures c.in-Some-behind.ensures children.1 c.in-Some-behind-2.ensures))
    (c.shown.ensures children.0 (whole paths at) children.2 (c.list_alone.ensures paths at c.path.ensures))
