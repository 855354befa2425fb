use Rattle.std.proofs.Common.{◌∙◌, codes, sym}
use Rattle.tardis_base.specs.declared.replies.Reply.TheVariants.{Committed}
use Rattle.wire_item.specs.Fronts.{both, made, whole}
use Rattle.wire_talk.specs.Memory.{reply_takes_no_memory}
use Rattle.shell_text.specs.ReplyTexts.{id_text, named, parents_text}
use Rattle.reply_text.proofs.PartReads.{whole-step, whole-stop}
use Rattle.shell_text.proofs.NamedReads.{answer-same}
use Rattle.reply_text.proofs.ReplyReads.{named-step, named-stop}
use Rattle.reply_text.proofs.reply_word_readers.read_committed.Goals as goal

pub returns-in-None : goal.returns-in-None
returns-in-None c =
    sym (whole-stop (λ p. Committed p.0 p.1) id_text (named (codes "from ") parents_text) c.args.words.now c.in-None.ensures)

pub returns-in-None-behind : goal.returns-in-None-behind
returns-in-None-behind c =
    sym (named-stop (λ xs. Committed c.in-Some.id xs) (codes "from ") parents_text c.in-Some.left c.in-None-behind.ensures
    ∙ whole-step (λ p. Committed p.0 p.1) id_text (named (codes "from ") parents_text) c.args.words.now c.in-Some.id c.in-Some.left c.in-Some.ensures)

pub returns-in-Some-behind : goal.returns-in-Some-behind
returns-in-Some-behind c =
    answer-same reply_takes_no_memory (whole (made (λ xs. Committed c.in-Some.id xs) parents_text) c.in-Some-behind.left)
    (whole (made (λ p. Committed p.0 p.1) (both id_text (named (codes "from ") parents_text))) c.args.words.now) c.read_committed_from.result
    (named-step (λ xs. Committed c.in-Some.id xs) (codes "from ") parents_text c.in-Some.left c.in-Some-behind.left c.in-Some-behind.ensures
    ∙ whole-step (λ p. Committed p.0 p.1) id_text (named (codes "from ") parents_text) c.args.words.now c.in-Some.id c.in-Some.left c.in-Some.ensures)
    c.read_committed_from.ensures
