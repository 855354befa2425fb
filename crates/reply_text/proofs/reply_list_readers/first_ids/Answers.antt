use Rattle.std.proofs.Common.{◌≡◌, ◌^◌, true, arith, lt-ltb, sym, ◌∙◌}
use Rattle.tardis_base.specs.Valid.{is_u32}
use Rattle.wire_talk.specs.Valid.{are_first_ids, is_first_of}
use Rattle.shell_text.specs.ReplyTexts.{id_text}
use Rattle.shell_text.proofs.LineReads.{list-read, list-other}
use Rattle.reply_text.proofs.ReplyReads.{first-ids-tested}
use Rattle.reply_text.proofs.reply_list_readers.first_ids.Goals as goal

pub returns-then-is_first_of : goal.returns-then-is_first_of
returns-then-is_first_of c =
    let fits : is_u32 c.args.total ≡ true = lt-ltb c.args.total (2 ^ 32) (omega arith) in
    list-read id_text (are_first_ids c.args.total) (is_first_of c.args.total) (first-ids-tested c.args.total fits) c.args.words.now c.count-count.result
    c.ids.result c.count-count.ensures
    (sym c.is_first_of.ensures ∙ c.if-is_first_of.true) c.ids.ensures

pub returns-else-is_first_of : goal.returns-else-is_first_of
returns-else-is_first_of c =
    let fits : is_u32 c.args.total ≡ true = lt-ltb c.args.total (2 ^ 32) (omega arith) in
    list-other id_text (are_first_ids c.args.total) (is_first_of c.args.total) (first-ids-tested c.args.total fits) c.args.words.now c.count-count.result
    c.count-count.ensures
    (sym c.is_first_of.ensures ∙ c.if-is_first_of.false)
