use Rattle.std.proofs.Common.{◌≡◌, ◌^◌, true, arith, lt-ltb, sym, ◌∙◌}
use Rattle.tardis_base.specs.Keys.{are_ascending_keys}
use Rattle.tardis_base.specs.Valid.{is_u32}
use Rattle.wire_talk.specs.Valid.{are_first_keys, is_first_of}
use Rattle.shell_text.specs.RequestTexts.{key_text}
use Rattle.reply_text.proofs.ReplyReads.{first-keys-tested, ordered-read, ordered-other}
use Rattle.reply_text.proofs.reply_list_readers.first_keys.Goals as goal

pub returns-then-is_first_of : goal.returns-then-is_first_of
returns-then-is_first_of c =
    let fits : is_u32 c.args.total ≡ true = lt-ltb c.args.total (2 ^ 32) (omega arith) in
    ordered-read key_text (are_first_keys c.args.total) are_ascending_keys (is_first_of c.args.total) (first-keys-tested c.args.total fits)
    c.args.words.now c.count-count.result c.ascending_keys.result c.count-count.ensures
    (sym c.is_first_of.ensures ∙ c.if-is_first_of.true) c.ascending_keys.ensures

pub returns-else-is_first_of : goal.returns-else-is_first_of
returns-else-is_first_of c =
    let fits : is_u32 c.args.total ≡ true = lt-ltb c.args.total (2 ^ 32) (omega arith) in
    ordered-other key_text (are_first_keys c.args.total) are_ascending_keys (is_first_of c.args.total) (first-keys-tested c.args.total fits)
    c.args.words.now c.count-count.result c.count-count.ensures
    (sym c.is_first_of.ensures ∙ c.if-is_first_of.false)
