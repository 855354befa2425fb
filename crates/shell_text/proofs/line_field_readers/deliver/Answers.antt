use Rattle.shell_text.proofs.LineReads.{no-item, many-digits}
use Rattle.shell_text.proofs.line_field_readers.deliver.Goals as goal

pub returns-then-size-gt-MOST_ITEM : goal.returns-then-size-gt-MOST_ITEM
returns-then-size-gt-MOST_ITEM c =
    no-item c.things_have_one_spelling.ensures.item c.spellings_have_their_lengths.ensures.record c.spellings_have_their_lengths.ensures.bound
    c.spellings_have_their_lengths.ensures.consent
    c.args.word.now (many-digits c.args.word.now c.if-size-gt-MOST_ITEM.true)
