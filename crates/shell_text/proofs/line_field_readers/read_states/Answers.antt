use Rattle.std.proofs.Common.{sym, ◌∙◌}
use Rattle.tardis_base.specs.declared.requests.MergeOf.TheVariants.{States}
use Rattle.tardis_base.specs.Valid.{is_within}
use Rattle.text_words.specs.Texts.{id_until}
use Rattle.wire_talk.specs.Valid.{is_merge_of}
use Rattle.shell_text.proofs.LineReads.{list-read, list-other, states-tested}
use Rattle.shell_text.proofs.line_field_readers.read_states.Goals as goal

pub returns-then-is_state_count : goal.returns-then-is_state_count
returns-then-is_state_count c =
    list-read (id_until 32) (λ states. is_merge_of (States states)) (λ n. is_within 1 255 n) states-tested c.args.words.now c.count-count.result
    c.ids.result c.count-count.ensures
    (sym c.is_state_count.ensures ∙ c.if-is_state_count.true) c.ids.ensures

pub returns-else-is_state_count : goal.returns-else-is_state_count
returns-else-is_state_count c =
    list-other (id_until 32) (λ states. is_merge_of (States states)) (λ n. is_within 1 255 n) states-tested c.args.words.now c.count-count.result
    c.count-count.ensures
    (sym c.is_state_count.ensures ∙ c.if-is_state_count.false)
