use Rattle.std.proofs.Common.{◌∙◌, ap, map}
use Rattle.std.specs.Prelude.{min, filter_map}
use Rattle.plain_questions.specs.Answer.{first_entries}
use Rattle.plain_questions.specs.Contents.{entry_at}
use Rattle.site_questions.proofs.Orders.{Key}
use Rattle.site_questions.proofs.Paged.{entries-page}
use Rattle.site_questions.proofs.pages.entries_at.Goals as goal

pub returns : goal.returns
returns c = λ rs ks stands x named.
    entries-page rs x c.args.prefix.now c.args.after.now c.in_ok-keys.keys.items c.number_of.result c.in_ok-entries_of.field-0
    (c.in_ok-keys.ensures rs ks stands x named) (c.number_of.ensures ∙ ap (λ n. min n 4294967295) (c.len.ensures ∙ c.in_ok-keys.keys.ok.0))
    (c.in_ok-entries_of.ensures rs ks stands x named
    ∙ ap (λ ks. first_entries (filter_map (entry_at rs x) (map (λ (k : Key). k.now) ks))) c.as_slice.ensures.value)
