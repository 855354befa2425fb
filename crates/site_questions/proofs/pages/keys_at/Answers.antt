use Rattle.std.proofs.Common.{◌∙◌, ap, map, take}
use Rattle.std.specs.Prelude.{min}
use Rattle.site_questions.proofs.Orders.{Key}
use Rattle.site_questions.proofs.Paged.{keys-page}
use Rattle.site_questions.proofs.pages.keys_at.Goals as goal

pub returns : goal.returns
returns c = λ rs ks stands x named.
    keys-page rs x c.args.prefix.now c.args.after.now c.in_ok-keys.keys.items c.number_of.result c.in_ok-first_keys.field-0
    (c.in_ok-keys.ensures rs ks stands x named) (c.number_of.ensures ∙ ap (λ n. min n 4294967295) (c.len.ensures ∙ c.in_ok-keys.keys.ok.0))
    (c.in_ok-first_keys.ensures ∙ ap (λ ks. take 256 (map (λ (k : Key). k.now) ks)) c.as_slice.ensures.value)
