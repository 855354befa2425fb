-- Of kept states all is told.
use Rattle.std.proofs.Common.{◌≡◌, true, not, List, [], ◌∷◌, Option, Some, None, IsTrue, refl, ap, ◌∙◌, find}
use Rattle.std.specs.Prelude.{option_map}
use Rattle.std.specs.List.{list_all}
use Rattle.std.specs.Option.{option_or, option_map_or}
use Rattle.std.proofs.lemmas.Bool.{and_parts, cond-false, not-true, not_from_true}
use Rattle.tardis_base.specs.declared.ids.StateId.{StateId}
use Rattle.tardis_base.specs.Ids.{is_among}
use Rattle.plain_dag.specs.States.{is_known}
use Rattle.plain_dag.specs.Begin.{first_unknown}
use Rattle.plain_dag.specs.Collection.{is_kept}
use Rattle.plain_site.specs.Site.{Site}
use Rattle.plain_questions.specs.declared.questions.Denial.TheVariants.{Unknown, Collected}
use Rattle.plain_questions.specs.declared.questions.Answered.{Answered}
use Rattle.plain_questions.specs.declared.questions.Answered.TheVariants.{Refused}
use Rattle.plain_questions.specs.Answer.{first_collected, of_kept}

none-unknown : (site : Site) (xs : List StateId) → IsTrue (list_all (is_kept site.dag site.collected) xs) → first_unknown site.dag xs ≡ None
none-unknown site [] h = refl
none-unknown site (x ∷ xs) h =
    let parts = and_parts (is_kept site.dag site.collected x) (list_all (is_kept site.dag site.collected) xs) h in
    let known = and_parts (is_known site.dag x) (not (is_among x site.collected)) parts.0 in
    cond-false (not (is_known site.dag x)) (Some x) (find (λ y. not (is_known site.dag y)) xs) (not_from_true (is_known site.dag x) known.0)
    ∙ none-unknown site xs parts.1

none-collected : (site : Site) (xs : List StateId) → IsTrue (list_all (is_kept site.dag site.collected) xs) → first_collected site xs ≡ None
none-collected site [] h = refl
none-collected site (x ∷ xs) h =
    let parts = and_parts (is_kept site.dag site.collected x) (list_all (is_kept site.dag site.collected) xs) h in
    let known = and_parts (is_known site.dag x) (not (is_among x site.collected)) parts.0 in
    cond-false (is_among x site.collected) (Some x) (find (λ y. is_among y site.collected) xs) (not-true (is_among x site.collected) known.1)
    ∙ none-collected site xs parts.1

pub kept-is-told : (site : Site) (xs : List StateId) (told : Answered) → IsTrue (list_all (is_kept site.dag site.collected) xs) →
    of_kept site xs told ≡ told
kept-is-told site xs told h =
    ap (λ (o : Option StateId). option_map_or Refused (option_or (option_map Unknown o) (option_map Collected (first_collected site xs))) told)
    (none-unknown site xs h)
    ∙ ap (λ (o : Option StateId). option_map_or Refused (option_map Collected o) told) (none-collected site xs h)

pub one-kept : (site : Site) (x : StateId) → IsTrue (is_kept site.dag site.collected x) → IsTrue (list_all (is_kept site.dag site.collected) (x ∷ []))
one-kept site x h = Rattle.std.proofs.lemmas.Bool.and_from (is_kept site.dag site.collected x) true h refl
