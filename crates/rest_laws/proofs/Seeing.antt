-- What is kept of events is had by looking at the site behind each answer.
use Rattle.std.proofs.Common.{◌≡◌, ℕ, List, [], ◌∷◌, ◌++◌, Option, Some, None, inl, inr, refl, sym, ap, ◌∙◌, append_assoc}
use Rattle.std.specs.Prelude.{option_to_list}
use Rattle.std.specs.Option.{option_and_then}
use Rattle.tardis_base.specs.declared.requests.Request.{Request}
use Rattle.tardis_base.specs.declared.replies.Refusal.TheVariants.{Malformed}
use Rattle.tardis_base.specs.Plain.{Event, Answers}
use Rattle.wire_talk.specs.Laws.{RequestsHaveOneSpelling}
use Rattle.wire_talk.specs.RequestReadings.{request_of}
use Rattle.plain_site.specs.Site.{Site}
use Rattle.plain_site.specs.Answers.{refused, given}
use Rattle.plain_site.specs.Step.{step, site_machine}
use Rattle.plain_site.specs.Sound.{IsSound}
use Rattle.plain_site.specs.Rest.{Lasting, lasting_of, lasting_of_event, lasting_between}
use Rattle.rest_laws.specs.Trails.{lasting_of_answers, IsKeptAsSeen}
use Rattle.rest_laws.proofs.Trails.{undone-lasts, done-lasts}
use Rattle.rest_laws.proofs.Seen.{nothing-between, what-lasts-is-seen}

module _ (read : RequestsHaveOneSpelling) where
  event-is-seen : (site : Site) (event : Event) → IsSound site → lasting_of_event site event ≡ lasting_between site (site_machine.step site event)
  event-is-seen site (n, bytes) sound = go (request_of bytes) refl
    where
      go : (o : Option Request) → request_of bytes ≡ o →
          option_and_then (λ (q : Request). lasting_of q (step site n q)) o ≡ lasting_between site (given o (refused site Malformed) (step site n)).0
      go None is = sym (nothing-between site)
      go (Some q) is = what-lasts-is-seen site n q ((read.some bytes q).0 is).0 sound

  alone : (o : Option Lasting) → option_to_list o ++ [] ≡ option_to_list o
  alone None = refl
  alone (Some l) = refl

  one-is-seen : (site next : Site) (event : Event) (reply : List ℕ) → IsSound site → Answers site_machine site (event ∷ []) (reply ∷ []) next →
      lasting_of_answers site (event ∷ []) (reply ∷ []) ≡ option_to_list (lasting_between site next)
  one-is-seen site next event reply sound (inl (is, same)) =
      done-lasts site event [] reply [] is
      ∙ (alone (lasting_of_event site event)
      ∙ (ap (λ (o : Option Lasting). option_to_list o) (event-is-seen site event sound)
      ∙ ap (λ (s : Site). option_to_list (lasting_between site s)) (sym same)))
  one-is-seen site next event reply sound (inr (is, sure, same)) =
      undone-lasts site event [] reply [] is
      ∙ (ap (λ (o : Option Lasting). option_to_list o) (sym (nothing-between site)) ∙ ap (λ (s : Site). option_to_list (lasting_between site s)) (sym same))

  later-is-behind : (site between : Site) (older newer : List Event) (older_replies newer_replies : List (List ℕ)) →
      Answers site_machine site older older_replies between →
      lasting_of_answers site (older ++ newer) (older_replies ++ newer_replies)
      ≡ lasting_of_answers site older older_replies ++ lasting_of_answers between newer newer_replies
  later-is-behind site between [] newer [] newer_replies h = ap (λ (s : Site). lasting_of_answers s newer newer_replies) (sym h)
  later-is-behind site between [] newer (reply ∷ older_replies) newer_replies h = absurd (h)
  later-is-behind site between (event ∷ older) newer [] newer_replies h = absurd (h)
  later-is-behind site between (event ∷ older) newer (reply ∷ older_replies) newer_replies (inl (is, more)) =
      let next = site_machine.step site event in
      let here = option_to_list (lasting_of_event site event) in
      let rest = lasting_of_answers between newer newer_replies in
      done-lasts site event (older ++ newer) reply (older_replies ++ newer_replies) is
      ∙ (ap (λ (ls : List Lasting). here ++ ls) (later-is-behind next between older newer older_replies newer_replies more)
      ∙ (sym (append_assoc here (lasting_of_answers next older older_replies) rest)
      ∙ ap (λ (ls : List Lasting). ls ++ rest) (sym (done-lasts site event older reply older_replies is))))
  later-is-behind site between (event ∷ older) newer (reply ∷ older_replies) newer_replies (inr (is, sure, more)) =
      let rest = lasting_of_answers between newer newer_replies in
      undone-lasts site event (older ++ newer) reply (older_replies ++ newer_replies) is
      ∙ (later-is-behind site between older newer older_replies newer_replies more
      ∙ ap (λ (ls : List Lasting). ls ++ rest) (sym (undone-lasts site event older reply older_replies is)))

  pub is-kept-as-seen : IsKeptAsSeen lasting_of_answers
  is-kept-as-seen = record { one = one-is-seen; later = later-is-behind }
