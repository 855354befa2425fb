-- What is kept of a trail may be taken back.
use Rattle.std.proofs.Common.{◌≡◌, List, [], ◌∷◌, ◌++◌, Option, Some, None, IsTrue, inl, inr, refl, sym, subst, ◌∙◌}
use Rattle.std.specs.Prelude.{option_to_list}
use Rattle.std.specs.List.{list_all}
use Rattle.std.specs.Option.{option_and_then}
use Rattle.std.proofs.lemmas.Bool.{and_parts, and_from}
use Rattle.std.proofs.lemmas.Option.{none-some}
use Rattle.tardis_base.specs.declared.requests.Request.{Request}
use Rattle.tardis_base.specs.Plain.{Event}
use Rattle.tardis_base.specs.Valid.{is_u16}
use Rattle.wire_talk.specs.Laws.{RequestsHaveOneSpelling}
use Rattle.wire_talk.specs.RequestReadings.{request_of}
use Rattle.plain_site.specs.Site.{Site}
use Rattle.plain_site.specs.Step.{step, site_machine}
use Rattle.plain_site.specs.Sound.{IsSound}
use Rattle.plain_site.specs.Rest.{at_rest, Lasting, lasting_of, lasting_of_event, with_lasting, fits, all_fit, replay}
use Rattle.plain_site.specs.RestSpellings.{is_lasting, are_lasting}
use Rattle.plain_site.proofs.SoundRuns.{bytes-keep-sound}
use Rattle.rest_laws.specs.Trails.{lasting_of_answers}
use Rattle.rest_laws.specs.FitLaws.{KeptFits}
use Rattle.rest_laws.proofs.Trails.{event-adds, undone-lasts, done-lasts, same-heads}
use Rattle.rest_laws.proofs.Valid.{what-lasts-is-spelled}
use Rattle.rest_laws.proofs.Fitting.{what-lasts-fits}

module _ (read : RequestsHaveOneSpelling) where
  -- what lasts of an event to a sound site can be spelled, and may be taken back
  event-fits : (site : Site) (event : Event) (l : Lasting) → IsTrue (is_u16 event.0) → IsSound site → lasting_of_event site event ≡ Some l →
      IsTrue (is_lasting l) × IsTrue (fits (at_rest site) l)
  event-fits site (n, bytes) l small sound e = go (request_of bytes) refl e
    where
      go : (o : Option Request) → request_of bytes ≡ o → option_and_then (λ (q : Request). lasting_of q (step site n q)) o ≡ Some l →
          IsTrue (is_lasting l) × IsTrue (fits (at_rest site) l)
      go None is d = absurd (none-some l d)
      go (Some q) is d =
          let valid = ((read.some bytes q).0 is).0 in
          (what-lasts-is-spelled site n q l small valid sound d, what-lasts-fits site n q l small valid sound d)

  abbrev Fit : Site → List Lasting → Type 0
  Fit site kept = IsTrue (are_lasting kept) × IsTrue (all_fit (at_rest site) kept)

  one-fits : (site next : Site) (l : Lasting) (kept : List Lasting) → IsTrue (is_lasting l) × IsTrue (fits (at_rest site) l) →
      with_lasting l (at_rest site) ≡ at_rest next → Fit next kept → Fit site (l ∷ kept)
  one-fits site next l kept one same later = (
    and_from (is_lasting l) (are_lasting kept) one.0 later.0,
    and_from (fits (at_rest site) l) (all_fit (with_lasting l (at_rest site)) kept) one.1
        (subst (λ (s : Site). IsTrue (all_fit s kept)) (sym same) later.1),
  )

  pub kept-fits : KeptFits lasting_of_answers
  kept-fits site last events replies [] lost small sound h e = (refl, refl)
  kept-fits site last [] replies (k ∷ kept) lost small sound h e = absurd (cc)
  kept-fits site last (event ∷ events) [] (k ∷ kept) lost small sound h e = absurd (h)
  kept-fits site last (event ∷ events) (reply ∷ replies) (k ∷ kept) lost small sound (inr (is, sure, more)) e =
      let parts = and_parts (is_u16 event.0) (list_all (λ (d : Event). is_u16 d.0) events) small in
      kept-fits site last events replies (k ∷ kept) lost parts.1 sound more (sym (undone-lasts site event events reply replies is) ∙ e)
  kept-fits site last (event ∷ events) (reply ∷ replies) (k ∷ kept) lost small sound (inl (is, more)) e =
      let parts = and_parts (is_u16 event.0) (list_all (λ (d : Event). is_u16 d.0) events) small in
      let after = bytes-keep-sound read site event parts.0 sound in
      go (lasting_of_event site event) refl (event-adds site event) parts.0 (sym (done-lasts site event events reply replies is) ∙ e)
      (λ d. kept-fits (site_machine.step site event) last events replies (k ∷ kept) lost parts.1 after more d)
      (λ d. kept-fits (site_machine.step site event) last events replies kept lost parts.1 after more d)
    where
      next : Site
      next = site_machine.step site event

      go : (o : Option Lasting) → lasting_of_event site event ≡ o → replay (option_to_list o) (at_rest site) ≡ at_rest next → IsTrue (is_u16 event.0) →
          option_to_list o ++ lasting_of_answers next events replies ≡ k ∷ kept ++ lost →
          (lasting_of_answers next events replies ≡ k ∷ kept ++ lost → Fit next (k ∷ kept)) →
          (lasting_of_answers next events replies ≡ kept ++ lost → Fit next kept) → Fit site (k ∷ kept)
      go None is_none adds fine d all fewer =
          let same : at_rest site ≡ at_rest next = adds in
          let fit = all d in
          (fit.0, subst (λ (s : Site). IsTrue (all_fit s (k ∷ kept))) (sym same) fit.1)
      go (Some l) is_some adds fine d all fewer =
          let same = same-heads l k (lasting_of_answers next events replies) (kept ++ lost) d in
          subst (λ (m : Lasting). Fit site (m ∷ kept)) same.0
          (one-fits site next l kept (event-fits site event l fine sound is_some) adds (fewer same.1))
