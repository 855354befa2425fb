-- Replies that are written as bytes.
use Rattle.std.proofs.Common.{◌≡◌, ℕ, List, [], Result, Ok, Err, IsTrue, refl, sym, ap, subst, ◌∙◌}
use Rattle.tardis_base.specs.declared.replies.Refusal.{Refusal}
use Rattle.tardis_base.specs.declared.replies.Reply.{Reply}
use Rattle.tardis_base.specs.declared.replies.Reply.TheVariants.{Refused as RefusedWith}
use Rattle.tardis_base.specs.declared.requests.Request.{Request}
use Rattle.tardis_base.specs.Valid.{is_u16}
use Rattle.wire_talk.specs.Valid.{is_request}
use Rattle.wire_talk.specs.Spellings.{reply_spelling}
use Rattle.plain_site.specs.Answers.{Answer}
use Rattle.plain_site.specs.Site.{Site}
use Rattle.plain_site.specs.Sound.{IsSound}
use Rattle.plain_site.specs.Step.{step}
use Rattle.site_answers.specs.declared.stops.Stop.{Stop}
use Rattle.site_answers.specs.declared.stops.Stop.TheVariants.{Refused, NoMemory}
use Rattle.session_core.specs.Core.{Core}
use Rattle.session_core.specs.Gives.{Does}
use Rattle.session_core.specs.Machine.{SiteStands, IsTold, WritesOrStops, Wrote, opened_with}
use Rattle.session_core.specs.Stands.{CoreStands, StandsForSite}
use Rattle.session_core.proofs.Settings.{step-same, opened-same}
use Rattle.session_core.proofs.Telling.{stays-sound, step-told}

module _ (old : Core) (n : ℕ) (q : Request) (valid : IsTrue (is_request q)) (before : StandsForSite old) where
  -- the reply can be told
  pub reply-told : (reply : Reply) → ((site : Site) → CoreStands old site → IsSound site → (step site n q).1 ≡ reply) → IsTold reply
  reply-told reply is = step-told before.site n q valid before.sound reply (sym (is before.site before.stands before.sound))

  -- so can that of what was done
  pub done-told : {A : Type 0} (reply : A → Reply) (new : Core) (done : A) → Does reply old new (Ok done) (λ site. step site n q) → IsTold (reply done)
  done-told reply new done does = reply-told (reply done) (λ site stands sound. sym (does site stands sound).1)

  module _ (new : Core) (out : List ℕ) where
    pub refusal-told : (stop : Stop) (refusal : Refusal) → stop ≡ Refused refusal → Wrote old new n q (Err stop) out → IsTold (RefusedWith refusal)
    refusal-told stop refusal e wrote =
        reply-told (RefusedWith refusal)
        (λ site stands sound. ap (λ (a : Answer). a.1) (subst (λ s. WritesOrStops (CoreStands new) (step site n q) site (Err s) out) e
        (wrote site stands sound)).0.1)

    module _ (small : IsTrue (is_u16 n)) where
      pub wrote-stands : (r : Result (Unit {0}) Stop) → Wrote old new n q r out → StandsForSite new
      wrote-stands (Ok u) wrote =
          record {
            site = (step before.site n q).0;
            stands = (wrote before.site before.stands before.sound).0;
            sound =
                stays-sound before.site n q small valid before.sound;
          }
      wrote-stands (Err (Refused refusal)) wrote = record {
        site = before.site;
        stands = (wrote before.site before.stands before.sound).0.0;
        sound =
            before.sound;
      }
      wrote-stands (Err NoMemory) wrote = record { site = before.site; stands = (wrote before.site before.stands before.sound).0; sound = before.sound }

    pub wrote-opening : (r : Result (Unit {0}) Stop) → Wrote old new n q r out → opened_with new ≡ opened_with old
    wrote-opening (Ok u) wrote = opened-same old new before.site (step before.site n q).0 before.stands (wrote before.site before.stands before.sound).0
        (step-same before.site n q)
    wrote-opening (Err (Refused refusal)) wrote = opened-same old new before.site before.site before.stands
        (wrote before.site before.stands before.sound).0.0 (refl, refl)
    wrote-opening (Err NoMemory) wrote = opened-same old new before.site before.site before.stands (wrote before.site before.stands before.sound).0 (refl, refl)

module _ (old new : Core) (n : ℕ) (q : Request) (valid : IsTrue (is_request q)) (small : IsTrue (is_u16 n)) (site : Site) (at : SiteStands old site)
    (out : List ℕ) where
  -- it was written
  pub is-written : (u : Unit {0}) (after : List ℕ) → Wrote old new n q (Ok u) out → after ≡ out → SiteStands new (step site n q).0
      × (after ≡ reply_spelling (step site n q).1)
  is-written u after wrote e = let w = wrote site at.0 at.1 in ((w.0, stays-sound site n q small valid at.1), e ∙ w.1)

  -- it was refused, and then the refusal was written
  pub is-refused : (stop : Stop) (refusal : Refusal) (after : List ℕ) → stop ≡ Refused refusal → Wrote old new n q (Err stop) out →
      after ≡ reply_spelling (RefusedWith refusal) →
      SiteStands new (step site n q).0 × (after ≡ reply_spelling (step site n q).1)
  is-refused stop refusal after e wrote written =
      let w = subst (λ s. WritesOrStops (CoreStands new) (step site n q) site (Err s) out) e (wrote site at.0 at.1) in
      subst (λ (a : Answer). SiteStands new a.0 × (after ≡ reply_spelling a.1)) (sym w.0.1) ((w.0.0, at.1), written)

  -- there was no memory
  pub is-short : (stop : Stop) (after : List ℕ) → stop ≡ NoMemory → Wrote old new n q (Err stop) out → after ≡ out → SiteStands new site × (after ≡ [])
  is-short stop after e wrote same =
      let w = subst (λ s. WritesOrStops (CoreStands new) (step site n q) site (Err s) out) e (wrote site at.0 at.1) in
      ((w.0, at.1), same ∙ w.1)
