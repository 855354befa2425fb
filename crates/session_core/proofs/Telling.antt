-- Each reply of a sound site can be told, and the site stays sound.
use Rattle.std.proofs.Common.{◌≡◌, ℕ, ◌^◌, List, Result, Ok, Err, IsTrue, refl, sym, ap, subst, ◌<◌, lt-ltb}
use Rattle.std.specs.Prelude.{IfOk, IsOk}
use Rattle.tardis_base.specs.declared.faults.NoMemory.{NoMemory as OutOfMemory}
use Rattle.tardis_base.specs.declared.records.Write.{Write}
use Rattle.tardis_base.specs.declared.records.Write.TheVariants.{Put as Value, Delete as Deletion}
use Rattle.tardis_base.specs.declared.replies.Reply.TheVariants.{Refused as RefusedWith}
use Rattle.tardis_base.specs.declared.replies.Reply.{Reply}
use Rattle.tardis_base.specs.declared.requests.Request.{Request}
use Rattle.tardis_base.specs.Valid.{is_u16}
use Rattle.wire_talk.specs.Valid.{is_request}
use Rattle.plain_site.specs.Answers.{Answer, with_txn}
use Rattle.plain_site.specs.Reads.{set_key}
use Rattle.plain_site.specs.Site.{Site}
use Rattle.plain_site.specs.Sound.{IsSound}
use Rattle.plain_site.specs.Step.{step}
use Rattle.plain_site.proofs.RepliesFit.{replies-fit}
use Rattle.plain_site.proofs.RepliesMemory.{never-wants-memory}
use Rattle.plain_site.proofs.SoundRequests.{request-keeps-sound}
use Rattle.session_core.specs.Core.{Core}
use Rattle.site_answers.specs.declared.stops.Stop.{Stop}
use Rattle.site_answers.specs.declared.stops.Stop.TheVariants.{Refused, NoMemory}
use Rattle.site_answers.specs.Told.{ToldAs}
use Rattle.session_core.specs.Gives.{Gives, GivesOrStops, IsGiven, NeedsNoMemory}
use Rattle.session_core.specs.Machine.{SiteStands, IsTold, opened_with, writing}
use Rattle.session_core.specs.Stands.{CoreStands, StandsForSite}
use Rattle.session_core.proofs.Settings.{step-same, opened-same}

-- a number of a session
pub small : (n : ℕ) → n < 2 ^ 16 → IsTrue (is_u16 n)
small n fits = lt-ltb n (2 ^ 16) fits

pub stays-sound : (site : Site) (n : ℕ) (q : Request) → IsTrue (is_u16 n) → IsTrue (is_request q) → IsSound site → IsSound (step site n q).0
stays-sound site n q below valid sound = request-keeps-sound q site n below valid sound

pub step-told : (site : Site) (n : ℕ) (q : Request) → IsTrue (is_request q) → IsSound site → (reply : Reply) → reply ≡ (step site n q).1 → IsTold reply
step-told site n q valid sound reply is = subst IsTold (sym is) (record {
  valid = replies-fit.valid site n q valid sound;
  short = replies-fit.short site n q valid sound;
  other = never-wants-memory.reply site n q;
})

-- the parts gave an answer, or stopped
abbrev pub Gave : Core → Core → ℕ → Request → Result Reply Stop → Type 0
Gave old new n q result = (site : Site) → CoreStands old site → IsSound site → GivesOrStops (CoreStands new) (step site n q) site result

module _ (old new : Core) (n : ℕ) (q : Request) (below : IsTrue (is_u16 n)) (valid : IsTrue (is_request q)) where
  -- what stood for a sound site stands for one
  pub told-sound : (result : Result Reply Stop) (reply : Result Reply OutOfMemory) → ToldAs result reply → Gave old new n q result → (site : Site) →
      SiteStands old site → Gives (SiteStands new) (step site n q) site reply
  told-sound (Ok reply) told is gave site (stands, sound) =
      let given = gave site stands sound in
      subst (Gives (SiteStands new) (step site n q) site) (sym is) ((given.0, stays-sound site n q below valid sound), given.1)
  told-sound (Err (Refused refusal)) told is gave site (stands, sound) =
      let given = gave site stands sound in
      subst (Gives (SiteStands new) (step site n q) site) (sym is)
      (subst (λ (a : Answer). IsGiven (SiteStands new) a (RefusedWith refusal)) (sym given.1) ((given.0, sound), refl))
  told-sound (Err NoMemory) (Ok reply) is gave site stands = absurd is
  told-sound (Err NoMemory) (Err fault) is gave site (stands, sound) = (gave site stands sound, sound)

  pub still-stands : (result : Result Reply Stop) → Gave old new n q result → StandsForSite old → StandsForSite new
  still-stands (Ok reply) gave before = record {
    site = (step before.site n q).0;
    stands = (gave before.site before.stands before.sound).0;
    sound = stays-sound before.site n q below valid before.sound;
  }
  still-stands (Err (Refused refusal)) gave before = record {
    site = before.site;
    stands = (gave before.site before.stands before.sound).0;
    sound =
        before.sound;
  }
  still-stands (Err NoMemory) gave before = record { site = before.site; stands = gave before.site before.stands before.sound; sound = before.sound }

  pub told-told : (result : Result Reply Stop) (reply : Result Reply OutOfMemory) → ToldAs result reply → Gave old new n q result → StandsForSite old →
      IfOk reply (λ r. IsTold r)
  told-told (Ok reply) told is gave before = subst (λ z. IfOk z (λ r. IsTold r)) (sym is)
      (step-told before.site n q valid before.sound reply (gave before.site before.stands before.sound).1)
  told-told (Err (Refused refusal)) told is gave before =
      subst (λ z. IfOk z (λ r. IsTold r)) (sym is)
      (step-told before.site n q valid before.sound (RefusedWith refusal) (ap (λ (a : Answer). a.1) (sym (gave before.site before.stands before.sound).1)))
  told-told (Err NoMemory) (Ok reply) is gave before = absurd is
  told-told (Err NoMemory) (Err fault) is gave before = tt

  pub gave-opening : (result : Result Reply Stop) → Gave old new n q result → StandsForSite old → opened_with new ≡ opened_with old
  gave-opening (Ok reply) gave before =
      opened-same old new before.site (step before.site n q).0 before.stands (gave before.site before.stands before.sound).0 (step-same before.site n q)
  gave-opening (Err (Refused refusal)) gave before = opened-same old new before.site before.site before.stands
      (gave before.site before.stands before.sound).0 (refl, refl)
  gave-opening (Err NoMemory) gave before = opened-same old new before.site before.site before.stands (gave before.site before.stands before.sound) (refl, refl)

-- no memory is wanting
pub told-sure : (result : Result Reply Stop) (reply : Result Reply OutOfMemory) → ToldAs result reply → NeedsNoMemory result → IsOk reply
told-sure (Ok r) reply is needs = subst (λ (z : Result Reply OutOfMemory). IsOk z) (sym is) refl
told-sure (Err (Refused refusal)) reply is needs = subst (λ (z : Result Reply OutOfMemory). IsOk z) (sym is) refl
told-sure (Err NoMemory) reply is needs = absurd needs

-- a write is asked for
pub writes-step : (site : Site) (n : ℕ) (k : List ℕ) (w : Write) → step site n (writing k w) ≡ with_txn site n (λ s t. set_key site n t k w)
writes-step site n k (Value v) = refl
writes-step site n k Deletion = refl
