-- The words in which the step is told, where their tests are decided, and what a stop gives.
use Rattle.std.proofs.Common.{◌≡◌, Bool, true, false, List, ◌∷◌, Option, Some, None, Result, Ok, Err, refl, sym, ap, subst}
use Rattle.std.specs.Result.{IsErrAnd}
use Rattle.tardis_base.specs.declared.replies.Refusal.{Refusal}
use Rattle.tardis_base.specs.declared.replies.Reply.{Reply}
use Rattle.plain_site.specs.Site.{Site}
use Rattle.plain_site.specs.Answers.{Answer, refused, when, refuse_found, unless}
use Rattle.site_answers.specs.declared.stops.Stop.{Stop}
use Rattle.site_answers.specs.declared.stops.Stop.TheVariants.{Refused, NoMemory}
use Rattle.session_core.specs.Gives.{DoesOrStops, IsGiven, GivesOrStops, Stops}

module _ (site : Site) (reply : Reply) (more : List (Option Reply)) (answer : Answer) where
  -- a reply that isn't given
  pub skip : (test : Bool) → test ≡ false → unless site (when test reply ∷ more) answer ≡ unless site more answer
  skip true e = (cc)
  skip false e = refl

  -- a reply that is given
  pub stop : (test : Bool) → test ≡ true → unless site (when test reply ∷ more) answer ≡ (site, reply)
  stop true e = refl
  stop false e = (cc)

-- the first refusal of what was found
pub stop-found : {A : Type 0} (site : Site) (refusal : A → Refusal) (o : Option A) (a : A) (more : List (Option Reply)) (answer : Answer) → o ≡ Some a →
    unless site (refuse_found refusal o ∷ more) answer ≡ refused site (refusal a)
stop-found site refusal o a more answer e = ap (λ z. unless site (refuse_found refusal z ∷ more) answer) e

pub skip-found : {A : Type 0} (site : Site) (refusal : A → Refusal) (o : Option A) (more : List (Option Reply)) (answer : Answer) → ◌≡◌ {A = Option A} o None →
    unless site (refuse_found refusal o ∷ more) answer ≡ unless site more answer
skip-found site refusal o more answer e = ap (λ z. unless site (refuse_found refusal z ∷ more) answer) e

-- one answer for another
pub as-given : (stands : Site → Type 0) (a b : Answer) (reply : Reply) → a ≡ b → IsGiven stands b reply → IsGiven stands a reply
as-given stands a b reply e h = subst (λ z. IsGiven stands z reply) (sym e) h

-- what a stop gives
module _ (stands : Site → Type 0) (answer : Answer) (site : Site) where
  pub stopped : (what : Stop) (r : Result Reply Stop) → IsErrAnd r (λ stop. stop ≡ what) → Stops stands answer site what → GivesOrStops stands answer site r
  stopped what (Ok reply) is stops = absurd is
  stopped what (Err stop) is stops = subst (Stops stands answer site) (sym is) stops

  pub stops-refused : (refusal : Refusal) (r : Result Reply Stop) → IsErrAnd r (λ stop. stop ≡ Refused refusal) → stands site →
      answer ≡ refused site refusal → GivesOrStops stands answer site r
  stops-refused refusal r is there e = stopped (Refused refusal) r is (there, e)

  pub stops-short : (r : Result Reply Stop) → IsErrAnd r (λ stop. stop ≡ NoMemory) → stands site → GivesOrStops stands answer site r
  stops-short r is there = stopped NoMemory r is there

-- one answer for another
pub as-answer : (stands : Site → Type 0) (a b : Answer) (site : Site) (r : Result Reply Stop) → a ≡ b → GivesOrStops stands b site r →
    GivesOrStops stands a site r
as-answer stands a b site r e h = subst (λ z. GivesOrStops stands z site r) (sym e) h

-- the same of what is done
pub as-done : {A : Type 0} (reply : A → Reply) (stands : Site → Type 0) (a b : Answer) (site : Site) (r : Result A Stop) → a ≡ b →
    DoesOrStops reply stands b site r → DoesOrStops reply stands a site r
as-done reply stands a b site r e h = subst (λ z. DoesOrStops reply stands z site r) (sym e) h

pub does-stop : {A : Type 0} (reply : A → Reply) (stands : Site → Type 0) (answer : Answer) (site : Site) (what : Stop) (r : Result A Stop) →
    IsErrAnd r (λ stop. stop ≡ what) → Stops stands answer site what → DoesOrStops reply stands answer site r
does-stop reply stands answer site what (Ok a) is stops = absurd is
does-stop reply stands answer site what (Err stop) is stops = subst (Stops stands answer site) (sym is) stops
