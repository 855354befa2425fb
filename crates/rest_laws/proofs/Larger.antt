-- What a site takes back under some limits, it takes back under larger ones.
use Rattle.std.proofs.Common.{◌≡◌, ℕ, ◌≤◌, ◌<◌, List, [], ◌∷◌, length, None, is_none, IsTrue, refl, sym, ap, subst, ◌∙◌, arith}
use Rattle.std.specs.Prelude.{nat_le}
use Rattle.std.specs.List.{list_all}
use Rattle.std.proofs.lemmas.Bool.{and_parts, and_from}
use Rattle.std.proofs.lemmas.List.Folds.{list_all-append}
use Rattle.tardis_base.specs.declared.ids.StateId.{StateId}
use Rattle.tardis_base.specs.declared.records.Record.{Record}
use Rattle.tardis_base.specs.declared.records.Consent.{Consent}
use Rattle.tardis_base.specs.declared.records.Limits.{Limits}
use Rattle.tardis_base.specs.declared.records.Item.TheVariants.{State, Promise}
use Rattle.tardis_base.specs.declared.replies.Refusal.{Refusal}
use Rattle.tardis_base.specs.Valid.{is_within}
use Rattle.plain_dag.specs.States.{states}
use Rattle.plain_dag.specs.Collection.{kept_states}
use Rattle.plain_dag.specs.Growth.{growth_refusal}
use Rattle.plain_site.specs.Site.{Site}
use Rattle.plain_site.specs.Answers.{refuse_found}
use Rattle.plain_site.specs.Commits.{growth_refusals}
use Rattle.plain_site.specs.Exchange.{judgements, consent_judgements}
use Rattle.plain_site.specs.Sound.{IsSound, IsSoundRoom}
use Rattle.plain_site.specs.Rest.{at_rest, Lasting, News, Collection, with_lasting, nameless, fits, all_fit, replay}
use Rattle.plain_site.specs.RestSpellings.{is_lasting, are_lasting}
use Rattle.plain_site.proofs.SoundAnswers.{found-none, none-parts, none-appended}
use Rattle.plain_site.proofs.SoundArrivals.{may-grow}
use Rattle.rest_laws.specs.LimitLaws.{under, AreWithin, LargerLimitsTakeBack, LargerLimitsKeepSound, SmallerLimitsMayRefuse}
use Rattle.rest_laws.proofs.Fitting.{none-first, unrefused, grows-within, rests-still, one-keeps}

-- ===== One thing

-- where the history may grow, it may under larger limits
grows-larger : (limits larger : Limits) (ks : List StateId) (rs : List Record) (r : Record) → AreWithin limits larger →
    length (kept_states rs ks) ≤ limits.max_kept → growth_refusal limits ks rs r ≡ None → growth_refusal larger ks rs r ≡ None
grows-larger limits larger ks rs r within few grows =
    let growth = may-grow limits ks rs r grows in
    let full = growth.room in
    let kept = within.kept in
    let room : length (kept_states rs ks) < larger.max_kept = omega arith in
    grows-within larger ks rs r room (λ x is. omega (arith, growth.short x is, within.path))

module _ (site : Site) (larger : Limits) (within : AreWithin site.limits larger) where
  -- the judgements look at no limit but how many sites there are
  record-judged : (r : Record) → judgements (nameless (under larger site)) r ≡ judgements (nameless site) r
  record-judged r =
      subst (λ (n : ℕ). judgements (nameless (under (record larger { sites = n }) site)) r ≡ judgements (nameless site) r) within.sites refl

  promise-judged : (c : Consent) → consent_judgements (nameless (under larger site)) c ≡ consent_judgements (nameless site) c
  promise-judged c =
      subst (λ (n : ℕ). consent_judgements (nameless (under (record larger { sites = n }) site)) c ≡ consent_judgements (nameless site) c) within.sites
      refl

  record-fits-larger : (r : Record) → length (kept_states site.dag site.collected) ≤ site.limits.max_kept → IsTrue (fits site (News (State r))) →
      IsTrue (fits (under larger site) (News (State r)))
  record-fits-larger r few fit =
      let grown = growth_refusal site.limits site.collected site.dag r in
      let grown_larger = growth_refusal larger site.collected site.dag r in
      let parts = none-appended (judgements (nameless site) r) (growth_refusals site r) fit in
      let grows = found-none (λ (f : Refusal). f) grown (none-parts (refuse_found (λ (f : Refusal). f) grown) [] parts.1).0 in
      let grows_larger = grows-larger site.limits larger site.collected site.dag r within few grows in
      list_all-append is_none (judgements (nameless (under larger site)) r) (growth_refusals (under larger site) r)
      ∙ and_from (list_all is_none (judgements (nameless (under larger site)) r)) (list_all is_none (growth_refusals (under larger site) r))
      (ap (list_all is_none) (record-judged r) ∙ parts.0)
      (none-first (refuse_found (λ (f : Refusal). f) grown_larger) [] (unrefused (λ (f : Refusal). f) grown_larger grows_larger) refl)

  fits-larger : (l : Lasting) → length (kept_states site.dag site.collected) ≤ site.limits.max_kept → IsTrue (fits site l) →
      IsTrue (fits (under larger site) l)
  fits-larger (News (State r)) few fit = record-fits-larger r few fit
  fits-larger (News (Promise c)) few fit = ap (list_all is_none) (promise-judged c) ∙ fit
  fits-larger (Collection count) few fit = fit

-- what it makes of the site doesn't depend on the limits, and leaves them
pub lasting-larger : (site : Site) (larger : Limits) (l : Lasting) → with_lasting l (under larger site) ≡ under larger (with_lasting l site)
lasting-larger site larger (News (State r)) = refl
lasting-larger site larger (News (Promise c)) = refl
lasting-larger site larger (Collection count) = refl

pub limits-stay : (site : Site) (l : Lasting) → site.limits ≡ (with_lasting l site).limits
limits-stay site (News (State r)) = refl
limits-stay site (News (Promise c)) = refl
limits-stay site (Collection count) = refl

-- ===== Several things

-- they fit under larger limits, and make the same of the site
abbrev Taken : Site → Limits → List Lasting → Type 0
Taken site larger ls = IsTrue (all_fit (under larger site) ls) × (replay ls (under larger site) ≡ under larger (replay ls site))

one-more : (site : Site) (larger : Limits) (l : Lasting) (later : List Lasting) → IsTrue (fits (under larger site) l) →
    Taken (with_lasting l site) larger later → Taken site larger (l ∷ later)
one-more site larger l later fit taken =
    let same = sym (lasting-larger site larger l) in (
      and_from (fits (under larger site) l) (all_fit (with_lasting l (under larger site)) later) fit
          (subst (λ (s : Site). IsTrue (all_fit s later)) same taken.0),
      subst (λ (s : Site). replay later s ≡ under larger (replay later (with_lasting l site))) same taken.1,
    )

pub larger-limits-take-back : LargerLimitsTakeBack
larger-limits-take-back site larger [] sound within valid fit = (refl, refl)
larger-limits-take-back site larger (l ∷ later) sound within valid fit =
    let next = with_lasting l (at_rest site) in
    let valid_parts = and_parts (is_lasting l) (are_lasting later) valid in
    let fit_parts = and_parts (fits (at_rest site) l) (all_fit next later) fit in
    let still = rests-still site l in
    let is_sound = one-keeps site l sound valid_parts.0 fit_parts.0 in
    let within_next = subst (λ (m : Limits). AreWithin m larger) (limits-stay (at_rest site) l) within in
    one-more (at_rest site) larger l later (fits-larger (at_rest site) larger within l sound.few_kept fit_parts.0)
    (subst (λ (s : Site). Taken s larger later) (sym still)
    (larger-limits-take-back next larger later (subst IsSound still is_sound) within_next valid_parts.1
    (subst (λ (s : Site). IsTrue (all_fit s later)) still fit_parts.1)))

-- ===== The site itself

pub larger-limits-keep-sound : LargerLimitsKeepSound
larger-limits-keep-sound site larger sound within valid =
    let sites = within.sites in
    record {
      limits = valid;
      own = subst (λ (n : ℕ). IsTrue (is_within 1 n site.own)) sites sound.own;
      dag = sound.dag;
      of_the_sites = subst (λ (n : ℕ). IsTrue (list_all (λ (x : StateId). nat_le x.site n) (states site.dag))) sites sound.of_the_sites;
      few_kept = omega (arith, sound.few_kept, within.kept);
      short_paths = λ x is. omega (arith, sound.short_paths x is, within.path);
      few_children = λ x. omega (arith, sound.few_children x, within.kept);
      few_sessions = omega arith;
      session_numbers = sound.session_numbers;
      each_session = sound.each_session;
      txn_numbers = sound.txn_numbers;
      each_txn = sound.each_txn;
      one_floor_each = sound.one_floor_each ∙ sites;
      each_floor = sound.each_floor;
      under_floor = sound.under_floor;
      collected = sound.collected;
      collected_once = sound.collected_once;
      waiting = subst (λ (n : ℕ). IsSoundRoom n site.own []) sites sound.waiting;
    }

-- ===== Smaller limits

pub smaller-limits-may-refuse : SmallerLimitsMayRefuse
smaller-limits-may-refuse = (refl, record { sites = refl; kept = omega arith; path = omega arith }, refl, refl, refl)
