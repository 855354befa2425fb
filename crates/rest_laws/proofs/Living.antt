-- Two lives are one run.
use Rattle.std.proofs.Common.{◌≡◌, ◌⊎◌, ℕ, List, [], ◌∷◌, ◌++◌, Option, Some, None, is_none, IsTrue, IsFalse}
use Rattle.std.proofs.Common.{inl, inr, refl, sym, ap, subst, ◌∙◌}
use Rattle.std.specs.Prelude.{◌&&◌, if◌then◌else◌}
use Rattle.std.specs.List.{list_all}
use Rattle.std.proofs.lemmas.Bool.{and_from, cases_Bool, cond-false}
use Rattle.std.proofs.lemmas.List.Folds.{list_all-append}
use Rattle.tardis_base.specs.declared.records.Record.{Record}
use Rattle.tardis_base.specs.declared.records.Item.TheVariants.{State, Promise}
use Rattle.tardis_base.specs.declared.requests.Request.{Request}
use Rattle.tardis_base.specs.declared.requests.Request.TheVariants.{Get, Deliver, Settle}
use Rattle.tardis_base.specs.declared.replies.Refusal.{Refusal}
use Rattle.tardis_base.specs.declared.replies.Reply.{Reply}
use Rattle.tardis_base.specs.declared.replies.Reply.TheVariants.{Applied, Early, Done, NoMemory}
use Rattle.tardis_base.specs.Valid.{is_u16}
use Rattle.wire_talk.specs.Valid.{is_request}
use Rattle.plain_dag.specs.Growth.{growth_refusal}
use Rattle.plain_site.specs.Site.{Site}
use Rattle.plain_site.specs.Answers.{Answer, says_early, refuse_found, unless, given}
use Rattle.plain_site.specs.Commits.{with_record, growth_refusals}
use Rattle.plain_site.specs.Exchange.{judgements, take_record, with_held, deliver_record, is_fit, first_fit_record, with_settled, settle_record, settle}
use Rattle.plain_site.specs.Step.{step}
use Rattle.plain_site.specs.Sound.{IsSound, may_wait}
use Rattle.plain_site.specs.RowWords.{Line, ◌asks◌=>◌}
use Rattle.plain_site.specs.ClientRuns.{Service, wants_memory, after_line, site_after, IsAnswered, AreAnswered}
use Rattle.plain_site.proofs.RepliesSite.{early-records-wait}
use Rattle.plain_site.proofs.RepliesMemory.{never-wants-memory}
use Rattle.plain_site.proofs.SoundAnswers.{AreNone}
use Rattle.plain_site.proofs.SoundDeliveries.{waiting-is-record}
use Rattle.plain_site.proofs.SoundRooms.{first-is-fit}
use Rattle.rest_laws.specs.Lives.{as_if_none_waited}
use Rattle.rest_laws.proofs.Dry.{dry, meets_waiting, step-dry, take-dry}

-- ===== Lines behind lines

module _ (service : Service) (start : Site) (first : List Line) where
  pub site-appended : (later : List Line) → site_after service start (later ++ first) ≡ site_after service (site_after service start first) later
  site-appended [] = refl
  site-appended (line ∷ later) = ap (λ (s : Site). after_line service s line) (site-appended later)

  pub answered-appended : AreAnswered service start first → (later : List Line) → AreAnswered service (site_after service start first) later →
      AreAnswered service start (later ++ first)
  answered-appended h [] k = h
  answered-appended h (line ∷ later) k =
      (k.0, subst (λ (s : Site). IsAnswered service s line) (sym (site-appended later)) k.1, answered-appended h later k.2)

-- lines from a site lead to another
pub record Leads (site : Site) (lines : List Line) (next : Site) : Type 0 where
  pub answered : AreAnswered step site lines
  pub leads : site_after step site lines ≡ next

pub then-leads : (site between next : Site) (first later : List Line) → Leads site first between → Leads between later next → Leads site (later ++ first) next
then-leads site between next first later one more = record {
  answered = answered-appended step site first one.answered later (subst (λ (s : Site). AreAnswered step s later) (sym one.leads) more.answered);
  leads = site-appended step site first later ∙ (ap (λ (s : Site). site_after step s later) one.leads ∙ more.leads);
}

-- one line that is asked leads to what the step makes
pub one-leads : (site : Site) (n : ℕ) (q : Request) → IsTrue (is_u16 n) → IsTrue (is_request q) → Leads site (n asks q => (step site n q).1 ∷ []) (step site n q).0
one-leads site n q small valid = record {
  answered = (and_from (is_u16 n) (is_request q) small valid, inl refl, tt);
  leads =
      cond-false (wants_memory (step site n q).1) site (step site n q).0
      (wants-none (step site n q).1 (never-wants-memory.reply site n q));
}
  where
    wants-none : (reply : Reply) → (reply ≡ NoMemory → ⊥) → IsFalse (wants_memory reply)
    wants-none NoMemory other = absurd (other refl)
    wants-none reply other = refl

-- ===== A Settle, and an early record

-- nothing was taken, or what was found
abbrev HasSettled : Site → Answer → Type 0
HasSettled site answer =
    ((answer.0 ≡ site) × (answer.1 ≡ Applied → ⊥))
    ⊎ ((found : ℕ × Record) × (first_fit_record site ≡ Some found) × (growth_refusal site.limits site.collected site.dag found.1 ≡ None)
    × (answer ≡ (with_settled found site, Applied)))

has-settled : (site : Site) → HasSettled site (settle site)
has-settled site = go (first_fit_record site) refl
  where
    grown : (found : ℕ × Record) (o : Option Refusal) → growth_refusal site.limits site.collected site.dag found.1 ≡ o → first_fit_record site ≡ Some found →
        HasSettled site (unless site (refuse_found (λ f. f) o ∷ []) (with_settled found site, Applied))
    grown found None e is = inr (found, is, e, refl)
    grown found (Some refusal) e is = inl (refl, λ d. absurd (cc))

    go : (o : Option (ℕ × Record)) → first_fit_record site ≡ o → HasSettled site (given o (site, Done) (settle_record site))
    go None e = inl (refl, λ d. absurd (cc))
    go (Some found) e = grown found (growth_refusal site.limits site.collected site.dag found.1) refl e

unless-none : (site : Site) (replies : List (Option Reply)) (answer : Answer) → AreNone replies → unless site replies answer ≡ answer
unless-none site [] answer none = refl
unless-none site (None ∷ more) answer none = unless-none site more answer none
unless-none site (Some reply ∷ more) answer none = absurd (cc)

-- what Settle took is delivered where nothing waits
delivered-dry : (site : Site) (n : ℕ) (found : ℕ × Record) → IsTrue (is_fit site found.1) →
    growth_refusal site.limits site.collected site.dag found.1 ≡ None → step (dry site) n (Deliver (State found.1)) ≡ (dry (with_settled found site), Applied)
delivered-dry site n found fit grows =
    let r = found.1 in
    let none : AreNone (judgements site r ++ growth_refusals site r) =
    list_all-append is_none (judgements site r) (growth_refusals site r)
    ∙ and_from (list_all is_none (judgements site r)) (list_all is_none (growth_refusals site r)) fit
    (ap (λ (o : Option Refusal). list_all is_none (refuse_found (λ (f : Refusal). f) o ∷ [])) grows) in
    let taken : take_record (dry site) r ≡ (with_record r (dry site), Applied) =
    unless-none (dry site) (judgements site r ++ growth_refusals site r) (with_record r (dry site), Applied) none in
    ap (λ (answer : Answer). (if says_early answer.1 then with_held r answer.0 else answer.0, answer.1)) taken

-- a record that isn't early
late-dry : (site : Site) (n : ℕ) (r : Record) → IsFalse (says_early (take_record site r).1) →
    step (dry site) n (Deliver (State r)) ≡ (dry (deliver_record site r).0, (deliver_record site r).1)
late-dry site n r late =
    let taken = take_record site r in
    let there = take-dry site r in
    ap (λ (answer : Answer). (if says_early answer.1 then with_held r answer.0 else answer.0, answer.1)) there
    ∙ (ap (λ (s : Site). (s, taken.1)) (cond-false (says_early taken.1) (with_held r (dry taken.0)) (dry taken.0) late)
    ∙ ap (λ (s : Site). (dry s, taken.1)) (sym (cond-false (says_early taken.1) (with_held r taken.0) taken.0 late)))

-- ===== One line as if nothing waited

late-line : (site : Site) (n : ℕ) (r : Record) (reply : Reply) → IsFalse (says_early reply) →
    as_if_none_waited site n (Deliver (State r)) reply ≡ n asks Deliver (State r) => reply ∷ []
late-line site n r (Early have) late = absurd (cc)
late-line site n r reply late = refl

unsettled-line : (site : Site) (n : ℕ) (reply : Reply) → (reply ≡ Applied → ⊥) → as_if_none_waited site n Settle reply ≡ []
unsettled-line site n Applied other = absurd (other refl)
unsettled-line site n reply other = refl

other-line : (site : Site) (n : ℕ) (q : Request) (reply : Reply) → IsFalse (meets_waiting q) → as_if_none_waited site n q reply ≡ n asks q => reply ∷ []
other-line site n (Deliver (State r)) reply h = absurd (cc)
other-line site n (Deliver (Promise c)) reply h = refl
other-line site n Settle reply h = absurd (cc)
other-line site n (Get k) reply h = refl
other-line site n q reply h = refl

module _ (site : Site) (n : ℕ) (small : IsTrue (is_u16 n)) (sound : IsSound site) where
  abbrev pub DriesTo : Request → Answer → Type 0
  DriesTo q answer = Leads (dry site) (as_if_none_waited site n q answer.1) (dry answer.0)

  -- the same line, with the same reply
  same-line : (q : Request) (answer : Answer) → IsTrue (is_request q) → step (dry site) n q ≡ (dry answer.0, answer.1) →
      Leads (dry site) (n asks q => answer.1 ∷ []) (dry answer.0)
  same-line q answer valid e =
      let one = one-leads (dry site) n q small valid in
      subst (λ (a : Answer). Leads (dry site) (n asks q => a.1 ∷ []) a.0) e one

  record-dries : (r : Record) → IsTrue (is_request (Deliver (State r))) → DriesTo (Deliver (State r)) (deliver_record site r)
  record-dries r valid = elim (cases_Bool (says_early (take_record site r).1)) [
    | inl early ↦ early-dries (take_record site r).1 refl early
    | inr late ↦
        let answer = deliver_record site r in
        subst (λ (lines : List Line). Leads (dry site) lines (dry answer.0)) (sym (late-line site n r answer.1 late))
        (same-line (Deliver (State r)) answer valid (late-dry site n r late))
  ]
    where
      early-dries : (reply : Reply) → (deliver_record site r).1 ≡ reply → IsTrue (says_early reply) → DriesTo (Deliver (State r)) (deliver_record site r)
      early-dries (Early have) e early =
          let stays = ap dry (early-records-wait site n r have e) in
          subst (λ (reply : Reply). Leads (dry site) (as_if_none_waited site n (Deliver (State r)) reply) (dry (deliver_record site r).0)) (sym e)
          (record { answered = tt; leads = sym stays })
      early-dries reply e early = absurd (cc)

  settle-dries : DriesTo Settle (settle site)
  settle-dries = go (has-settled site)
    where
      go : HasSettled site (settle site) → DriesTo Settle (settle site)
      go (inl none) =
          let answer = settle site in
          subst (λ (lines : List Line). Leads (dry site) lines (dry answer.0)) (sym (unsettled-line site n answer.1 none.1))
          (record { answered = tt; leads = ap dry (sym none.0) })
      go (inr some) =
          let found = some.0 in
          let r = found.1 in
          let fit = first-is-fit (is_fit site) site.waiting found some.1 in
          let valid = waiting-is-record site r (fit.as_all (may_wait site.limits.sites site.own) sound.waiting.each) in
          let next = with_settled found site in
          let line : as_if_none_waited site n Settle Applied ≡ n asks Deliver (State r) => Applied ∷ [] =
          ap
          (λ (o : Option (ℕ × Record)).
          elim o as (λ u. List Line) [ None ↦ [] | Some f ↦ n asks Deliver (State f.1) => Applied ∷ [] ]) some.1 in
          subst (λ (answer : Answer). DriesTo Settle answer) (sym some.3)
          (subst (λ (lines : List Line). Leads (dry site) lines (dry next)) (sym line)
          (same-line (Deliver (State r)) (next, Applied) valid (delivered-dry site n found fit.passes some.2)))

  other-dries : (q : Request) → IsTrue (is_request q) → IsFalse (meets_waiting q) → DriesTo q (step site n q)
  other-dries q valid h =
      let answer = step site n q in
      subst (λ (lines : List Line). Leads (dry site) lines (dry answer.0)) (sym (other-line site n q answer.1 h))
      (same-line q answer valid (step-dry site n q h))

  pub line-dries : (q : Request) → IsTrue (is_request q) → DriesTo q (step site n q)
  line-dries (Deliver (State r)) valid = record-dries r valid
  line-dries (Deliver (Promise c)) valid = other-dries (Deliver (Promise c)) valid refl
  line-dries Settle valid = settle-dries
  line-dries (Get k) valid = other-dries (Get k) valid refl
  line-dries q valid = other-dries q valid refl

  -- where memory was wanting, nothing was done
  pub wanting-dries : (q : Request) → IsTrue (is_request q) → Leads (dry site) (as_if_none_waited site n q NoMemory) (dry site)
  wanting-dries q valid = go q (and_from (is_u16 n) (is_request q) small valid)
    where
      go : (q : Request) → IsTrue (is_u16 n && is_request q) → Leads (dry site) (as_if_none_waited site n q NoMemory) (dry site)
      go Settle asked = record { answered = tt; leads = refl }
      go (Deliver (State r)) asked = record { answered = (asked, inr refl, tt); leads = refl }
      go (Deliver (Promise c)) asked = record { answered = (asked, inr refl, tt); leads = refl }
      go (Get k) asked = record { answered = (asked, inr refl, tt); leads = refl }
      go q asked = record { answered = (asked, inr refl, tt); leads = refl }
