-- What lasted of an earlier site is taken back.
use Rattle.std.proofs.Common.{◌≡◌, ◌+◌, Bool, true, false, not, ◌==◌, ◌&&◌, nat_lt, nat_le, List, [], ◌∷◌, length, find, Option, Some, None}
use Rattle.std.proofs.Common.{is_none, Result, Ok, Err, IsTrue, IsFalse, refl, sym, ap, ap₂, subst, ◌∙◌}
use Rattle.std.specs.Prelude.{if◌then◌else◌, IfOk}
use Rattle.std.specs.List.{list_all}
use Rattle.std.proofs.lemmas.Bool.{and_parts, not-false, eqb-true, ltb-false}
use Rattle.std.proofs.lemmas.List.Folds.{list_all-append}
use Rattle.tardis_base.specs.declared.faults.NoMemory.{NoMemory as OutOfMemory}
use Rattle.tardis_base.specs.declared.ids.StateId.{StateId}
use Rattle.tardis_base.specs.declared.records.Record.{Record}
use Rattle.tardis_base.specs.declared.records.Consent.{Consent}
use Rattle.tardis_base.specs.declared.records.Item.TheVariants.{State, Promise}
use Rattle.tardis_base.specs.declared.replies.Refusal.{Refusal}
use Rattle.tardis_base.specs.declared.replies.Refusal.TheVariants.{BadSite, OwnItem, ClosedParent, Comparable, OpenConflict, FloorBack}
use Rattle.tardis_base.specs.declared.replies.Reply.{Reply}
use Rattle.tardis_base.specs.declared.replies.Reply.TheVariants.{Applied, Known, Early, Refused}
use Rattle.tardis_base.specs.Valid.{is_record}
use Rattle.plain_dag.specs.States.{is_known, count_of_site}
use Rattle.plain_dag.specs.Above.{is_above, comparable_pair}
use Rattle.plain_dag.specs.Conflicts.{open_conflict}
use Rattle.plain_dag.specs.Dag.{IsDag}
use Rattle.plain_dag.specs.Floors.{Floor, floor_of, with_floor, consented, is_closed}
use Rattle.plain_dag.specs.Growth.{growth_refusal}
use Rattle.plain_dag.proofs.Order.{above-reflexive}
use Rattle.record_store.specs.Answers.{MayArrive}
use Rattle.ceiling_book.specs.declared.consents.ConsentEnd.{ConsentEnd}
use Rattle.ceiling_book.specs.declared.consents.ConsentEnd.TheVariants.{Applied as IsTaken, Known as WasKnown, Early as CameEarly, Refused as WasRefused}
use Rattle.ceiling_book.specs.Book.{Book}
use Rattle.ceiling_book.specs.Places.{ArePlaced}
use Rattle.ceiling_book.specs.Floors.{KeepsSessions}
use Rattle.ceiling_book.specs.Consents.{is_early_consent, consent_end, TakenIn}
use Rattle.site_exchange.specs.Judgements.{reply_of, first_reply, first_judgements}
use Rattle.site_exchange.specs.declared.judging.Judged.{Judged}
use Rattle.site_exchange.specs.declared.judging.Judged.TheVariants.{Fit as IsFit, Known as IsKnownOne, Early as IsEarlyOne, Refused as IsRefusedOne}
use Rattle.plain_site.specs.Site.{Site}
use Rattle.plain_site.specs.Sound.{IsSound}
use Rattle.plain_site.specs.Answers.{when, refuse, refuse_found, unless}
use Rattle.plain_site.specs.Commits.{with_record, growth_refusals}
use Rattle.plain_site.specs.Exchange.{is_early, judgements}
use Rattle.plain_site.specs.Rest.{Lasting, News, Collection, nameless, with_lasting, fits}
use Rattle.plain_site.proofs.SoundAnswers.{AreNone, when-none, found-none, none-parts}
use Rattle.plain_site.proofs.SoundArrivals.{arrival-keeps}
use Rattle.plain_site.proofs.SoundCommits.{conflicts-written}
use Rattle.plain_site.proofs.SoundDeliveries.{IsWelcome}
use Rattle.plain_site.proofs.SoundHistories.{next-is_new, unfound-at}
use Rattle.site_answers.specs.declared.stops.Stop.{Stop}
use Rattle.site_answers.specs.declared.stops.Stop.TheVariants.{Refused as StoppedBy, NoMemory}
use Rattle.session_core.specs.Core.{Core}
use Rattle.session_core.specs.Stands.{CoreStands, StandsForSite}
use Rattle.session_core.specs.Gives.{GivesOrStops, IsGiven, Stops}
use Rattle.session_core.specs.Machine.{SiteStands, opened_with}
use Rattle.site_answers.specs.Told.{is_applied, TakenAs}
use Rattle.session_core.specs.Rests.{TakenBy, TakesBack, KeepsSound}
use Rattle.session_core.proofs.Committing.{below-open}
use Rattle.session_core.proofs.Exchanging.{none-first, within-six}
use Rattle.session_core.proofs.FloorMoves.{with-floors}
use Rattle.session_core.proofs.Settings.{opened-same}

-- ===== A record

-- all are none where the first is
none-of-all : (os : List (Option Reply)) → list_all is_none os ≡ is_none (first_reply os)
none-of-all [] = refl
none-of-all (None ∷ os) = none-of-all os
none-of-all (Some r ∷ os) = refl

growth-none : (o : Option Refusal) → list_all is_none (refuse_found (λ (f : Refusal). f) o ∷ []) ≡ is_none o
growth-none None = refl
growth-none (Some f) = refl

there-is-none : {A : Type 0} (o : Option A) → IsTrue (is_none o) → o ≡ None
there-is-none None h = refl
there-is-none (Some a) h = absurd (cc)

-- a record that is judged otherwise than Fit isn't welcome
pub unfit-unwelcome : (site : Site) (r : Record) (judged : Judged) → ¬ (judged ≡ IsFit) → reply_of judged ≡ first_reply (first_judgements site r) →
    false ≡ is_none (first_reply (judgements site r))
unfit-unwelcome site r IsFit other e = absurd (other refl)
unfit-unwelcome site r IsKnownOne other e = sym (ap is_none (within-six site r Known (sym e)))
unfit-unwelcome site r (IsEarlyOne have) other e = sym (ap is_none (within-six site r (Early have) (sym e)))
unfit-unwelcome site r (IsRefusedOne refusal) other e = sym (ap is_none (within-six site r (Refused refusal) (sym e)))

module _ (site : Site) (r : Record) where
  abbrev judged : Option Reply
  judged = first_reply (judgements (nameless site) r)

  abbrev grown : Option Refusal
  grown = growth_refusal site.limits site.collected site.dag r

  record-fits : fits site (News (State r)) ≡ (is_none judged && is_none grown)
  record-fits =
      list_all-append is_none (judgements (nameless site) r) (growth_refusals site r)
      ∙ ap₂ (λ a b. a && b) (none-of-all (judgements (nameless site) r)) (growth-none grown)

  -- what nothing speaks against is welcome, were it an own record
  own-welcome : IsTrue (is_record r) → IsDag site.dag → AreNone (judgements (nameless site) r) → IsWelcome site r
  own-welcome valid dag none =
      let rs = site.dag in
      let count = count_of_site rs r.id.site in
      let one = refuse (nat_lt site.limits.sites r.id.site) (BadSite r.id.site) in
      let two = when (nat_le r.id.sequence count) Known in
      let three = refuse (r.id.site == 0) (OwnItem r.id.site r.id.sequence) in
      let four = when (is_early site r) (Early count) in
      let five = refuse_found ClosedParent (find (is_closed rs site.floors) r.parents) in
      let six = refuse_found (λ (pair : StateId × StateId). Comparable pair.0 pair.1) (comparable_pair rs r.parents) in
      let seven = refuse_found OpenConflict (open_conflict rs r.parents r.writes) in
      let first = none-parts one (two ∷ three ∷ four ∷ five ∷ six ∷ seven ∷ []) none in
      let second = none-parts two (three ∷ four ∷ five ∷ six ∷ seven ∷ []) first.1 in
      let third = none-parts three (four ∷ five ∷ six ∷ seven ∷ []) second.1 in
      let fourth = none-parts four (five ∷ six ∷ seven ∷ []) third.1 in
      let fifth = none-parts five (six ∷ seven ∷ []) fourth.1 in
      let sixth = none-parts six (seven ∷ []) fifth.1 in
      let seventh = none-parts seven [] sixth.1 in
      let in_time = not-false (r.id.sequence == count + 1 && list_all (is_known rs) r.parents) (when-none (is_early site r) _ fourth.0) in
      let parts = and_parts (r.id.sequence == count + 1) (list_all (is_known rs) r.parents) in_time in
      let in_sequence : r.id.sequence ≡ count + 1 = eqb-true r.id.sequence (count + 1) parts.0 in
      record {
        of_a_site = ltb-false site.limits.sites r.id.site (when-none (nat_lt site.limits.sites r.id.site) _ first.0);
        next = record {
          shape = valid;
          new = next-is_new rs dag r.id in_sequence;
          in_sequence = in_sequence;
          parents = parts.1;
          apart = ap is_none (found-none (λ (pair : StateId × StateId). Comparable pair.0 pair.1) (comparable_pair rs r.parents) sixth.0);
          merges = conflicts-written rs r.parents r.writes (found-none OpenConflict (open_conflict rs r.parents r.writes) seventh.0);
        };
        free = found-none ClosedParent (find (is_closed rs site.floors) r.parents) fifth.0;
      }

  module _ (sound : IsSound site) (valid : IsTrue (is_record r)) (h : IsTrue (is_none judged)) where
    is_welcome : IsWelcome site r
    is_welcome = own-welcome valid sound.dag (none-first (judgements (nameless site) r) (there-is-none judged h))

    pub welcome-arrives : MayArrive site.limits.sites site.dag site.collected r
    welcome-arrives = record {
      next = is_welcome.next;
      site = is_welcome.of_a_site;
      kept = λ p among. below-open site sound p (unfound-at (is_closed site.dag site.floors) r.parents p is_welcome.free among) p (above-reflexive site.dag p);
    }

    grows-soundly : grown ≡ None → IsSound (with_record r site)
    grows-soundly e =
        arrival-keeps site r sound is_welcome.next is_welcome.of_a_site
        (λ p m. unfound-at (is_closed site.dag site.floors) r.parents p is_welcome.free m) e

    -- a welcome record is taken, or there is no room
    pub record-taken : (new : Core) (result : Result Reply Stop) →
        GivesOrStops (CoreStands new) (unless site (growth_refusals site r) (with_record r site, Applied)) site result →
        IfOk result (λ reply. reply ≡ Applied) → (taken : Result Bool OutOfMemory) → TakenAs result taken →
        TakenBy new (News (State r)) site taken
    record-taken new (Ok reply) gives is taken e =
        subst (TakenBy new (News (State r)) site) (sym e)
        (go grown refl (subst (IsGiven (CoreStands new) (unless site (growth_refusals site r) (with_record r site, Applied))) is gives))
      where
        go : (o : Option Refusal) → grown ≡ o →
            IsGiven (CoreStands new) (unless site (refuse_found (λ (f : Refusal). f) o ∷ []) (with_record r site, Applied)) Applied →
            TakenBy new (News (State r)) site (Ok true)
        go None none given = (record-fits ∙ ap₂ (λ a b. a && b) h (ap is_none none), (given.0, grows-soundly none))
        go (Some f) some given = absurd (let bad : ⊥ = cc in bad)
    record-taken new (Err (StoppedBy refusal)) stops is taken e = subst (TakenBy new (News (State r)) site) (sym e) (go grown refl stops)
      where
        go : (o : Option Refusal) → grown ≡ o →
            Stops (CoreStands new) (unless site (refuse_found (λ (f : Refusal). f) o ∷ []) (with_record r site, Applied)) site (StoppedBy refusal) →
            TakenBy new (News (State r)) site (Ok false)
        go None none (there, same) = let bad : Applied ≡ Refused refusal = ap (λ a. a.1) same in absurd (cc)
        go (Some f) some (there, same) = (record-fits ∙ ap₂ (λ a b. a && b) h (ap is_none some), (there, sound))
    record-taken new (Err NoMemory) stops is (Ok answer) e = absurd e
    record-taken new (Err NoMemory) stops is (Err fault) e = (stops, sound)

  -- one that isn't welcome doesn't fit
  pub record-unfit : (new : Core) → SiteStands new site → IsFalse (is_none judged) → TakenBy new (News (State r)) site (Ok false)
  record-unfit new stands e = (record-fits ∙ ap (λ b. b && is_none grown) e, stands)

-- ===== A promise

-- one judgement after another
when-end : (test : Bool) (reply : Reply) (more : List (Option Reply)) (first rest : ConsentEnd) → is_applied first ≡ false →
    list_all is_none more ≡ is_applied rest →
    list_all is_none (when test reply ∷ more) ≡ is_applied (if test then first else rest)
when-end true reply more first rest f e = sym f
when-end false reply more first rest f e = e

module _ (site : Site) (c : Consent) where
  abbrev f : Floor
  f = floor_of site.floors c.site

  abbrev back : List (Option Reply)
  back = refuse (not (is_above site.dag f.state c.floor)) (FloorBack f.state) ∷ []

  abbrev early : List (Option Reply)
  early = when (is_early_consent site.dag c) (Early (count_of_site site.dag c.site)) ∷ back

  abbrev own_one : List (Option Reply)
  own_one = refuse (c.site == 0) (OwnItem c.site c.number) ∷ early

  abbrev known_one : List (Option Reply)
  known_one = when (nat_le c.number f.number) Known ∷ own_one

  abbrev end_back : ConsentEnd
  end_back = if not (is_above site.dag f.state c.floor) then WasRefused (FloorBack f.state) else IsTaken

  abbrev end_early : ConsentEnd
  end_early = if is_early_consent site.dag c then CameEarly (count_of_site site.dag c.site) else end_back

  abbrev end_own : ConsentEnd
  end_own = if c.site == 0 then WasRefused (OwnItem c.site c.number) else end_early

  abbrev end_known : ConsentEnd
  end_known = if nat_le c.number f.number then WasKnown else end_own

  promise-fits : length site.floors ≡ site.limits.sites → fits site (News (Promise c)) ≡ is_applied (consent_end site.dag site.floors 0 c)
  promise-fits sites =
      subst (λ m. list_all is_none (refuse (nat_lt m c.site) (BadSite c.site) ∷ known_one) ≡ is_applied (consent_end site.dag site.floors 0 c)) sites
      (when-end (nat_lt (length site.floors) c.site) (Refused (BadSite c.site)) known_one (WasRefused (BadSite c.site)) end_known refl
      (when-end (nat_le c.number f.number) Known own_one WasKnown end_own refl
      (when-end (c.site == 0) (Refused (OwnItem c.site c.number)) early (WasRefused (OwnItem c.site c.number)) end_early refl
      (when-end (is_early_consent site.dag c) (Early (count_of_site site.dag c.site)) back (CameEarly (count_of_site site.dag c.site)) end_back refl
      (when-end (not (is_above site.dag f.state c.floor)) (Refused (FloorBack f.state)) [] (WasRefused (FloorBack f.state)) IsTaken refl refl)))))

  -- a promise is taken, or it doesn't fit
  pub promise-taken : (core : Core) (book : Book) → CoreStands core site → IsSound site → KeepsSound core (News (Promise c)) →
      KeepsSessions core.book book → ArePlaced book core.store.table site.dag site.collected → (end : ConsentEnd) →
      end ≡ consent_end site.dag site.floors 0 c → TakenIn core.book book c end →
      TakenBy (record core { book = book }) (News (Promise c)) site (Ok (is_applied end))
  promise-taken core book stands sound keeps rest placed end is taken = go end (promise-fits sound.one_floor_each ∙ ap is_applied (sym is)) taken
    where
      same : book ≡ core.book → SiteStands (record core { book = book }) site
      same e = (subst (λ b. CoreStands (record core { book = b }) site) (sym e) stands, sound)

      go : (ended : ConsentEnd) → fits site (News (Promise c)) ≡ is_applied ended → TakenIn core.book book c ended →
          TakenBy (record core { book = book }) (News (Promise c)) site (Ok (is_applied ended))
      go IsTaken fit moved = (
        fit,
        (
          with-floors core book site (with_floor site.floors c.site (consented c)) stands rest placed
              (moved ∙ ap (λ (fs : List Floor). with_floor fs c.site (consented c)) stands.floors),
          keeps site (stands, sound) fit,
        ),
      )
      go WasKnown fit e = (fit, same e)
      go (CameEarly have) fit e = (fit, same e)
      go (WasRefused refusal) fit e = (fit, same e)

-- ===== The site

module _ (old new : Core) (l : Lasting) where
  -- what took something back still stands for a site
  pub taken-stands : (result : Result Bool OutOfMemory) → TakesBack old new l result → StandsForSite old → StandsForSite new
  taken-stands (Ok true) took before =
      let now = (took before.site (before.stands, before.sound)).1 in record { site = with_lasting l before.site; stands = now.0; sound = now.1 }
  taken-stands (Ok false) took before =
      let now = (took before.site (before.stands, before.sound)).1 in record { site = before.site; stands = now.0; sound = now.1 }
  taken-stands (Err fault) took before =
      let now = took before.site (before.stands, before.sound) in record { site = before.site; stands = now.0; sound = now.1 }

  pub taken-opening : (result : Result Bool OutOfMemory) → TakesBack old new l result → StandsForSite old → opened_with new ≡ opened_with old
  taken-opening (Ok true) took before =
      opened-same old new before.site (with_lasting l before.site) before.stands (took before.site (before.stands, before.sound)).1.0 (settings l before.site)
    where
      settings : (lasting : Lasting) (site : Site) → ((with_lasting lasting site).limits ≡ site.limits) × ((with_lasting lasting site).own ≡ site.own)
      settings (News (State r)) site = (refl, refl)
      settings (News (Promise c)) site = (refl, refl)
      settings (Collection count) site = (refl, refl)
  taken-opening (Ok false) took before =
      opened-same old new before.site before.site before.stands (took before.site (before.stands, before.sound)).1.0 (refl, refl)
  taken-opening (Err fault) took before =
      opened-same old new before.site before.site before.stands (took before.site (before.stands, before.sound)).0 (refl, refl)
