-- A merge in one step.
use Rattle.std.proofs.Common.{◌≡◌, ℕ, Bool, true, false, ◌==◌, List, [], ◌∷◌, map, Option, Some, None, Result, Ok, Err, IsTrue, refl, sym, ap, ap₂, subst}
use Rattle.std.proofs.Common.{IfOk, arith}
use Rattle.std.specs.Prelude.{◌&&◌}
use Rattle.std.specs.List.{list_all}
use Rattle.std.proofs.lemmas.Bool.{and_parts, cond_both, eqb-false}
use Rattle.tardis_base.specs.declared.faults.NoMemory.{NoMemory as OutOfMemory}
use Rattle.tardis_base.specs.declared.ids.StateId.{StateId}
use Rattle.tardis_base.specs.declared.ids.Slot.{Slot}
use Rattle.tardis_base.specs.declared.records.Record.{Record}
use Rattle.tardis_base.specs.declared.replies.Refusal.{Refusal}
use Rattle.tardis_base.specs.declared.replies.Refusal.TheVariants.{SeqEnd, NotOpen, TxnOpen}
use Rattle.tardis_base.specs.declared.replies.Reply.{Reply}
use Rattle.tardis_base.specs.declared.replies.Reply.TheVariants.{Done, Refused as RefusedWith}
use Rattle.tardis_base.specs.Keys.{KeyWrite}
use Rattle.plain_dag.specs.Above.{is_above}
use Rattle.plain_dag.specs.States.{is_known}
use Rattle.plain_dag.specs.Entries.{entry_of, changed, without_entry}
use Rattle.plain_dag.specs.Floors.{Session, after_commit}
use Rattle.plain_dag.specs.Growth.{growth_refusal}
use Rattle.plain_dag.proofs.Histories.{newest-is-known}
use Rattle.plain_dag.proofs.Order.{above-transitive}
use Rattle.state_dag.specs.Table.{Table, id_at, is_slot}
use Rattle.state_dag.proofs.Calls.{named-of_slot}
use Rattle.plain_site.specs.Site.{Site, Txn, own_floor, own_count, next_record}
use Rattle.plain_site.specs.Sound.{IsSound, is_sound_session}
use Rattle.plain_site.specs.Answers.{Answer, refused, refuse, refuse_found, unless, given}
use Rattle.plain_site.specs.Commits.{with_record, growth_refusals, committed, commit_below}
use Rattle.plain_site.proofs.SoundAnswers.{when-none, found-none, none-parts, unless-keeps, no_txn-keeps}
use Rattle.plain_site.proofs.SoundArrivals.{arrival-keeps}
use Rattle.plain_site.proofs.SoundBooks.{each-without_txn, each-session_changed, book-keeps, session-parts, session-from, own-is_site}
use Rattle.plain_site.proofs.SoundCommits.{MayJoin, own-next, conflicts-written}
use Rattle.plain_site.proofs.SoundEntries.{changed-all, changed-length, changed-ascends, without_entry-ascends, entry-without_entry}
use Rattle.session_core.specs.Core.{Core}
use Rattle.session_core.specs.Guards.{RefusesBegins}
use Rattle.site_answers.specs.Told.{ToldAs}
use Rattle.session_core.specs.Gives.{Gives, GivesOrStops, IsGiven}
use Rattle.session_core.specs.Joins.{begin_refusal, merge_in_one, IsMergeEnd, MayBeMerged}
use Rattle.session_core.specs.Machine.{SiteStands, opened_with}
use Rattle.session_core.specs.Stands.{CoreStands, StandsForSite}
use Rattle.site_answers.specs.declared.stops.Stop.{Stop}
use Rattle.site_answers.specs.declared.stops.Stop.TheVariants.{Refused, NoMemory}
use Rattle.session_core.proofs.Settings.{HasSettingsOf, opened-same}

-- the slots of the table have names
pub record HaveNames (table : Table) (slots : List Slot) : Type 0 where
  pub states : List StateId
  pub named : map (id_at table) slots ≡ map (λ x. Some x) states

pub have-names : (table : Table) (slots : List Slot) → IsTrue (list_all (is_slot table) slots) → HaveNames table slots
have-names table [] h = record { states = []; named = refl }
have-names table (s ∷ ss) h =
    let p = and_parts (is_slot table s) (list_all (is_slot table) ss) h in
    let first = named-of_slot table s p.0 in
    let rest = have-names table ss p.1 in
    record { states = first.0 ∷ rest.states; named = ap₂ (λ o os. o ∷ os) first.1 rest.named }

-- ===== The site stays sound

committed-keeps : (site : Site) (n : ℕ) (r : Record) → IsSound (with_record r site) → IsSound (committed site n r).0
committed-keeps site n r sound =
    let rs = r ∷ site.dag in
    let after : Session → Session = after_commit rs r.id in
    let known = newest-is-known site.dag r in
    let floor = (own_floor site).state in
    let txns = without_entry n site.txns in
    let same = changed-length n after site.sessions in
    let few = sound.few_sessions in
    book-keeps (with_record r site) (changed n after site.sessions) txns sound
    (record {
      few = omega arith;
      numbers = changed-ascends n after site.sessions sound.session_numbers;
      each_session =
          changed-all (is_sound_session rs) (is_sound_session rs) n after (λ e t. t)
          (λ e t.
          let parts = session-parts rs e t in
          session-from rs (e.0, after e.1)
          (record {
            number = parts.number;
            ceiling = cond_both (e.1.follow && is_above rs e.1.ceiling r.id) r.id e.1.ceiling (λ z. IsTrue (is_known rs z)) (λ u. known) (λ u. parts.ceiling);
            last = known;
          }))
          site.sessions sound.each_session;
      txn_numbers = without_entry-ascends n site.txns sound.txn_numbers;
      each_txn =
          each-session_changed rs site.sessions txns n (each-without_txn rs site.sessions site.txns n sound.each_txn) after (entry-without_entry n site.txns);
      under_floor =
          changed-all (λ (e : ℕ × Session). is_above rs floor e.1.ceiling) (λ (e : ℕ × Session). is_above rs floor e.1.ceiling) n after (λ e t. t)
          (λ e t.
          cond_both (e.1.follow && is_above rs e.1.ceiling r.id) r.id e.1.ceiling (λ z. IsTrue (is_above rs floor z))
          (λ u. above-transitive rs sound.dag floor e.1.ceiling r.id t (and_parts e.1.follow (is_above rs e.1.ceiling r.id) u).1) (λ u. t))
          site.sessions sound.under_floor;
    })

pub joins : (site : Site) (xs : List StateId) (ws : List KeyWrite) → MayBeMerged site xs ws → MayJoin site xs ws
joins site xs ws may = record {
  parents_valid = may.states;
  writes_valid = may.writes;
  known = may.known;
  apart = may.apart;
  merges = conflicts-written site.dag xs ws may.settled;
  free = may.free;
}

below-keeps : (site : Site) (n : ℕ) (xs : List StateId) (ws : List KeyWrite) → IsSound site → MayJoin site xs ws → IsSound (commit_below site n xs ws []).0
below-keeps site n xs ws sound may =
    let r = next_record site xs ws in
    let over = own_count site == 4294967295 in
    let grown = growth_refusal site.limits site.collected site.dag r in
    unless-keeps IsSound site sound (refuse over SeqEnd ∷ growth_refusals site r) (committed site n r)
    (λ none.
    let second = none-parts (refuse over SeqEnd) (growth_refusals site r) none in
    let third = none-parts (refuse_found (λ f. f) grown) [] second.1 in
    let next = own-next site xs ws sound may (eqb-false (own_count site) 4294967295 (when-none over _ second.0)) in
    committed-keeps site n r
    (arrival-keeps site r sound next (own-is_site site sound).1 may.free (found-none (λ f. f) grown third.0)))

pub merge-keeps : (site : Site) (n : ℕ) (xs : List StateId) (ws : List KeyWrite) → IsSound site → MayBeMerged site xs ws → IsSound (merge_in_one site n xs ws).0
merge-keeps site n xs ws sound may = no_txn-keeps IsSound site sound n (λ s. commit_below site n xs ws [])
    (λ s e f. below-keeps site n xs ws sound (joins site xs ws may))

pub merge-same : (site : Site) (n : ℕ) (xs : List StateId) (ws : List KeyWrite) → HasSettingsOf site (merge_in_one site n xs ws).0
merge-same site n xs ws =
    no_txn-keeps (HasSettingsOf site) site (refl, refl) n (λ s. commit_below site n xs ws [])
    (λ s e f.
    unless-keeps (HasSettingsOf site) site (refl, refl) (refuse (own_count site == 4294967295) SeqEnd ∷ growth_refusals site (next_record site xs ws))
    (committed site n (next_record site xs ws)) (λ none. (refl, refl)))

-- ===== What is told

merge-ends : (site : Site) (n : ℕ) (xs : List StateId) (ws : List KeyWrite) → IsMergeEnd (merge_in_one site n xs ws).1
merge-ends site n xs ws =
    go (entry_of n site.sessions) (entry_of n site.txns) (own_count site == 4294967295) (growth_refusal site.limits site.collected site.dag r)
  where
    r : Record
    r = next_record site xs ws

    go : (s : Option Session) (t : Option Txn) (over : Bool) (grown : Option Refusal) → IsMergeEnd (given s (refused site NotOpen) (λ u. given t
        (unless site (refuse over SeqEnd ∷ refuse_found (λ f. f) grown ∷ []) (committed site n r)) (λ v. refused site TxnOpen))).1
    go None t over grown = tt
    go (Some s) (Some t) over grown = tt
    go (Some s) None true grown = tt
    go (Some s) None false (Some f) = tt
    go (Some s) None false None = tt

-- the reply to a merge in one step is one of its two ends
pub merge-end : (stands : Site → Type 0) (site : Site) (n : ℕ) (xs : List StateId) (ws : List KeyWrite) (reply : Result Reply OutOfMemory) →
    Gives stands (merge_in_one site n xs ws) site reply → IfOk reply (λ r. IsMergeEnd r)
merge-end stands site n xs ws (Ok reply) given = subst IsMergeEnd (sym given.1) (merge-ends site n xs ws)
merge-end stands site n xs ws (Err fault) given = tt

module _ (old new : Core) (n : ℕ) (xs : List StateId) (ws : List KeyWrite) (result : Result Reply Stop)
    (gave : (site : Site) → CoreStands old site → IsSound site → MayBeMerged site xs ws →
    GivesOrStops (CoreStands new) (merge_in_one site n xs ws) site result) where
  pub merge-told : (r : Result Reply Stop) → r ≡ result → (reply : Result Reply OutOfMemory) → ToldAs r reply → (site : Site) → SiteStands old site →
      MayBeMerged site xs ws →
      Gives (SiteStands new) (merge_in_one site n xs ws) site reply
  merge-told (Ok reply) e told is site (stands, sound) may =
      let given = subst (GivesOrStops (CoreStands new) (merge_in_one site n xs ws) site) (sym e) (gave site stands sound may) in
      subst (Gives (SiteStands new) (merge_in_one site n xs ws) site) (sym is) ((given.0, merge-keeps site n xs ws sound may), given.1)
  merge-told (Err (Refused refusal)) e told is site (stands, sound) may =
      let given = subst (GivesOrStops (CoreStands new) (merge_in_one site n xs ws) site) (sym e) (gave site stands sound may) in
      subst (Gives (SiteStands new) (merge_in_one site n xs ws) site) (sym is)
      (subst (λ (a : Answer). IsGiven (SiteStands new) a (RefusedWith refusal)) (sym given.1) ((given.0, sound), refl))
  merge-told (Err NoMemory) e (Ok reply) is site stands may = absurd is
  merge-told (Err NoMemory) e (Err fault) is site (stands, sound) may =
      (subst (GivesOrStops (CoreStands new) (merge_in_one site n xs ws) site) (sym e) (gave site stands sound may), sound)

  pub merge-stands : (r : Result Reply Stop) → r ≡ result → (before : StandsForSite old) → MayBeMerged before.site xs ws → StandsForSite new
  merge-stands (Ok reply) e before may =
      let given = subst (GivesOrStops (CoreStands new) (merge_in_one before.site n xs ws) before.site) (sym e)
      (gave before.site before.stands before.sound may) in
      record { site = (merge_in_one before.site n xs ws).0; stands = given.0; sound = merge-keeps before.site n xs ws before.sound may }
  merge-stands (Err (Refused refusal)) e before may =
      let given = subst (GivesOrStops (CoreStands new) (merge_in_one before.site n xs ws) before.site) (sym e)
      (gave before.site before.stands before.sound may) in
      record { site = before.site; stands = given.0; sound = before.sound }
  merge-stands (Err NoMemory) e before may =
      let given = subst (GivesOrStops (CoreStands new) (merge_in_one before.site n xs ws) before.site) (sym e)
      (gave before.site before.stands before.sound may) in
      record { site = before.site; stands = given; sound = before.sound }

  pub merge-opening : (r : Result Reply Stop) → r ≡ result → (before : StandsForSite old) → MayBeMerged before.site xs ws → opened_with new ≡ opened_with old
  merge-opening (Ok reply) e before may =
      let given = subst (GivesOrStops (CoreStands new) (merge_in_one before.site n xs ws) before.site) (sym e)
      (gave before.site before.stands before.sound may) in
      opened-same old new before.site (merge_in_one before.site n xs ws).0 before.stands given.0 (merge-same before.site n xs ws)
  merge-opening (Err (Refused refusal)) e before may =
      let given = subst (GivesOrStops (CoreStands new) (merge_in_one before.site n xs ws) before.site) (sym e)
      (gave before.site before.stands before.sound may) in
      opened-same old new before.site before.site before.stands given.0 (refl, refl)
  merge-opening (Err NoMemory) e before may =
      let given = subst (GivesOrStops (CoreStands new) (merge_in_one before.site n xs ws) before.site) (sym e)
      (gave before.site before.stands before.sound may) in
      opened-same old new before.site before.site before.stands given (refl, refl)

-- ===== Whether a session may begin

begins-as : (s : Option Session) (t : Option Txn) (site : Site) (refusal : Refusal) →
    given s (refused site NotOpen) (λ u. given t (site, Done) (λ v. refused site TxnOpen)) ≡ refused site refusal →
    Some refusal ≡ (elim s as (λ v. Option Refusal) [ None ↦ Some NotOpen | Some u ↦ elim t as (λ v. Option Refusal) [ None ↦ None | Some v ↦ Some TxnOpen ] ])
begins-as None t site refusal e = let r : RefusedWith NotOpen ≡ RefusedWith refusal = ap (λ (a : Answer). a.1) e in (cc)
begins-as (Some s) None site refusal e = let r : Done ≡ RefusedWith refusal = ap (λ (a : Answer). a.1) e in absurd (cc)
begins-as (Some s) (Some t) site refusal e = let r : RefusedWith TxnOpen ≡ RefusedWith refusal = ap (λ (a : Answer). a.1) e in (cc)

pub begin-refused : (site : Site) (n : ℕ) (refusal : Refusal) → RefusesBegins site n refusal → Some refusal ≡ begin_refusal site n
begin-refused site n refusal refuses = begins-as (entry_of n site.sessions) (entry_of n site.txns) site refusal (refuses (λ s. (site, Done)))

pub begin-allowed : (site : Site) (n : ℕ) (s : Session) → entry_of n site.sessions ≡ Some s → entry_of n site.txns ≡ None →
    ◌≡◌ {A = Option Refusal} None (begin_refusal site n)
begin-allowed site n s e f =
    sym (ap₂ (λ (o : Option Session) (t : Option Txn). elim o as (λ v. Option Refusal) [
      | None ↦ Some NotOpen
      | Some u ↦
          elim t as (λ v. Option Refusal) [ None ↦ None | Some v ↦ Some TxnOpen ]
    ]) e f)
