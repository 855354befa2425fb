-- Sites give each other their news and take it, and early records wait.
use Rattle.std.proofs.Common.{◌≡◌, ℕ, zero, suc, ◌+◌, ◌≤◌, Bool, true, false, not, ◌==◌, ◌&&◌, ◌||◌, List, [], ◌∷◌, ◌++◌, length, map, take, drop, Option}
use Rattle.std.proofs.Common.{Some, None, is_none, Result, Ok, Err, IsTrue, IsFalse, inl, inr, refl, sym, ap, subst, ◌∙◌, arith}
use Rattle.std.specs.Prelude.{if◌then◌else◌, nat_lt, nat_le, slice_get, IfOk}
use Rattle.std.specs.List.{list_all}
use Rattle.std.specs.Option.{option_map}
use Rattle.std.proofs.lemmas.Bool.{and_parts, and_from, or_cases, cases_Bool, cond-true, cond-false, cond_both, both_ways, not-true, not_from_true}
use Rattle.std.proofs.lemmas.Bool.{not_from_false, leb-true}
use Rattle.std.proofs.lemmas.Option.{none-some, same_Some}
use Rattle.tardis_base.specs.declared.faults.AddFault.{AddFault}
use Rattle.tardis_base.specs.declared.faults.AddFault.TheVariants.{Full, PathFull, NoMemory as OutOfMemory}
use Rattle.tardis_base.specs.declared.ids.Slot.{Slot}
use Rattle.tardis_base.specs.declared.records.Record.{Record}
use Rattle.tardis_base.specs.declared.records.Consent.{Consent}
use Rattle.tardis_base.specs.declared.replies.Refusal.{Refusal}
use Rattle.tardis_base.specs.declared.replies.Refusal.TheVariants.{BadSite, OwnItem, OpenConflict, FloorBack, Full as IsFull, PathFull as IsPathFull}
use Rattle.tardis_base.specs.declared.replies.Reply.{Reply}
use Rattle.tardis_base.specs.declared.replies.Reply.TheVariants.{Done, Applied, Known, Early, Refused, Batch as BatchIs}
use Rattle.tardis_base.specs.Ids.{root, same_id, are_ascending}
use Rattle.tardis_base.specs.Sizes.{most_parents}
use Rattle.tardis_base.specs.Valid.{is_u16, is_u32, is_within, is_record, is_id, are_parents, are_writes}
use Rattle.plain_dag.specs.States.{count_of_site}
use Rattle.plain_dag.specs.Above.{is_above}
use Rattle.plain_dag.specs.Conflicts.{open_conflict}
use Rattle.plain_dag.specs.Floors.{Floor, floor_of, with_floor, is_closed}
use Rattle.plain_dag.specs.Growth.{growth_refusal}
use Rattle.plain_dag.proofs.Order.{above-reflexive}
use Rattle.state_dag.specs.Table.{id_at}
use Rattle.state_dag.specs.Answers.{KeepsSlots, MayBeAdded}
use Rattle.record_store.specs.Store.{Store}
use Rattle.record_store.specs.Stands.{StoreStands}
use Rattle.record_store.specs.Answers.{AddedIn, MayArrive}
use Rattle.ceiling_book.specs.declared.consents.ConsentEnd.{ConsentEnd}
use Rattle.ceiling_book.specs.declared.consents.ConsentEnd.TheVariants.{Applied as IsTaken, Known as WasKnown, Early as IsEarly, Refused as IsRefused}
use Rattle.ceiling_book.specs.Book.{Book}
use Rattle.ceiling_book.specs.Places.{ArePlaced}
use Rattle.ceiling_book.specs.Floors.{KeepsSessions}
use Rattle.ceiling_book.specs.Consents.{is_early_consent, consent_end, TakenIn}
use Rattle.ceiling_book.proofs.Growth.{slots-grow, placed-grow}
use Rattle.site_exchange.specs.Stands.{BookStands}
use Rattle.site_exchange.specs.declared.judging.Judged.{Judged}
use Rattle.site_exchange.specs.declared.judging.Judged.TheVariants.{Fit as IsFit, Known as IsKnownOne, Early as IsEarlyOne, Refused as IsRefusedOne}
use Rattle.site_exchange.specs.Judgements.{reply_of, first_reply, first_judgements}
use Rattle.plain_site.specs.Site.{Site}
use Rattle.plain_site.specs.Sound.{IsSound}
use Rattle.plain_site.specs.Answers.{Answer, refused, says_early, when, refuse, refuse_found, unless, given}
use Rattle.plain_site.specs.Commits.{with_record, growth_refusals}
use Rattle.plain_site.specs.WaitingRoom.{waits, is_full, hold, first_fit, without}
use Rattle.plain_site.specs.Exchange.{judgements, with_held, deliver_record, deliver_consent, is_fit, first_fit_record, with_settled, settle_record, settle}
use Rattle.plain_site.specs.Exchange.{batch_for, pull}
use Rattle.plain_site.proofs.SoundAnswers.{AreNone}
use Rattle.plain_site.proofs.SoundDeliveries.{welcome}
use Rattle.plain_site.proofs.SoundHistories.{unfound-at}
use Rattle.plain_site.proofs.SoundRooms.{all-without}
use Rattle.session_core.specs.declared.Parts.TheInside.{Inside}
use Rattle.session_core.specs.Core.{Core}
use Rattle.session_core.specs.Held.{IsHeld}
use Rattle.session_core.specs.Stands.{CoreStands}
use Rattle.session_core.specs.Gives.{GivesOrStops, Stops}
use Rattle.site_answers.specs.Stops.{add_stop}
use Rattle.site_answers.specs.Told.{consent_reply}
use Rattle.session_core.proofs.Answers.{skip, stop, skip-found, stop-found}
use Rattle.session_core.proofs.Committing.{same-table-stands, below-open}
use Rattle.session_core.proofs.Growing.{txn-slots-stay, txn-names-stay}
use Rattle.session_core.proofs.FloorMoves.{with-floors}

-- ===== Judgements in turn

module _ (site : Site) (more : List (Option Reply)) (answer : Answer) where
  pub first-stops : (os : List (Option Reply)) (reply : Reply) → first_reply os ≡ Some reply → unless site (os ++ more) answer ≡ (site, reply)
  first-stops [] reply e = absurd (none-some reply e)
  first-stops (None ∷ os) reply e = first-stops os reply e
  first-stops (Some r ∷ os) reply e = ap (λ z. let a : Answer = (site, z) in a) (same_Some r reply e)

  pub first-passes : (os : List (Option Reply)) → ◌≡◌ {A = Option Reply} (first_reply os) None → unless site (os ++ more) answer ≡ unless site more answer
  first-passes [] e = refl
  first-passes (None ∷ os) e = first-passes os e
  first-passes (Some r ∷ os) e = absurd (none-some r (sym e))

-- none is first where there is none
pub first-none : (os : List (Option Reply)) → AreNone os → ◌≡◌ {A = Option Reply} (first_reply os) None
first-none [] none = refl
first-none (None ∷ os) none = first-none os none
first-none (Some r ∷ os) none = absurd (both_ways false refl none)

pub none-first : (os : List (Option Reply)) → ◌≡◌ {A = Option Reply} (first_reply os) None → AreNone os
none-first [] e = refl
none-first (None ∷ os) e = none-first os e
none-first (Some r ∷ os) e = absurd (none-some r (sym e))

-- where one is first, not all are none
pub some-first : (os : List (Option Reply)) (reply : Reply) → first_reply os ≡ Some reply → list_all is_none os ≡ false
some-first [] reply e = absurd (none-some reply e)
some-first (None ∷ os) reply e = some-first os reply e
some-first (Some r ∷ os) reply e = refl

-- the first of the first ones is the first of all
pub sooner : (n : ℕ) (os : List (Option Reply)) (reply : Reply) → first_reply (take n os) ≡ Some reply → first_reply os ≡ Some reply
sooner zero os reply e = absurd (none-some reply e)
sooner (suc n) [] reply e = absurd (none-some reply e)
sooner (suc n) (None ∷ os) reply e = sooner n os reply e
sooner (suc n) (Some r ∷ os) reply e = e

pub later : (n : ℕ) (os : List (Option Reply)) → ◌≡◌ {A = Option Reply} (first_reply (take n os)) None → first_reply os ≡ first_reply (drop n os)
later zero os e = refl
later (suc n) [] e = refl
later (suc n) (None ∷ os) e = later n os e
later (suc n) (Some r ∷ os) e = absurd (none-some r (sym e))

-- behind the first six comes the one on the writes
pub past-six : (site : Site) (r : Record) → ◌≡◌ {A = Option Reply} (first_reply (first_judgements site r)) None →
    first_reply (judgements site r) ≡ first_reply (refuse_found OpenConflict (open_conflict site.dag r.parents r.writes) ∷ [])
past-six site r e = later 6 (judgements site r) e

pub within-six : (site : Site) (r : Record) (reply : Reply) → first_reply (first_judgements site r) ≡ Some reply → first_reply (judgements site r) ≡ Some reply
within-six site r reply e = sooner 6 (judgements site r) reply e

-- ===== The shape of a record

-- its site isn't 0, and it has at most 8 parents
pub record-shape : (r : Record) → IsTrue (is_record r) → (1 ≤ r.id.site) × (length r.parents ≤ 8)
record-shape r valid =
    let x = r.id in
    let ps = r.parents in
    let positive = nat_le 1 x.site && nat_le 1 x.sequence in
    let all = and_parts (is_id x && not (same_id x root) && are_parents ps) (are_writes r.writes) valid in
    let named = and_parts (is_id x && not (same_id x root)) (are_parents ps) all.0 in
    let other = and_parts (is_id x) (not (same_id x root)) named.0 in
    let id = and_parts (is_u16 x.site && is_u32 x.sequence) (same_id x root || positive) other.0 in
    let ascending = and_parts (is_within 1 most_parents (length ps) && list_all is_id ps) (are_ascending ps) named.1 in
    let few = and_parts (is_within 1 most_parents (length ps)) (list_all is_id ps) ascending.0 in
    let first : 1 ≤ x.site = elim (or_cases (same_id x root) positive id.1) [
      | inl same ↦ absurd (both_ways (same_id x root) (not-true (same_id x root) other.1) same)
      | inr some ↦ leb-true 1 x.site (and_parts (nat_le 1 x.site) (nat_le 1 x.sequence) some).0
    ] in
    (first, leb-true (length ps) most_parents (and_parts (nat_le 1 (length ps)) (nat_le (length ps) most_parents) few.0).1)

-- ===== What a judged record is answered

module _ (site : Site) (r : Record) where
  abbrev joined : Answer
  joined = (with_record r site, Applied)

  abbrev answered : Answer → Answer
  answered a = (if says_early a.1 then with_held r a.0 else a.0, a.1)

  pub delivered-early : (have : ℕ) → first_reply (judgements site r) ≡ Some (Early have) → deliver_record site r ≡ (with_held r site, Early have)
  delivered-early have e = ap answered (first-stops site (growth_refusals site r) joined (judgements site r) (Early have) e)

  pub delivered-known : first_reply (judgements site r) ≡ Some Known → deliver_record site r ≡ (site, Known)
  delivered-known e = ap answered (first-stops site (growth_refusals site r) joined (judgements site r) Known e)

  pub delivered-refused : (refusal : Refusal) → first_reply (judgements site r) ≡ Some (Refused refusal) → deliver_record site r ≡ refused site refusal
  delivered-refused refusal e = ap answered (first-stops site (growth_refusals site r) joined (judgements site r) (Refused refusal) e)

  grown-answered : (o : Option Refusal) → answered (unless site (refuse_found (λ f. f) o ∷ []) joined) ≡ unless site (refuse_found (λ f. f) o ∷ []) joined
  grown-answered None = refl
  grown-answered (Some refusal) = refl

  pub delivered-fit : ◌≡◌ {A = Option Reply} (first_reply (judgements site r)) None → deliver_record site r ≡ unless site (growth_refusals site r) joined
  delivered-fit e =
      ap answered (first-passes site (growth_refusals site r) joined (judgements site r) e)
      ∙ grown-answered (growth_refusal site.limits site.collected site.dag r)

-- an early record is held
pub early-held : (core : Core) (site : Site) (r : Record) (room : List Record) → CoreStands core site → room ≡ hold r core.waiting →
    CoreStands (record core { waiting = room }) (with_held r site)
early-held core site r room stands held = record {
  store = stands.store;
  limits = stands.limits;
  own = stands.own;
  max_sessions = stands.max_sessions;
  sessions = stands.sessions;
  floors = stands.floors;
  placed = stands.placed;
  txns = stands.txns;
  slots = stands.slots;
  waiting = held ∙ ap (hold r) stands.waiting;
}

-- ===== A record that arrives

-- a fit record may arrive
pub fit-arrives : (site : Site) (r : Record) → IsSound site → IsTrue (is_record r) → ◌≡◌ {A = Option Reply} (first_reply (judgements site r)) None →
    MayArrive site.limits.sites site.dag site.collected r
fit-arrives site r sound valid e =
    let is_welcome = welcome site r valid sound (none-first (judgements site r) e) in
    record {
      next = is_welcome.next;
      site = is_welcome.of_a_site;
      kept = λ p among. below-open site sound p (unfound-at (is_closed site.dag site.floors) r.parents p is_welcome.free among) p (above-reflexive site.dag p);
    }

-- so it may be added below the slots of its parents
pub fit-may-be-added : (core : Core) (site : Site) (r : Record) (below : List Slot) → CoreStands core site →
    MayArrive site.limits.sites site.dag site.collected r → map (id_at core.store.table) below ≡ map (λ p. Some p) r.parents →
    MayBeAdded core.store.table site.dag site.collected r below
fit-may-be-added core site r below stands may named = record {
  next = may.next;
  site = subst (λ l. r.id.site ≤ l.sites) (sym stands.limits) may.site;
  slots = named;
  kept = may.kept;
}

-- what stands for a site stands for it with the record
pub grown-site : (core : Core) (site : Site) (r : Record) (store : Store) → CoreStands core site → StoreStands store (r ∷ site.dag) site.collected →
    KeepsSlots core.store.table store.table → store.table.limits ≡ core.store.table.limits →
    CoreStands (record core { store = store }) (with_record r site)
grown-site core site r store stands store_stands keeps limits = record {
  store = store_stands;
  limits = limits ∙ stands.limits;
  own = stands.own;
  max_sessions = stands.max_sessions;
  sessions = stands.sessions;
  floors = stands.floors;
  placed = placed-grow core.book core.store.table store.table site.dag site.collected r stands.store.table keeps stands.placed;
  txns = stands.txns;
  slots = λ m h f. txn-names-stay core.store.table store.table keeps h (stands.slots m h f);
  waiting = stands.waiting;
}

-- what is held stays held
pub grown-parts : (a : Inside) (store : Store) → IsHeld a → KeepsSlots a.store.table store.table → store.table.limits ≡ a.store.table.limits →
    IsHeld (record a { store = store })
grown-parts a store held keeps limits = record {
  places = slots-grow a.book a.store.table store.table keeps held.places;
  slots = λ m h f. txn-slots-stay a.store.table store.table keeps h (held.slots m h f);
  floors = held.floors ∙ ap (λ l. l.sites) (sym limits);
  room = held.room;
}

-- a record that joins the site, or the room that is wanting for it
module _ (core : Core) (site : Site) (r : Record) (store : Store) (stands : CoreStands core site) where
  growth-same : growth_refusal core.store.table.limits site.collected site.dag r ≡ growth_refusal site.limits site.collected site.dag r
  growth-same = ap (λ l. growth_refusal l site.collected site.dag r) stands.limits

  pub growth-free : (answer : Answer) (slot : Slot) → AddedIn core.store store site.dag site.collected r (Ok slot) →
      unless site (growth_refusals site r) answer ≡ answer
  growth-free answer slot (free, there) = skip-found site (λ (g : Refusal). g) (growth_refusal site.limits site.collected site.dag r) [] answer
      (sym growth-same ∙ free)

  pub growth-stops : (answer : Answer) (fault : AddFault) → AddedIn core.store store site.dag site.collected r (Err fault) → store.table ≡ core.store.table →
      Stops (CoreStands (record core { store = store })) (unless site (growth_refusals site r) answer) site (add_stop fault)
  growth-stops answer fault added same = go fault added
    where
      refuses : (refusal : Refusal) → growth_refusal core.store.table.limits site.collected site.dag r ≡ Some refusal →
          unless site (growth_refusals site r) answer ≡ refused site refusal
      refuses refusal full = stop-found site (λ (g : Refusal). g) (growth_refusal site.limits site.collected site.dag r) refusal [] answer
          (sym growth-same ∙ full)

      go : (f : AddFault) → AddedIn core.store store site.dag site.collected r (Err f) →
          Stops (CoreStands (record core { store = store })) (unless site (growth_refusals site r) answer) site (add_stop f)
      go (Full kept) (full, there) = (same-table-stands core site store stands same there, refuses (IsFull kept) full)
      go (PathFull x m) (full, there) = (same-table-stands core site store stands same there, refuses (IsPathFull x m) full)
      go OutOfMemory there = same-table-stands core site store stands same there

-- ===== The waiting room

-- each record stays such as a request may carry
pub held-valid : (r : Record) (room : List Record) → IsTrue (is_record r) → IsTrue (list_all is_record room) → IsTrue (list_all is_record (hold r room))
held-valid r room valid all =
    cond_both (waits room r.id) room ((if is_full room then drop 1 room else room) ++ r ∷ []) (λ (qs : List Record). IsTrue (list_all is_record qs)) (λ t. all)
    (λ f. cond_both (is_full room) (drop 1 room) room (λ (qs : List Record). IsTrue (list_all is_record (qs ++ r ∷ [])))
    (λ t. joins (drop 1 room) (dropped room all)) (λ g. joins room all))
  where
    joins : (qs : List Record) → IsTrue (list_all is_record qs) → IsTrue (list_all is_record (qs ++ r ∷ []))
    joins [] h = and_from (is_record r) true valid refl
    joins (q ∷ qs) h =
        let parts = and_parts (is_record q) (list_all is_record qs) h in
        and_from (is_record q) (list_all is_record (qs ++ r ∷ [])) parts.0 (joins qs parts.1)

    dropped : (qs : List Record) → IsTrue (list_all is_record qs) → IsTrue (list_all is_record (drop 1 qs))
    dropped [] h = refl
    dropped (q ∷ qs) h = (and_parts (is_record q) (list_all is_record qs) h).1

pub at-valid : (place : ℕ) (room : List Record) (r : Record) → IsTrue (list_all is_record room) → slice_get room place ≡ Some r → IsTrue (is_record r)
at-valid place [] r all e = absurd (none-some r e)
at-valid zero (q ∷ qs) r all e = subst (λ z. IsTrue (is_record z)) (same_Some q r e) (and_parts (is_record q) (list_all is_record qs) all).0
at-valid (suc place) (q ∷ qs) r all e = at-valid place qs r (and_parts (is_record q) (list_all is_record qs) all).1 e

-- the parts with another room
pub room-held : (a : Inside) (room : List Record) → IsHeld a → IsTrue (list_all is_record room) → IsHeld (record a { waiting = room })
room-held a room held all = record { places = held.places; slots = held.slots; floors = held.floors; room = all }

abbrev up : ℕ × Record → ℕ × Record
up found = (found.0 + 1, found.1)

-- the record at the first fit place
pub record FitAt (fits : Record → Bool) (room : List Record) (place : ℕ) : Type 0 where
  pub value : Record
  pub first : first_fit fits room ≡ Some (place, value)
  pub there : slice_get room place ≡ Some value
  pub fit : IsTrue (fits value)

module _ (fits : Record → Bool) where
  -- where none before a place is fit and the one there is, it is the first
  pub fit-there : (place : ℕ) (room : List Record) (r : Record) → ◌≡◌ {A = Option (ℕ × Record)} (first_fit fits (take place room)) None →
      slice_get room place ≡ Some r → IsTrue (fits r) → first_fit fits room ≡ Some (place, r)
  fit-there place [] r none e fit = absurd (none-some r e)
  fit-there zero (q ∷ qs) r none e fit =
      let same : q ≡ r = same_Some q r e in
      cond-true (fits q) (Some (0, q)) (option_map up (first_fit fits qs)) (subst (λ z. IsTrue (fits z)) (sym same) fit) ∙ ap (λ (z : Record). Some (0, z)) same
  fit-there (suc place) (q ∷ qs) r none e fit = let next : place + 1 ≡ suc place = omega arith in elim (cases_Bool (fits q)) [
    | inl t ↦ absurd (none-some (0, q) (sym none ∙ cond-true (fits q) (Some (0, q)) (option_map up (first_fit fits (take place qs))) t))
    | inr f ↦
        let before : first_fit fits (take place qs) ≡ None =
        unmapped (first_fit fits (take place qs)) (sym (cond-false (fits q) (Some (0, q)) (option_map up (first_fit fits (take place qs))) f) ∙ none) in
        cond-false (fits q) (Some (0, q)) (option_map up (first_fit fits qs)) f ∙ ap (option_map up) (fit-there place qs r before e fit)
        ∙ ap (λ n. let found : Option (ℕ × Record) = Some (n, r) in found) next
  ]
    where
      unmapped : (o : Option (ℕ × Record)) → ◌≡◌ {A = Option (ℕ × Record)} (option_map up o) None → o ≡ None
      unmapped None e = refl
      unmapped (Some v) e = absurd (none-some (up v) (sym e))

  -- one more that isn't fit
  pub none-further : (place : ℕ) (room : List Record) (r : Record) → ◌≡◌ {A = Option (ℕ × Record)} (first_fit fits (take place room)) None →
      slice_get room place ≡ Some r → IsFalse (fits r) →
      ◌≡◌ {A = Option (ℕ × Record)} (first_fit fits (take (suc place) room)) None
  none-further place [] r none e unfit = absurd (none-some r e)
  none-further zero (q ∷ qs) r none e unfit = cond-false (fits q) (Some (0, q)) None (subst (λ z. IsFalse (fits z)) (sym (same_Some q r e)) unfit)
  none-further (suc place) (q ∷ qs) r none e unfit = elim (cases_Bool (fits q)) [
    | inl t ↦ absurd (none-some (0, q) (sym none ∙ cond-true (fits q) (Some (0, q)) (option_map up (first_fit fits (take place qs))) t))
    | inr f ↦
        let before : first_fit fits (take place qs) ≡ None =
        unmapped (first_fit fits (take place qs)) (sym (cond-false (fits q) (Some (0, q)) (option_map up (first_fit fits (take place qs))) f) ∙ none) in
        cond-false (fits q) (Some (0, q)) (option_map up (first_fit fits (take (suc place) qs))) f ∙ ap (option_map up) (none-further place qs r before e unfit)
  ]
    where
      unmapped : (o : Option (ℕ × Record)) → ◌≡◌ {A = Option (ℕ × Record)} (option_map up o) None → o ≡ None
      unmapped None e = refl
      unmapped (Some v) e = absurd (none-some (up v) (sym e))

  pub fit-at : (room : List Record) (place : ℕ) → option_map (λ (found : ℕ × Record). found.0) (first_fit fits room) ≡ Some place → FitAt fits room place
  fit-at [] place e = absurd (none-some place e)
  fit-at (q ∷ qs) place e = elim (cases_Bool (fits q)) [
    | inl t ↦
        let here = cond-true (fits q) (Some (0, q)) (option_map up (first_fit fits qs)) t in
        let same : 0 ≡ place = same_Some 0 place (sym (ap (option_map (λ (found : ℕ × Record). found.0)) here) ∙ e) in
        subst (FitAt fits (q ∷ qs)) same (record { value = q; first = here; there = refl; fit = t })
    | inr f ↦
        let behind = cond-false (fits q) (Some (0, q)) (option_map up (first_fit fits qs)) f in
        go (fit-at qs) (first_fit fits qs) refl behind (sym (ap (option_map (λ (found : ℕ × Record). found.0)) behind) ∙ e)
  ]
    where
      go : ((n : ℕ) → option_map (λ (found : ℕ × Record). found.0) (first_fit fits qs) ≡ Some n → FitAt fits qs n) → (o : Option (ℕ × Record)) →
          first_fit fits qs ≡ o →
          first_fit fits (q ∷ qs) ≡ option_map up (first_fit fits qs) → option_map (λ (found : ℕ × Record). found.0) (option_map up (first_fit fits qs))
          ≡ Some place → FitAt fits (q ∷ qs) place
      go rest None is behind some = absurd (none-some place (sym (ap (λ z. option_map (λ (found : ℕ × Record). found.0) (option_map up z)) is) ∙ some))
      go rest (Some v) is behind some =
          let next : suc v.0 ≡ v.0 + 1 = omega arith in
          let at = rest v.0 (ap (option_map (λ (found : ℕ × Record). found.0)) is) in
          let same : v.0 + 1 ≡ place = same_Some (v.0 + 1) place (sym (ap (λ z. option_map (λ (found : ℕ × Record). found.0) (option_map up z)) is) ∙ some) in
          subst (FitAt fits (q ∷ qs)) same (record {
            value = at.value;
            first = behind ∙ ap (option_map up) at.first;
            there =
                subst (λ n. slice_get (q ∷ qs) n ≡ Some at.value) next at.there;
            fit = at.fit;
          })

-- what is so of a result is so of what follows
pub if-ok : {A E : Type 0} (P Q : A → Type 0) (r : Result A E) → ((a : A) → P a → Q a) → IfOk r P → IfOk r Q
if-ok P Q (Ok a) follows p = follows a p
if-ok P Q (Err e) follows p = tt

pub ok-all : {A E : Type 0} (P : A → Type 0) (r : Result A E) → ((a : A) → P a) → IfOk r P
ok-all P (Ok a) all = all a
ok-all P (Err e) all = tt

-- a site's waiting record is fit where no judgement of it is first
pub is-fit : (site : Site) (r : Record) → ◌≡◌ {A = Option Reply} (first_reply (judgements site r)) None → IsTrue (is_fit site r)
is-fit site r e = none-first (judgements site r) e

pub is-unfit : (site : Site) (r : Record) (reply : Reply) → first_reply (judgements site r) ≡ Some reply → IsFalse (is_fit site r)
is-unfit site r reply e = some-first (judgements site r) reply e

-- so is one that is judged otherwise than Fit
pub judged-unfit : (site : Site) (r : Record) (judged : Judged) → ¬ (judged ≡ IsFit) → reply_of judged ≡ first_reply (judgements site r) →
    IsFalse (is_fit site r)
judged-unfit site r IsFit other e = absurd (other refl)
judged-unfit site r IsKnownOne other e = is-unfit site r Known (sym e)
judged-unfit site r (IsEarlyOne have) other e = is-unfit site r (Early have) (sym e)
judged-unfit site r (IsRefusedOne refusal) other e = is-unfit site r (Refused refusal) (sym e)

-- what is settled, by the first fit record
pub settled-at : (site : Site) (found : ℕ × Record) → first_fit_record site ≡ Some found → settle site ≡ settle_record site found
settled-at site found e = ap (λ o. given o (let a : Answer = (site, Done) in a) (settle_record site)) e

pub settled-none : (site : Site) → ◌≡◌ {A = Option (ℕ × Record)} (first_fit_record site) None → settle site ≡ (site, Done)
settled-none site e = ap (λ o. given o (let a : Answer = (site, Done) in a) (settle_record site)) e

pub none-mapped : (o : Option (ℕ × Record)) → ◌≡◌ {A = Option ℕ} (option_map (λ (found : ℕ × Record). found.0) o) None → o ≡ None
none-mapped None e = refl
none-mapped (Some v) e = absurd (none-some v.0 (sym e))

-- the record leaves the room
pub left-room : (core : Core) (site : Site) (place : ℕ) (room : List Record) → CoreStands core site → room ≡ without place core.waiting →
    CoreStands (record core { waiting = room }) (record site { waiting = without place site.waiting })
left-room core site place room stands left = record {
  store = stands.store;
  limits = stands.limits;
  own = stands.own;
  max_sessions = stands.max_sessions;
  sessions = stands.sessions;
  floors = stands.floors;
  placed = stands.placed;
  txns = stands.txns;
  slots = stands.slots;
  waiting = left ∙ ap (without place) stands.waiting;
}

-- it leaves the room, and arrives
pub settled-site : (core : Core) (site : Site) (r : Record) (place : ℕ) (store : Store) (room : List Record) → CoreStands core site →
    room ≡ without place core.waiting → StoreStands store (r ∷ site.dag) site.collected →
    KeepsSlots core.store.table store.table → store.table.limits ≡ core.store.table.limits →
    CoreStands (record core { store = store; waiting = room }) (with_settled (place, r) site)
settled-site core site r place store room stands left store_stands keeps limits =
    grown-site (record core { waiting = room }) (record site { waiting = without place site.waiting }) r store (left-room core site place room stands left)
    store_stands keeps limits

-- the parts, once it has
pub settled-parts : (a : Inside) (place : ℕ) (store : Store) (room : List Record) → IsHeld a → KeepsSlots a.store.table store.table → store.table.limits
    ≡ a.store.table.limits → room ≡ without place a.waiting →
    IsHeld (record a { store = store; waiting = room })
settled-parts a place store room held keeps limits left =
    room-held (record a { store = store }) room (grown-parts a store held keeps limits)
    (subst (λ (rs : List Record). IsTrue (list_all is_record rs)) (sym left) (all-without is_record place a.waiting held.room))

-- ===== Consents

module _ (core : Core) (book : Book) (site : Site) (c : Consent) (stands : CoreStands core site) (sites : length site.floors ≡ site.limits.sites) where
  abbrev f : Floor
  f = floor_of site.floors c.site

  abbrev taken : Answer
  taken = (record site { floors = with_floor site.floors c.site (record { state = c.floor; number = c.number; stated = c.count }) }, Applied)

  -- the judgements of a consent, from the last to the first
  abbrev back : List (Option Reply)
  back = refuse (not (is_above site.dag f.state c.floor)) (FloorBack f.state) ∷ []

  abbrev early : List (Option Reply)
  early = when (is_early_consent site.dag c) (Early (count_of_site site.dag c.site)) ∷ back

  abbrev own_one : List (Option Reply)
  own_one = refuse (c.site == site.own) (OwnItem c.site c.number) ∷ early

  abbrev known_one : List (Option Reply)
  known_one = when (nat_le c.number f.number) Known ∷ own_one

  -- what is told of a consent that ends so
  abbrev Ends : Answer → ConsentEnd → Type 0
  Ends answer end = TakenIn core.book book c end → GivesOrStops (CoreStands (record core { book = book })) answer site (consent_reply end)

  same : (end : ConsentEnd) → book ≡ core.book → CoreStands (record core { book = book }) site
  same end e = subst (λ b. CoreStands (record core { book = b }) site) (sym e) stands

  -- one judgement after another
  either : (test : Bool) (reply : Reply) (more : List (Option Reply)) (first rest : ConsentEnd) → ((test ≡ true) → Ends (site, reply) first) →
      Ends (unless site more taken) rest →
      Ends (unless site (when test reply ∷ more) taken) (if test then first else rest)
  either true reply more first rest here later = here refl
  either false reply more first rest here later = later

  applied : KeepsSessions core.book book → ArePlaced book core.store.table site.dag site.collected → Ends taken IsTaken
  applied rest placed moved = (
    with-floors core book site taken.0.floors stands rest placed
        (moved ∙ ap (λ (fs : List Floor). with_floor fs c.site (record { state = c.floor; number = c.number; stated = c.count })) stands.floors),
    refl,
  )

  pub consent-gives : KeepsSessions core.book book → ArePlaced book core.store.table site.dag site.collected →
      TakenIn core.book book c (consent_end site.dag site.floors site.own c) →
      GivesOrStops (CoreStands (record core { book = book })) (deliver_consent site c) site (consent_reply (consent_end site.dag site.floors site.own c))
  consent-gives rest placed =
      subst (λ m. Ends (unless site (refuse (nat_lt m c.site) (BadSite c.site) ∷ known_one) taken) (consent_end site.dag site.floors site.own c)) sites
      (either (nat_lt (length site.floors) c.site) (Refused (BadSite c.site)) known_one (IsRefused (BadSite c.site))
      (if nat_le c.number f.number then WasKnown else
      if c.site == site.own then IsRefused (OwnItem c.site c.number) else
      if is_early_consent site.dag c then IsEarly (count_of_site site.dag c.site) else
      if not (is_above site.dag f.state c.floor) then IsRefused (FloorBack f.state) else IsTaken)
      (λ t e. (same (IsRefused (BadSite c.site)) e, refl))
      (either (nat_le c.number f.number) Known own_one WasKnown
      (if c.site == site.own then IsRefused (OwnItem c.site c.number) else
      if is_early_consent site.dag c then IsEarly (count_of_site site.dag c.site) else
      if not (is_above site.dag f.state c.floor) then IsRefused (FloorBack f.state) else IsTaken)
      (λ t e. (same WasKnown e, refl))
      (either (c.site == site.own) (Refused (OwnItem c.site c.number)) early (IsRefused (OwnItem c.site c.number))
      (if is_early_consent site.dag c then IsEarly (count_of_site site.dag c.site) else
      if not (is_above site.dag f.state c.floor) then IsRefused (FloorBack f.state) else IsTaken)
      (λ t e. (same (IsRefused (OwnItem c.site c.number)) e, refl))
      (either (is_early_consent site.dag c) (Early (count_of_site site.dag c.site)) back (IsEarly (count_of_site site.dag c.site))
      (if not (is_above site.dag f.state c.floor) then IsRefused (FloorBack f.state) else IsTaken)
      (λ t e. (same (IsEarly (count_of_site site.dag c.site)) e, refl))
      (either (not (is_above site.dag f.state c.floor)) (Refused (FloorBack f.state)) [] (IsRefused (FloorBack f.state)) IsTaken
      (λ t e. (same (IsRefused (FloorBack f.state)) e, refl))
      (applied rest placed))))))

-- ===== A pull

-- book and table stand for the site
pub book-stands : (core : Core) (site : Site) → CoreStands core site → IsSound site → BookStands core.store.table core.book site
book-stands core site stands sound = record {
  limits = stands.limits;
  own = stands.own;
  floors = stands.floors;
  placed = stands.placed;
  closed = sound.collected.closed;
}

pub pull-gives : (site : Site) (counts : List ℕ) → (length counts == site.limits.sites) ≡ true → pull site counts ≡ (site, BatchIs (batch_for site counts))
pull-gives site counts e =
    skip site (Refused (BadSite (length counts))) [] (site, BatchIs (batch_for site counts)) (not (length counts == site.limits.sites))
    (not_from_true (length counts == site.limits.sites) e)

pub pull-refuses : (site : Site) (counts : List ℕ) → (length counts == site.limits.sites) ≡ false → pull site counts ≡ refused site (BadSite (length counts))
pull-refuses site counts e =
    stop site (Refused (BadSite (length counts))) [] (site, BatchIs (batch_for site counts)) (not (length counts == site.limits.sites))
    (not_from_false (length counts == site.limits.sites) e)
