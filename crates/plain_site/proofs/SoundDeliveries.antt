-- What is delivered keeps a sound site sound.
use Rattle.std.proofs.Common.{◌≡◌, ℕ, ◌+◌, ◌≤◌, Bool, true, false, not, List, [], ◌∷◌, ◌++◌, find, is_none, Option, Some, None, IsTrue, IsFalse, refl, sym}
use Rattle.std.proofs.Common.{ap, subst}
use Rattle.std.specs.Prelude.{◌==◌, ◌&&◌, ◌||◌, nat_le, nat_lt}
use Rattle.std.specs.List.{list_all}
use Rattle.std.proofs.lemmas.Bool.{and_parts, and_from, or_parts, both_ways, cond_both, not-false, not_from_false, ltb-false, leb-true, le-leb, eqb-true}
use Rattle.std.proofs.lemmas.Bool.{eqb-false}
use Rattle.tardis_base.specs.declared.ids.StateId.{StateId}
use Rattle.tardis_base.specs.declared.records.Record.{Record}
use Rattle.tardis_base.specs.declared.records.Consent.{Consent}
use Rattle.tardis_base.specs.declared.records.Item.{Item}
use Rattle.tardis_base.specs.declared.records.Item.TheVariants.{State, Promise}
use Rattle.tardis_base.specs.declared.replies.Refusal.TheVariants.{BadSite, OwnItem, ClosedParent, Comparable, OpenConflict, FloorBack}
use Rattle.tardis_base.specs.declared.replies.Reply.{Reply}
use Rattle.tardis_base.specs.declared.replies.Reply.TheVariants.{Done, Known, Early, Applied, Refused}
use Rattle.tardis_base.specs.Valid.{is_u16, is_u32, is_id, is_record}
use Rattle.wire_item.specs.Valid.{is_consent, is_item}
use Rattle.plain_dag.specs.States.{is_known, count_of_site}
use Rattle.plain_dag.specs.Above.{is_above, comparable_pair}
use Rattle.plain_dag.specs.Conflicts.{open_conflict}
use Rattle.plain_dag.specs.Dag.{IsNext}
use Rattle.plain_dag.specs.Floors.{floor_of, with_floor, is_closed}
use Rattle.plain_dag.specs.Growth.{growth_refusal}
use Rattle.plain_site.specs.Site.{Site}
use Rattle.plain_site.specs.Answers.{Answer, says_early, when, refuse, refuse_found, unless}
use Rattle.plain_site.specs.Commits.{with_record, growth_refusals}
use Rattle.plain_site.specs.WaitingRoom.{hold, without}
use Rattle.plain_site.specs.Exchange.{is_early, judgements, take_record, with_held, deliver_record, consent_judgements, deliver_consent, deliver, is_fit}
use Rattle.plain_site.specs.Exchange.{first_fit_record, with_settled, settle_record, settle}
use Rattle.plain_site.specs.Sound.{may_wait, IsSoundRoom, IsSound}
use Rattle.plain_site.proofs.SoundAnswers.{AreNone, when-none, found-none, none-parts, none-appended, unless-keeps, given-keeps}
use Rattle.plain_site.proofs.SoundHistories.{next-is_new, unfound-at}
use Rattle.plain_site.proofs.SoundArrivals.{arrival-keeps}
use Rattle.plain_site.proofs.SoundCommits.{conflicts-written}
use Rattle.plain_site.proofs.SoundFloors.{floor-keeps}
use Rattle.plain_site.proofs.SoundRooms.{room-without, room-holds, first-is-fit}

-- ===== A record

-- what the judgements leave of a record
pub record IsWelcome (site : Site) (r : Record) : Type 0 where
  pub of_a_site : r.id.site ≤ site.limits.sites
  pub next : IsNext site.dag r
  pub free : find (is_closed site.dag site.floors) r.parents ≡ None

pub welcome : (site : Site) (r : Record) → IsTrue (is_record r) → IsSound site → AreNone (judgements site r) → IsWelcome site r
welcome site r valid sound none =
    let rs = site.dag in
    let count = count_of_site rs r.id.site in
    let one = refuse (nat_lt site.limits.sites r.id.site) (BadSite r.id.site) in
    let two = when (nat_le r.id.sequence count) Known in
    let three = refuse (r.id.site == site.own) (OwnItem r.id.site r.id.sequence) in
    let four = when (is_early site r) (Early count) in
    let five = refuse_found ClosedParent (find (is_closed rs site.floors) r.parents) in
    let six = refuse_found (λ (pair : StateId × StateId). Comparable pair.0 pair.1) (comparable_pair rs r.parents) in
    let seven = refuse_found OpenConflict (open_conflict rs r.parents r.writes) in
    let first = none-parts one (two ∷ three ∷ four ∷ five ∷ six ∷ seven ∷ []) none in
    let second = none-parts two (three ∷ four ∷ five ∷ six ∷ seven ∷ []) first.1 in
    let third = none-parts three (four ∷ five ∷ six ∷ seven ∷ []) second.1 in
    let fourth = none-parts four (five ∷ six ∷ seven ∷ []) third.1 in
    let fifth = none-parts five (six ∷ seven ∷ []) fourth.1 in
    let sixth = none-parts six (seven ∷ []) fifth.1 in
    let seventh = none-parts seven [] sixth.1 in
    let in_time = not-false (r.id.sequence == count + 1 && list_all (is_known rs) r.parents) (when-none (is_early site r) _ fourth.0) in
    let parts = and_parts (r.id.sequence == count + 1) (list_all (is_known rs) r.parents) in_time in
    let in_sequence : r.id.sequence ≡ count + 1 = eqb-true r.id.sequence (count + 1) parts.0 in
    record {
      of_a_site = ltb-false site.limits.sites r.id.site (when-none (nat_lt site.limits.sites r.id.site) _ first.0);
      next = record {
        shape = valid;
        new = next-is_new rs sound.dag r.id in_sequence;
        in_sequence = in_sequence;
        parents = parts.1;
        apart = ap is_none (found-none (λ (pair : StateId × StateId). Comparable pair.0 pair.1) (comparable_pair rs r.parents) sixth.0);
        merges = conflicts-written rs r.parents r.writes (found-none OpenConflict (open_conflict rs r.parents r.writes) seventh.0);
      };
      free = found-none ClosedParent (find (is_closed rs site.floors) r.parents) fifth.0;
    }

take-keeps : (site : Site) (r : Record) → IsTrue (is_record r) → IsSound site → IsSound (take_record site r).0
take-keeps site r valid sound =
    let grown = growth_refusal site.limits site.collected site.dag r in
    unless-keeps IsSound site sound (judgements site r ++ growth_refusals site r) (with_record r site, Applied)
    (λ none.
    let parts = none-appended (judgements site r) (growth_refusals site r) none in
    let is_welcome = welcome site r valid sound parts.0 in
    arrival-keeps site r sound is_welcome.next is_welcome.of_a_site
    (λ p m. unfound-at (is_closed site.dag site.floors) r.parents p is_welcome.free m)
    (found-none (λ f. f) grown (none-parts (refuse_found (λ f. f) grown) [] parts.1).0))

-- ===== A record that waits

-- what is early isn't refused before, and leaves the site as it was
past-when : (site : Site) (test : Bool) (reply : Reply) (more : List (Option Reply)) (answer : Answer) → IsFalse (says_early reply) →
    IsTrue (says_early (unless site (when test reply ∷ more) answer).1) → IsFalse test × IsTrue (says_early (unless site more answer).1)
past-when site true reply more answer other early = absurd (both_ways (says_early reply) other early)
past-when site false reply more answer other early = (refl, early)

pub early-stays : (site : Site) (replies : List (Option Reply)) (answer : Answer) → IsFalse (says_early answer.1) →
    IsTrue (says_early (unless site replies answer).1) → (unless site replies answer).0 ≡ site
early-stays site [] answer other early = absurd (both_ways (says_early answer.1) other early)
early-stays site (None ∷ more) answer other early = early-stays site more answer other early
early-stays site (Some reply ∷ more) answer other early = refl

pub taken-stays : (site : Site) (r : Record) → IsTrue (says_early (take_record site r).1) → (take_record site r).0 ≡ site
taken-stays site r early = early-stays site (judgements site r ++ growth_refusals site r) (with_record r site, Applied) refl early

early-may-wait : (site : Site) (r : Record) → IsTrue (is_record r) → IsTrue (says_early (take_record site r).1) → IsTrue (may_wait site.limits.sites site.own r)
early-may-wait site r valid early =
    let rs = site.dag in
    let count = count_of_site rs r.id.site in
    let answer : Answer = (with_record r site, Applied) in
    let five = refuse_found ClosedParent (find (is_closed rs site.floors) r.parents) in
    let six = refuse_found (λ (pair : StateId × StateId). Comparable pair.0 pair.1) (comparable_pair rs r.parents) in
    let seven = refuse_found OpenConflict (open_conflict rs r.parents r.writes) in
    let third : List (Option Reply) = (when (is_early site r) (Early count) ∷ five ∷ six ∷ seven ∷ []) ++ growth_refusals site r in
    let second : List (Option Reply) = refuse (r.id.site == site.own) (OwnItem r.id.site r.id.sequence) ∷ third in
    let first : List (Option Reply) = when (nat_le r.id.sequence count) Known ∷ second in
    let a = past-when site (nat_lt site.limits.sites r.id.site) (Refused (BadSite r.id.site)) first answer refl early in
    let b = past-when site (nat_le r.id.sequence count) Known second answer refl a.1 in
    let c = past-when site (r.id.site == site.own) (Refused (OwnItem r.id.site r.id.sequence)) third answer refl b.1 in
    and_from (is_record r && nat_le r.id.site site.limits.sites) (not (r.id.site == site.own))
    (and_from (is_record r) (nat_le r.id.site site.limits.sites) valid (le-leb r.id.site site.limits.sites (ltb-false site.limits.sites r.id.site a.0)))
    (not_from_false (r.id.site == site.own) c.0)

-- a site with another sound room is sound
pub room-keeps : (site : Site) (room : List Record) → IsSound site → IsSoundRoom site.limits.sites site.own room → IsSound (record site { waiting = room })
room-keeps site room sound room_sound = record {
  limits = sound.limits;
  own = sound.own;
  dag = sound.dag;
  of_the_sites = sound.of_the_sites;
  few_kept = sound.few_kept;
  short_paths = sound.short_paths;
  few_children = sound.few_children;
  few_sessions = sound.few_sessions;
  session_numbers = sound.session_numbers;
  each_session = sound.each_session;
  txn_numbers = sound.txn_numbers;
  each_txn = sound.each_txn;
  one_floor_each = sound.one_floor_each;
  each_floor = sound.each_floor;
  under_floor = sound.under_floor;
  collected = sound.collected;
  collected_once = sound.collected_once;
  waiting = room_sound;
}

record-keeps : (site : Site) (r : Record) → IsTrue (is_record r) → IsSound site → IsSound (deliver_record site r).0
record-keeps site r valid sound =
    let answer : Answer = take_record site r in
    cond_both (says_early answer.1) (with_held r answer.0) answer.0 (λ (next : Site). IsSound next)
    (λ early.
    subst (λ (next : Site). IsSound (with_held r next)) (sym (taken-stays site r early))
    (room-keeps site (hold r site.waiting) sound
    (room-holds site.limits.sites site.own site.waiting r sound.waiting (early-may-wait site r valid early))))
    (λ late. take-keeps site r valid sound)

pub waiting-is-record : (site : Site) (r : Record) → IsTrue (may_wait site.limits.sites site.own r) → IsTrue (is_record r)
waiting-is-record site r may =
    (and_parts (is_record r) (nat_le r.id.site site.limits.sites)
    (and_parts (is_record r && nat_le r.id.site site.limits.sites) (not (r.id.site == site.own)) may).0).0

settled-keeps : (site : Site) (found : ℕ × Record) → IsSound site → first_fit_record site ≡ Some found →
    growth_refusal site.limits site.collected site.dag found.1 ≡ None → IsSound (with_settled found site)
settled-keeps site found sound is grows =
    let r = found.1 in
    let rest = without found.0 site.waiting in
    let fit = first-is-fit (is_fit site) site.waiting found is in
    let valid = waiting-is-record site r (fit.as_all (may_wait site.limits.sites site.own) sound.waiting.each) in
    let is_welcome = welcome site r valid sound fit.passes in
    let left = room-keeps site rest sound (room-without site.limits.sites site.own found.0 site.waiting sound.waiting) in
    arrival-keeps (record site { waiting = rest }) r left is_welcome.next is_welcome.of_a_site
    (λ p m. unfound-at (is_closed site.dag site.floors) r.parents p is_welcome.free m) grows

pub settle-keeps : (site : Site) → IsSound site → IsSound (settle site).0
settle-keeps site sound =
    given-keeps IsSound site sound (first_fit_record site) (site, Done) (settle_record site) (λ none. sound)
    (λ found is.
    let grown = growth_refusal site.limits site.collected site.dag found.1 in
    unless-keeps IsSound site sound (growth_refusals site found.1) (with_settled found site, Applied)
    (λ none. settled-keeps site found sound is (found-none (λ f. f) grown (none-parts (refuse_found (λ f. f) grown) [] none).0)))

-- ===== A consent

consent-keeps : (site : Site) (c : Consent) → IsTrue (is_consent c) → IsSound site → IsSound (deliver_consent site c).0
consent-keeps site c valid sound =
    let rs = site.dag in
    let f = floor_of site.floors c.site in
    let count = count_of_site rs c.site in
    let known = is_known rs c.floor in
    let above = is_above rs f.state c.floor in
    let one = refuse (nat_lt site.limits.sites c.site) (BadSite c.site) in
    let two = when (nat_le c.number f.number) Known in
    let three = refuse (c.site == site.own) (OwnItem c.site c.number) in
    let four = when (nat_lt count c.count || not known) (Early count) in
    let five = refuse (not above) (FloorBack f.state) in
    unless-keeps IsSound site sound (consent_judgements site c)
    (record site { floors = with_floor site.floors c.site (record { state = c.floor; number = c.number; stated = c.count }) }, Applied)
    (λ none.
    let first = none-parts one (two ∷ three ∷ four ∷ five ∷ []) none in
    let second = none-parts two (three ∷ four ∷ five ∷ []) first.1 in
    let third = none-parts three (four ∷ five ∷ []) second.1 in
    let fourth = none-parts four (five ∷ []) third.1 in
    let fifth = none-parts five [] fourth.1 in
    let positive = nat_le 1 c.site && nat_le 1 c.number in
    let v = and_parts (is_u16 c.site && is_u32 c.number && is_id c.floor && is_u32 c.count) positive valid in
    let w = and_parts (is_u16 c.site && is_u32 c.number && is_id c.floor) (is_u32 c.count) v.0 in
    let x = and_parts (is_u16 c.site && is_u32 c.number) (is_id c.floor) w.0 in
    let number = (and_parts (is_u16 c.site) (is_u32 c.number) x.0).1 in
    let least = leb-true 1 c.site (and_parts (nat_le 1 c.site) (nat_le 1 c.number) v.1).0 in
    let most = ltb-false site.limits.sites c.site (when-none (nat_lt site.limits.sites c.site) _ first.0) in
    let in_time = or_parts (nat_lt count c.count) (not known) (when-none (nat_lt count c.count || not known) _ fourth.0) in
    floor-keeps site c.site (record { state = c.floor; number = c.number; stated = c.count }) sound least most
    (record { known = not-false known in_time.1; stated = ltb-false count c.count in_time.0; number = number })
    (not-false above (when-none (not above) _ fifth.0))
    (λ e. absurd (eqb-false c.site site.own (when-none (c.site == site.own) _ third.0) e)))

-- ===== Deliver

pub deliver-keeps : (site : Site) (item : Item) → IsTrue (is_item item) → IsSound site → IsSound (deliver site item).0
deliver-keeps site (State r) valid sound = record-keeps site r valid sound
deliver-keeps site (Promise c) valid sound = consent-keeps site c valid sound
