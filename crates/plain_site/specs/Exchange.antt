-- Sites give each other their news, and take it.
use Rattle.std.specs.Prelude.{ℕ, Bool, ◌==◌, ◌+◌, ◌-◌, ◌&&◌, ◌||◌, not, nat_lt, nat_le, List, [], ◌∷◌, ◌++◌, length, filter, find, is_none, unwrap_or}
use Rattle.std.specs.Prelude.{slice_get, Option, if◌then◌else◌}
use Rattle.std.specs.List.{list_all}
use Rattle.tardis_base.specs.declared.records.Record.{Record}
use Rattle.tardis_base.specs.declared.records.Consent.{Consent}
use Rattle.tardis_base.specs.declared.records.Batch.{Batch}
use Rattle.tardis_base.specs.declared.records.Item.{Item}
use Rattle.tardis_base.specs.declared.records.Item.TheVariants.{State, Promise}
use Rattle.tardis_base.specs.declared.replies.Refusal.TheVariants.{BadSite, OwnItem, ClosedParent, Comparable, OpenConflict, FloorBack}
use Rattle.tardis_base.specs.declared.replies.Reply.{Reply}
use Rattle.tardis_base.specs.declared.replies.Reply.TheVariants.{Batch as BatchIs, Done, Known, Early, Applied}
use Rattle.tardis_base.specs.Sizes.{most_news}
use Rattle.wire_item.specs.Spellings.{record_spelling}
use Rattle.plain_dag.specs.States.{is_known, count_of_site}
use Rattle.plain_dag.specs.Above.{is_above, comparable_pair}
use Rattle.plain_dag.specs.Conflicts.{open_conflict}
use Rattle.plain_dag.specs.Floors.{Floor, floor_of, with_floor, consented, is_closed, is_above_floors}
use Rattle.plain_site.specs.Site.{Site}
use Rattle.plain_site.specs.WaitingRoom.{hold, first_fit, without}
use Rattle.plain_site.specs.Answers.{Answer, says_early, when, refuse, refuse_found, unless, given}
use Rattle.plain_site.specs.Commits.{with_record, growth_refusals}

-- ===== A batch

-- the records, newest last, in front of the first that would bring their spellings above so many bytes in all
abbrev pub fitting : ℕ → List Record → List Record
fitting room [] = []
fitting room (r ∷ rs) =
    let size = length (record_spelling r) in
    let rest = fitting (room - size) rs in
    if nat_le size room then r ∷ rest else []

-- the record is news for whoever has these counts: its sequence is above its site's count, and it isn't at or above every
-- floor
abbrev pub is_news_for : Site → List ℕ → Record → Bool
is_news_for site counts r = nat_lt (unwrap_or (slice_get counts (r.id.site - 1)) 0) r.id.sequence && not (is_above_floors site.dag site.floors r.id)

-- the records in arrival order
abbrev pub in_arrival_order : List Record → List Record
in_arrival_order [] = []
in_arrival_order (r ∷ rs) = in_arrival_order rs ++ r ∷ []

-- the consents with a number above 0, of this site and those after it
abbrev pub consents_from : ℕ → List Floor → List Consent
consents_from n [] = []
consents_from n (f ∷ fs) =
    let rest = consents_from (n + 1) fs in
    if f.number == 0 then rest else record { site = n; number = f.number; floor = f.state; count = f.stated } ∷ rest

-- the batch for these counts: the news as far as it fits, and all consents
abbrev pub batch_for : Site → List ℕ → Batch
batch_for site counts =
    record {
      records = fitting most_news (filter (is_news_for site counts) (in_arrival_order site.dag));
      consents = consents_from 1 site.floors;
    }

-- as many counts as sites
abbrev pub pull : Site → List ℕ → Answer
pull site counts =
    unless site (refuse (not (length counts == site.limits.sites)) (BadSite (length counts)) ∷ []) (site, BatchIs (batch_for site counts))

-- ===== What is delivered

-- the record comes before others that it needs: it isn't its site's next, or a parent isn't known
abbrev pub is_early : Site → Record → Bool
is_early site r = not (r.id.sequence == count_of_site site.dag r.id.site + 1 && list_all (is_known site.dag) r.parents)

-- how a record is judged, as far as it doesn't concern room: one that is known is Known, also where it is an own one; and a
-- parent that is closed is told before parents that aren't apart
abbrev pub judgements : Site → Record → List (Option Reply)
judgements site r =
    refuse (nat_lt site.limits.sites r.id.site) (BadSite r.id.site)
    ∷ when (nat_le r.id.sequence (count_of_site site.dag r.id.site)) Known
    ∷ refuse (r.id.site == site.own) (OwnItem r.id.site r.id.sequence)
    ∷ when (is_early site r) (Early (count_of_site site.dag r.id.site))
    ∷ refuse_found ClosedParent (find (is_closed site.dag site.floors) r.parents)
    ∷ refuse_found (λ pair. Comparable pair.0 pair.1) (comparable_pair site.dag r.parents)
    ∷ refuse_found OpenConflict (open_conflict site.dag r.parents r.writes)
    ∷ []

-- a record of another site arrives, where nothing speaks against it
abbrev pub take_record : Site → Record → Answer
take_record site r = unless site (judgements site r ++ growth_refusals site r) (with_record r site, Applied)

-- the record is held in the waiting room
abbrev pub with_held : Record → Site → Site
with_held r site = record site { waiting = hold r site.waiting }

-- the record is taken, or the reply says why not; one that is early is held
abbrev pub deliver_record : Site → Record → Answer
deliver_record site r =
    let answer = take_record site r in
    (if says_early answer.1 then with_held r answer.0 else answer.0, answer.1)

-- how a consent is judged
abbrev pub consent_judgements : Site → Consent → List (Option Reply)
consent_judgements site c =
    let f = floor_of site.floors c.site in
    refuse (nat_lt site.limits.sites c.site) (BadSite c.site)
    ∷ when (nat_le c.number f.number) Known
    ∷ refuse (c.site == site.own) (OwnItem c.site c.number)
    ∷ when (nat_lt (count_of_site site.dag c.site) c.count || not (is_known site.dag c.floor)) (Early (count_of_site site.dag c.site))
    ∷ refuse (not (is_above site.dag f.state c.floor)) (FloorBack f.state)
    ∷ []

-- a consent of another site is taken: its floor, its number and its count
abbrev pub deliver_consent : Site → Consent → Answer
deliver_consent site c =
    unless site (consent_judgements site c)
    (record site { floors = with_floor site.floors c.site (consented c) }, Applied)

abbrev pub deliver : Site → Item → Answer
deliver site (State r) = deliver_record site r
deliver site (Promise c) = deliver_consent site c

-- ===== What waits

-- the record is fit: no judgement speaks against it
abbrev pub is_fit : Site → Record → Bool
is_fit site r = list_all is_none (judgements site r)

-- the first of the waiting records that is fit, behind its place
abbrev pub first_fit_record : Site → Option (ℕ × Record)
first_fit_record site = first_fit (is_fit site) site.waiting

-- the record leaves its place in the waiting room, and arrives
abbrev pub with_settled : ℕ × Record → Site → Site
with_settled found site = with_record found.1 (record site { waiting = without found.0 site.waiting })

-- the waiting record is taken, where the site may grow by it
abbrev pub settle_record : Site → ℕ × Record → Answer
settle_record site found = unless site (growth_refusals site found.1) (with_settled found site, Applied)

-- the first waiting record that is fit is taken; where none is, nothing is done
abbrev pub settle : Site → Answer
settle site = given (first_fit_record site) (site, Done) (settle_record site)
